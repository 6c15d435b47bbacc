-- The fields of a line, one behind the other.
use Rattle.std.proofs.Common.{◌≡◌, ℕ, List, [], ◌++◌, decimal, ap, ◌∙◌, append_assoc}

-- a number of another width
pub field_of : (old new name : List ℕ) (n m : ℕ) → n ≡ m → new ≡ old ++ (name ++ decimal n) → new ≡ old ++ (name ++ decimal m)
field_of old new name n m same is = is ∙ ap (λ k. old ++ (name ++ decimal k)) same

-- a name and a number, five times, and the end of the line
pub five_fields : (t0 t1 t2 t3 t4 t5 t6 a b c d e end : List ℕ) → t0 ≡ [] → t1 ≡ t0 ++ a → t2 ≡ t1 ++ b → t3 ≡ t2 ++ c → t4 ≡ t3 ++ d → t5 ≡ t4 ++ e → t6 ≡ t5 ++ end
    → t6 ≡ a ++ (b ++ (c ++ (d ++ (e ++ end))))
five_fields t0 t1 t2 t3 t4 t5 t6 a b c d e end e0 e1 e2 e3 e4 e5 e6 =
    let one = e1 ∙ ap (λ (l : List ℕ). l ++ a) e0 in
    let two = e2 ∙ ap (λ (l : List ℕ). l ++ b) one in
    let three = e3 ∙ ap (λ (l : List ℕ). l ++ c) two in
    let four = e4 ∙ ap (λ (l : List ℕ). l ++ d) three in
    let five = e5 ∙ ap (λ (l : List ℕ). l ++ e) four in
    e6 ∙ ap (λ (l : List ℕ). l ++ end) five ∙ regrouped
  where
    regrouped : ((((a ++ b) ++ c) ++ d) ++ e) ++ end ≡ a ++ (b ++ (c ++ (d ++ (e ++ end))))
    regrouped = simp append_assoc
