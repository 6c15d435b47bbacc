-- Block comments end where they can first end.
use Rattle.std.proofs.Common.{◌≡◌, ℕ, suc, ◌+◌, ◌-◌, ◌<◌, ◌≤◌, true, false, ◌&&◌, List, [], ◌∷◌, length, take, drop, refl, sym, ap, ◌∙◌, arith, length-take-le, inl, inr}
use Rattle.std.specs.Prelude.{codes, nat_eq, nat_le, ◌==◌, slice_index}
use Rattle.std.proofs.Math.Seq.{drop-cons}
use Rattle.std.proofs.lemmas.List.{drop-take, length-take, take-take}
use Rattle.std.proofs.lemmas.Bool.{and_left, and_right, and_from, and_parts, and_cases, lt-leb, le-leb, leb-true, eq-eqb, eqb-true, eqb-false, ne_eqb, cases_order}
use Rattle.std.specs.Cmp.Lexicographic.{pointwise}
use Rattle.nesc_tokens.specs.Lexes.{begins, is_closed_comment, IsBlockComment}

pub short_comment : (m : ℕ) (bytes : List ℕ) → m < 4 → is_closed_comment (take m bytes) ≡ false
short_comment m bytes lt =
    let short : nat_le 4 (length (take m bytes)) ≡ false = lt-leb 4 (length (take m bytes)) (omega (arith, length-take m bytes)) in
    and_left _ _ (and_left _ _ short)

-- the last two bytes of a front
last_two : (k : ℕ) (bytes : List ℕ) → k + 2 ≤ length bytes → drop (length (take (k + 2) bytes) - 2) (take (k + 2) bytes) ≡ slice_index bytes k ∷ slice_index bytes (k + 1) ∷ []
last_two k bytes le =
    let len : length (take (k + 2) bytes) - 2 ≡ k = omega (arith, length-take-le (k + 2) bytes le) in
    ap (λ (n : ℕ). drop n (take (k + 2) bytes)) len
    ∙ drop-take k 2 bytes
    ∙ ap (take 2) (drop-cons bytes k 0 (omega arith) ∙ ap (λ (l : List ℕ). slice_index bytes k ∷ l) (drop-cons bytes (suc k) 0 (omega arith)))
    ∙ ap (λ (n : ℕ). slice_index bytes k ∷ slice_index bytes n ∷ []) (omega arith)

begins_front : (n : ℕ) (bytes : List ℕ) → 2 ≤ n → begins (codes "/*") (take n bytes) ≡ begins (codes "/*") bytes
begins_front n bytes le = ap (pointwise nat_eq (codes "/*")) (take-take 2 n bytes le)

-- whether the front of k + 2 bytes is a comment is told by its last two bytes
closed_is : (k : ℕ) (bytes : List ℕ) → begins (codes "/*") bytes ≡ true → 2 ≤ k → k + 2 ≤ length bytes → is_closed_comment (take (k + 2) bytes) ≡ (nat_eq 42 (slice_index bytes k) && (nat_eq 47 (slice_index bytes (k + 1)) && true))
closed_is k bytes opened from le =
    let len : length (take (k + 2) bytes) ≡ k + 2 = length-take-le (k + 2) bytes le in
    let long : nat_le 4 (length (take (k + 2) bytes)) ≡ true = le-leb 4 (length (take (k + 2) bytes)) (omega arith) in
    let front : begins (codes "/*") (take (k + 2) bytes) ≡ true = begins_front (k + 2) bytes (omega arith) ∙ opened in
    λ i. long i && front i && pointwise nat_eq (codes "*/") (last_two k bytes le i)

both_tests : (x y : ℕ) → (x == 42 && y == 47) ≡ false → (nat_eq 42 x && (nat_eq 47 y && true)) ≡ false
both_tests x y e = elim (and_cases (x == 42) (y == 47) e) [
  | inl first ↦ and_left _ _ (ne_eqb 42 x (λ is. eqb-false x 42 first (sym is)))
  | inr second ↦ and_right _ _ (and_left _ _ (ne_eqb 47 y (λ is. eqb-false y 47 second (sym is))))
]

pub closed_here : (k : ℕ) (bytes : List ℕ) → begins (codes "/*") bytes ≡ true → 2 ≤ k → k + 2 ≤ length bytes → (slice_index bytes k == 42 && slice_index bytes (k + 1) == 47) ≡ true → is_closed_comment (take (k + 2) bytes) ≡ true
closed_here k bytes opened from le e =
    let both = and_parts (slice_index bytes k == 42) (slice_index bytes (k + 1) == 47) e in
    closed_is k bytes opened from le ∙ and_from _ _ (eq-eqb 42 (slice_index bytes k) (sym (eqb-true _ 42 both.0))) (and_from _ _ (eq-eqb 47 (slice_index bytes (k + 1)) (sym (eqb-true _ 47 both.1))) refl)

pub none_here : (k : ℕ) (bytes : List ℕ) → begins (codes "/*") bytes ≡ true → 2 ≤ k → k + 2 ≤ length bytes → (slice_index bytes k == 42 && slice_index bytes (k + 1) == 47) ≡ false → is_closed_comment (take (k + 2) bytes) ≡ false
none_here k bytes opened from le e = closed_is k bytes opened from le ∙ both_tests (slice_index bytes k) (slice_index bytes (k + 1)) e

pub opened_of : (n : ℕ) (bytes : List ℕ) → is_closed_comment (take n bytes) ≡ true → begins (codes "/*") bytes ≡ true
opened_of n bytes closed =
    let parts = and_parts _ _ (and_parts _ _ closed).0 in
    let long : 4 ≤ length (take n bytes) = leb-true 4 (length (take n bytes)) parts.0 in
    sym (begins_front n bytes (omega (arith, length-take n bytes))) ∙ parts.1

pub one_comment : (m n : ℕ) (bytes : List ℕ) → IsBlockComment m bytes → IsBlockComment n bytes → m ≡ n
one_comment m n bytes x y = elim (cases_order m n) [
  | inl same ↦ same
  | inr (inl less) ↦ absurd (let none = y.first m less in let one = x.closed in cc)
  | inr (inr more) ↦ absurd (let none = x.first n more in let one = y.closed in cc)
]
