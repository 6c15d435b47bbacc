-- So many returns between two items are a good function.
use Rattle.std.proofs.Common.{◌≡◌, ℕ, zero, suc, ◌+◌, ◌<◌, ◌^◌, List, [], ◌∷◌, ◌++◌, length, replicate, arith, refl, ◌∙◌}
use Rattle.msp_isa.specs.declared.code.CodeFn.{CodeFn}
use Rattle.msp_isa.specs.declared.code.Item.{Item}
use Rattle.msp_isa.specs.declared.code.Item.TheVariants as item
use Rattle.msp_isa.specs.declared.instr.Cond.{Cond}
use Rattle.msp_isa.specs.declared.instr.Instr.TheVariants.{Reti}
use Rattle.msp_isa.specs.Stands.{item_at}
use Rattle.msp_layout.specs.Laid.{IsGoodFn, IsGoodItem, StandsOnce}
use Rattle.msp_layout.specs.Onward.{IsPair}
use Rattle.msp_layout.specs.Rows.{ret}
use Rattle.msp_layout.proofs.Onward.{IsLink, ret_is_good, no_callee}

abbrev pub between : Item → ℕ → Item → List Item
between first n last = first ∷ replicate n ret ++ last ∷ []

-- what is so of a return, of the last item and of what stands behind is so at each place
over_returns : (P : Item → Type 0) (n k : ℕ) (last : Item) → P ret → P last → P (item.Is Reti) → P (item_at (replicate n ret ++ last ∷ []) k)
over_returns P zero zero last r l e = l
over_returns P zero (suc k) last r l e = e
over_returns P (suc n) zero last r l e = r
over_returns P (suc n) (suc k) last r l e = over_returns P n k last r l e

last_at : (n : ℕ) (last : Item) → item_at (replicate n ret ++ last ∷ []) n ≡ last
last_at zero last = refl
last_at (suc n) last = last_at n last

returns_length : (n : ℕ) (last : Item) → length (replicate n ret ++ last ∷ []) ≡ n + 1
returns_length zero last = refl
returns_length (suc n) last = omega (arith, returns_length n last)

only_last : (n t m l : ℕ) → item_at (replicate n ret ++ item.Label m ∷ []) t ≡ item.Label l → t ≡ n
only_last zero zero m l e = refl
only_last zero (suc t) m l e = cc
only_last (suc n) zero m l e = cc
only_last (suc n) (suc t) m l e = omega (arith, only_last n t m l e)

label_last : (d : Cond) (m o l n t : ℕ) → item_at (between (item.Jump d m) n (item.Label o)) t ≡ item.Label l → t ≡ suc n
label_last d m o l n zero e = cc
label_last d m o l n (suc t) e = omega (arith, only_last n t o l e)

no_label : (d : Cond) (o l n t : ℕ) → item_at (replicate n ret ++ item.Jump d o ∷ []) t ≡ item.Label l → ⊥
no_label d o l n t e = over_returns (λ it. it ≡ item.Label l → ⊥) n t (item.Jump d o) (λ h. cc) (λ h. cc) (λ h. cc) e

label_first : (d : Cond) (m o l n t : ℕ) → item_at (between (item.Label m) n (item.Jump d o)) t ≡ item.Label l → t ≡ 0
label_first d m o l n zero e = refl
label_first d m o l n (suc t) e = absurd (no_label d o l n t e)

no_jump : (i : Item) (n k l : ℕ) (c : Cond) → (i ≡ item.Jump c l → ⊥) → item_at (replicate n ret ++ i ∷ []) k ≡ item.Jump c l → ⊥
no_jump i n k l c none e = over_returns (λ it. it ≡ item.Jump c l → ⊥) n k i (λ h. cc) none (λ h. cc) e

last_jump : (d c : Cond) (o l n k : ℕ) → item_at (replicate n ret ++ item.Jump d o ∷ []) k ≡ item.Jump c l → o ≡ l
last_jump d c o l n k e = over_returns (λ it. it ≡ item.Jump c l → o ≡ l) n k (item.Jump d o) (λ h. cc) (λ h. cc) (λ h. cc) e

stands_last : (d : Cond) (m o l n : ℕ) → o ≡ l → StandsOnce (between (item.Jump d m) n (item.Label o)) l
stands_last d m o l n e =
    let same : item.Label o ≡ item.Label l = cc in
    record { at = suc n; stands = last_at n (item.Label o) ∙ same; once = λ t h. label_last d m o l n t h }

stands_first : (d : Cond) (m o l n : ℕ) → m ≡ l → StandsOnce (between (item.Label m) n (item.Jump d o)) l
stands_first d m o l n e =
    let same : item.Label m ≡ item.Label l = cc in
    record { at = 0; stands = same; once = λ t h. label_first d m o l n t h }

labels : (first last : Item) → IsPair first last → (n k l : ℕ) (c : Cond) → item_at (between first n last) k ≡ item.Jump c l → StandsOnce (between first n last) l
labels (item.Is i) (item.Is j) p n zero l c e = cc
labels (item.Is i) (item.Is j) p n (suc k) l c e = absurd (no_jump (item.Is j) n k l c (λ h. cc) e)
labels (item.Jump d m) (item.Label o) p n zero l c e = let same : o ≡ l = cc in stands_last d m o l n same
labels (item.Jump d m) (item.Label o) p n (suc k) l c e = absurd (no_jump (item.Label o) n k l c (λ h. cc) e)
labels (item.Label m) (item.Jump d o) p n zero l c e = cc
labels (item.Label m) (item.Jump d o) p n (suc k) l c e = let there : o ≡ l = last_jump d c o l n k e in let same : m ≡ l = cc in stands_first d m o l n same
labels _ _ p n k l c e = absurd p

first_good : (first last : Item) → IsPair first last → IsGoodItem 1 first
first_good (item.Is i) (item.Is j) p = p.0
first_good (item.Jump d m) (item.Label o) p = tt
first_good (item.Label m) (item.Jump d o) p = tt
first_good _ _ p = absurd p

last_good : (first last : Item) → IsPair first last → IsGoodItem 1 last
last_good (item.Is i) (item.Is j) p = p.1
last_good (item.Jump d m) (item.Label o) p = tt
last_good (item.Label m) (item.Jump d o) p = tt
last_good _ _ p = absurd p

each : (first last : Item) → IsPair first last → (n k : ℕ) → IsGoodItem 1 (item_at (between first n last) k)
each first last p n zero = first_good first last p
each first last p n (suc k) = over_returns (λ it. IsGoodItem 1 it) n k last (ret_is_good 1) (last_good first last p) tt

between_is_good : (first last : Item) (n : ℕ) → IsPair first last → n < 2 ^ 16 → IsGoodFn 1 (between first n last) []
between_is_good first last n p lt = record {
  few = omega (arith, returns_length n last);
  each = λ k below. each first last p n k;
  labels = λ k l c e. labels first last p n k l c e;
  callees = λ g name. no_callee g name;
}

pub between_is_link : (first last : Item) (n : ℕ) (x : CodeFn) → IsPair first last → n < 2 ^ 16 → x.items ≡ between first n last → x.calls ≡ [] → IsLink 1 0 x
between_is_link first last n x p lt e h = record {
  good = rw (e, h) (between_is_good first last n p lt);
  onward = rw h (λ g name. no_callee g name);
}
