-- A label that is counted once among items stands at one place.
use Rattle.std.proofs.Common.{◌≡◌, ◌⊎◌, ℕ, zero, suc, ◌+◌, ◌<◌, ◌≤◌, Bool, true, false, List, [], ◌∷◌, ◌++◌, length, refl, sym, ap, subst, ◌∙◌, arith}
use mathlib.Core.Logic.{inl, inr}
use Rattle.std.specs.Prelude.{◌==◌, slice_index}
use Rattle.std.specs.List.{AllByRecursion}
use Rattle.std.proofs.lemmas.Bool.{eqb-true, eq-eqb}
use Rattle.msp_isa.specs.declared.code.Item.{Item}
use Rattle.msp_isa.specs.declared.code.Item.TheVariants as item
use Rattle.msp_isa.specs.declared.instr.Cond.{Cond}
use Rattle.msp_isa.specs.Stands.{item_at}
use Rattle.mid_code.specs.Form.{one_more}
use Rattle.msp_layout.specs.Depth.{Names}
use Rattle.msp_layout.specs.Laid.{StandsOnce}

abbrev pub is_label_item : Item → ℕ → Bool
is_label_item (item.Label k) l = k == l
is_label_item _ l = false

-- how often a label stands among items
abbrev pub times_in : ℕ → List Item → ℕ
times_in l [] = 0
times_in l (i ∷ is) = one_more (is_label_item i l) (times_in l is)

pub all_on : {A : Type 0} (P : A → Type 0) (xs ys : List A) → AllByRecursion P xs → AllByRecursion P ys → AllByRecursion P (xs ++ ys)
all_on P [] ys h g = g
all_on P (x ∷ xs) ys h g = (h.0, all_on P xs ys h.1 g)

pub each_at : (P : Item → Type 0) (items : List Item) → AllByRecursion P items → (k : ℕ) → k < length items → P (item_at items k)
each_at P [] h k lt = absurd (omega (arith, lt))
each_at P (i ∷ is) h zero lt = h.0
each_at P (i ∷ is) h (suc k) lt = each_at P is h.1 k (omega (arith, lt))

pub each_named : (P : ℕ → Type 0) (xs : List ℕ) → AllByRecursion P xs → (x : ℕ) → Names xs x → P x
each_named P xs h x (i, lt, e) = subst P e (at xs h i lt)
  where
    at : (ys : List ℕ) → AllByRecursion P ys → (i : ℕ) → i < length ys → P (slice_index ys i)
    at [] h i lt = absurd (omega (arith, lt))
    at (y ∷ ys) h zero lt = h.0
    at (y ∷ ys) h (suc i) lt = at ys h.1 i (omega (arith, lt))

-- ---- one place

label_is : (i : Item) (l : ℕ) → is_label_item i l ≡ true → i ≡ item.Label l
label_is (item.Label k) l e = ap item.Label (eqb-true k l e)
label_is (item.Is i) l e = absurd (cc)
label_is (item.Jump c k) l e = absurd (cc)
label_is (item.CallFn f) l e = absurd (cc)
label_is (item.AddrOf f r) l e = absurd (cc)

is_label : (i : Item) (l : ℕ) → i ≡ item.Label l → is_label_item i l ≡ true
is_label i l e = ap (λ (j : Item). is_label_item j l) e ∙ eq-eqb l l refl

none_behind : (b : Bool) (n : ℕ) → one_more b n ≡ 0 → (b ≡ false) × (n ≡ 0)
none_behind true n e = absurd (omega (arith, e))
none_behind false n e = (refl, e)

not_there : (l : ℕ) (is : List Item) → times_in l is ≡ 0 → (t : ℕ) → item_at is t ≡ item.Label l → ⊥
not_there l [] e t at = cc
not_there l (i ∷ is) e zero at = let a = (none_behind (is_label_item i l) (times_in l is) e).0 in let b = is_label i l at in let z : ⊥ = cc in z
not_there l (i ∷ is) e (suc t) at = not_there l is (none_behind (is_label_item i l) (times_in l is) e).1 t at

pub stands_once : (l : ℕ) (is : List Item) → times_in l is ≡ 1 → StandsOnce is l
stands_once l [] e = absurd (omega (arith, e))
stands_once l (i ∷ is) e = by (is_label_item i l) refl e (λ n. stands_once l is n)
  where
    first : (t : ℕ) → times_in l is ≡ 0 → item_at (i ∷ is) t ≡ item.Label l → t ≡ 0
    first zero none at = refl
    first (suc t) none at = absurd (not_there l is none t at)

    later : (s : StandsOnce is l) (t : ℕ) → is_label_item i l ≡ false → item_at (i ∷ is) t ≡ item.Label l → t ≡ suc s.at
    later s zero other at = let b = is_label i l at in absurd (let z : ⊥ = cc in z)
    later s (suc t) other at = ap suc (s.once t at)

    by : (b : Bool) → is_label_item i l ≡ b → one_more b (times_in l is) ≡ 1 → (times_in l is ≡ 1 → StandsOnce is l) → StandsOnce (i ∷ is) l
    by true is_first n behind = let none : times_in l is ≡ 0 = omega (arith, n) in record { at = 0; stands = label_is i l is_first; once = λ t at. first t none at }
    by false other n behind = let s = behind n in record { at = suc s.at; stands = s.stands; once = λ t at. later s t other at }

-- ---- items that are no labels and no jumps

abbrev pub IsStraight : Item → Type 0
IsStraight (item.Label l) = ⊥
IsStraight (item.Jump c l) = ⊥
IsStraight _ = Unit {0}

pub no_jump : (is : List Item) → AllByRecursion IsStraight is → (k l : ℕ) (c : Cond) → item_at is k ≡ item.Jump c l → ⊥
no_jump [] h k l c e = cc
no_jump (i ∷ is) h zero l c e = subst IsStraight e h.0
no_jump (i ∷ is) h (suc k) l c e = no_jump is h.1 k l c e
