-- Each instruction of code has words, where its numbers without a word of their own are those of the constant generator.
use Rattle.std.proofs.Common.{◌≡◌, ◌⊎◌, ℕ, zero, suc, ◌+◌, ◌<◌, ◌≤◌, ◌==◌, ◌&&◌, ◌||◌, Bool, true, false, cond, List, [], ◌∷◌, ◌++◌, refl, arith}
use mathlib.Core.Logic.{inl, inr}
use Rattle.std.proofs.lemmas.Bool.Decides.{nat_tests}
use Rattle.msp_isa.specs.declared.code.Item.{Item}
use Rattle.msp_isa.specs.declared.code.Item.TheVariants as item
use Rattle.msp_isa.specs.declared.instr.Instr.TheVariants.{Two}
use Rattle.msp_isa.specs.declared.instr.Op2.{Op2}
use Rattle.msp_isa.specs.declared.instr.Operand.TheVariants.{Reg, Indexed}
use Rattle.msp_isa.specs.Encode.{IsConstant, IsSource}
use Rattle.msp_isa.specs.Stands.{item_at}
use Rattle.msp_layout.specs.Laid.{IsGoodItem}
use Rattle.open_law.specs.Homes.{Source, Of, Number, Made, StackPointer, InRegister, InFrame, is_made, literal, operand_of}
use Rattle.msp_runtime.specs.Code.{Code, Nothing, Do, Then, Skip, Times, Keeping, is_formed, is_general, is_operand, is_short, is_straight, items_from, labels, leaves}
use Rattle.msp_runtime.proofs.Running.{both}

abbrev pub has_words : Source → Bool
has_words (Made n) = is_made n
has_words _ = true

abbrev pub all_have_words : Code → Bool
all_have_words Nothing = true
all_have_words (Do op s r) = has_words s
all_have_words (Then a b) = all_have_words a && all_have_words b
all_have_words (Skip c a) = all_have_words a
all_have_words (Times most r a) = all_have_words a
all_have_words (Keeping r a) = all_have_words a

either : (a b : Bool) → (a || b) ≡ true → (a ≡ true) ⊎ (b ≡ true)
either true b e = inl refl
either false b e = inr e

is : (n m : ℕ) → (n == m) ≡ true → n ≡ m
is n m e = grind (arith, nat_tests)

constant : (n : ℕ) → is_made n ≡ true → IsConstant n
constant n e = last (either _ _ e)
  where
    first : (((n == 0) || (n == 1)) ≡ true) → (n ≡ 0) ⊎ (n ≡ 1)
    first t = by (either _ _ t)
      where
        by : ((n == 0) ≡ true) ⊎ ((n == 1) ≡ true) → (n ≡ 0) ⊎ (n ≡ 1)
        by (inl x) = inl (is n 0 x)
        by (inr x) = inr (is n 1 x)

    second : (((n == 0) || (n == 1)) || (n == 2)) ≡ true → IsConstant n
    second t = by (either _ _ t)
      where
        by : (((n == 0) || (n == 1)) ≡ true) ⊎ ((n == 2) ≡ true) → IsConstant n
        by (inl x) = inl (first x)
        by (inr x) = inr (inl (inl (is n 2 x)))

    third : ((((n == 0) || (n == 1)) || (n == 2)) || (n == 4)) ≡ true → IsConstant n
    third t = by (either _ _ t)
      where
        by : ((((n == 0) || (n == 1)) || (n == 2)) ≡ true) ⊎ ((n == 4) ≡ true) → IsConstant n
        by (inl x) = second x
        by (inr x) = inr (inl (inr (is n 4 x)))

    fourth : (((((n == 0) || (n == 1)) || (n == 2)) || (n == 4)) || (n == 8)) ≡ true → IsConstant n
    fourth t = by (either _ _ t)
      where
        by : (((((n == 0) || (n == 1)) || (n == 2)) || (n == 4)) ≡ true) ⊎ ((n == 8) ≡ true) → IsConstant n
        by (inl x) = third x
        by (inr x) = inr (inr (inl (is n 8 x)))

    last : ((((((n == 0) || (n == 1)) || (n == 2)) || (n == 4)) || (n == 8)) ≡ true) ⊎ ((n == 0xFFFF) ≡ true) → IsConstant n
    last (inl x) = fourth x
    last (inr x) = inr (inr (inr (is n 0xFFFF x)))

pub literal_has_words : (n : ℕ) → has_words (literal n) ≡ true
literal_has_words n = by (is_made n) refl
  where
    by : (b : Bool) → is_made n ≡ b → has_words (cond b (Made n) (Number n)) ≡ true
    by true e = e
    by false e = refl

-- ---- items

abbrev pub AllGood : (fns : ℕ) → List Item → Type 0
AllGood fns [] = Unit {0}
AllGood fns (x ∷ xs) = IsGoodItem fns x × AllGood fns xs

pub good-append : (fns : ℕ) (xs ys : List Item) → AllGood fns xs → AllGood fns ys → AllGood fns (xs ++ ys)
good-append fns [] ys a b = b
good-append fns (x ∷ xs) ys a b = (a.0, good-append fns xs ys a.1 b)

pub good_at : (fns : ℕ) (items : List Item) (k : ℕ) → AllGood fns items → IsGoodItem fns (item_at items k)
good_at fns [] k all = tt
good_at fns (x ∷ xs) zero all = all.0
good_at fns (x ∷ xs) (suc k) all = good_at fns xs k all.1

general : (r : ℕ) → is_general r ≡ true → (4 ≤ r) × (r < 16)
general r e = (grind (arith, nat_tests), grind (arith, nat_tests))

register_source : (r : ℕ) → is_general r ≡ true → IsSource (Reg r)
register_source r e = let g = general r e in let lo = g.0 in let hi = g.1 in (hi, λ z. absurd (omega (arith, z, lo)))

source : (s : Source) → is_operand s ≡ true → has_words s ≡ true → IsSource (operand_of s)
source (Of (InRegister q)) e w = register_source q e
source (Of (InFrame x)) e w = absurd (let z : ⊥ = cc in z)
source (Number n) e w = tt
source (Made n) e w = constant n w
source StackPointer e w = absurd (let z : ⊥ = cc in z)

two_good : (fns : ℕ) (op : Op2) (s : Source) (r : ℕ) → is_general r ≡ true → is_operand s ≡ true → has_words s ≡ true → IsGoodItem fns (item.Is (Two op false (operand_of s) (Reg r)))
two_good fns op s r g e w = (source s e w, (general r g).1)

pub code_good : (fns : ℕ) (c : Code) (l : ℕ) → is_formed c ≡ true → all_have_words c ≡ true → AllGood fns (items_from c l)
code_good fns Nothing l f w = tt
code_good fns (Do op s r) l f w = let t = both (is_general r) (is_operand s) f in (two_good fns op s r t.0 t.1 w, tt)
code_good fns (Then a b) l f w =
    let t = both (is_formed a) (is_formed b) f in let u = both (all_have_words a) (all_have_words b) w in
    good-append fns (items_from a l) (items_from b (l + labels a)) (code_good fns a l t.0 u.0) (code_good fns b (l + labels a) t.1 u.1)
code_good fns (Skip c a) l f w = (tt, good-append fns (items_from a (suc l)) (item.Label l ∷ []) (code_good fns a (suc l) (both (is_short c) (is_formed a) f).1 w) (tt, tt))
code_good fns (Times most r a) l f w =
    let t = both (is_general r) (leaves r a && (is_straight a && is_formed a)) f in
    let u = both (leaves r a) (is_straight a && is_formed a) t.1 in
    let v = both (is_straight a) (is_formed a) u.1 in
    let small = (general r t.0).1 in
    ((constant 0 refl, small), (tt, (tt, good-append fns (items_from a (suc (suc l))) _ (code_good fns a (suc (suc l)) v.1 w) ((constant 1 refl, small), (tt, (tt, tt))))))
code_good fns (Keeping r a) l f w =
    let t = both (is_general r) (is_formed a) f in
    let lo = (general r t.0).0 in let small = (general r t.0).1 in
    ((register_source r t.0, none _), good-append fns (items_from a l) _ (code_good fns a l t.1 w) ((base, small), ((constant 2 refl, omega arith), tt)))
  where
    none : (b : Bool) → (b && false) ≡ false
    none true = refl
    none false = refl

    base : IsSource (Indexed 1 0)
    base = (omega arith, λ z. absurd (omega (arith, z)), λ z. absurd (omega (arith, z)))
