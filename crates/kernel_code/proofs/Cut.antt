-- Layouts whose sizes are cut at 65,536: a layout is cut alike whether its parts were cut before or not.
use Rattle.std.proofs.Common.{◌≡◌, ℕ, zero, suc, ◌+◌, ◌*◌, ◌%◌, ◌≤◌, ◌<◌, Bool, true, false, max, List, [], ◌∷◌, map, fold, Some, None, Box, Global, refl, sym, ap, ◌∙◌, arith, rules}
use Rattle.std.specs.Prelude.{min, if◌then◌else◌, ◌==◌, nat_le}
use Rattle.std.proofs.Math.Nat.{le-mul_of_pos_right, mul-zero}
use Rattle.std.proofs.lemmas.Bool.Decides.{nat_tests}
use Rattle.std.proofs.lemmas.Option.{same_Some}
use Rattle.nm_base.specs.declared.int_type.IntType.{IntType}
use Rattle.nm_base.specs.declared.int_type.IntType.TheVariants.{I8, U8, I16, U16, I32, U32}
use Rattle.nesc_core.specs.declared.layout.Layout.{Layout}
use Rattle.nesc_core.specs.declared.tree.CoreType.{CoreType, Array, Int}
use Rattle.nesc_core.specs.declared.tree.CoreType as core_type
use Rattle.nesc_core.specs.Plain.{Ty, void, int, pointer, array, struct}
use Rattle.nesc_core.specs.Size.{int_layout, layout, with_field, struct_of_fields, type_layout}
use Rattle.nesc_core.specs.View.{type_of}
use Rattle.kernel_code.specs.Sizes.{cut, struct_in}

-- ---- numbers

sum_cut : (a b m n : ℕ) → m ≡ min a 65536 → n ≡ min b 65536 → min (m + n) 65536 ≡ min (a + b) 65536
sum_cut a b m n e f = omega (arith, e, f)

even_sum_cut : (a b m n : ℕ) → m ≡ min a 65536 → n ≡ min b 65536 → min (m + m % 2 + n) 65536 ≡ min (a + a % 2 + b) 65536
even_sum_cut a b m n e f = omega (arith, e, f)

even_cut : (a m : ℕ) → m ≡ min a 65536 → min (m + m % 2) 65536 ≡ min (a + a % 2) 65536
even_cut a m e = omega (arith, e)

cut_twice : (a m : ℕ) → m ≡ min a 65536 → min m 65536 ≡ min a 65536
cut_twice a m e = omega (arith, e)

product_cut : (a n : ℕ) → min (min a 65536 * n) 65536 ≡ min (a * n) 65536
product_cut a zero = ap (λ x. min x 65536) (mul-zero (min a 65536) ∙ sym (mul-zero a))
product_cut a (suc n) = by_test (nat_le a 65536) refl
  where
    by_test : (t : Bool) → nat_le a 65536 ≡ t → min (min a 65536 * suc n) 65536 ≡ min (a * suc n) 65536
    by_test true is =
        let small : a ≤ 65536 = grind (arith, nat_tests) in
        let same : min a 65536 ≡ a = omega (arith, small) in
        ap (λ m. min (m * suc n) 65536) same
    by_test false is =
        let large : 65536 < a = grind (arith, nat_tests) in
        let same : min a 65536 ≡ 65536 = omega (arith, large) in
        let one : 65536 ≤ 65536 * suc n = le-mul_of_pos_right {m = suc n} 65536 (omega arith) in
        let other : a ≤ a * suc n = le-mul_of_pos_right {m = suc n} a (omega arith) in
        let low : min (65536 * suc n) 65536 ≡ 65536 = omega (arith, one) in
        let high : min (a * suc n) 65536 ≡ 65536 = omega (arith, other, large) in
        ap (λ m. min (m * suc n) 65536) same ∙ low ∙ sym high

-- ---- layouts

pub cut_cut : (l : Layout) → cut (cut l) ≡ cut l
cut_cut l = ap (λ n. layout n l.align) (cut_twice l.size (min l.size 65536) refl)

pub with_field_cut : (a b : Layout) → cut (with_field (cut a) (cut b)) ≡ cut (with_field a b)
with_field_cut a b = ap (λ n. layout n (max a.align b.align)) (by_test (b.align == 2))
  where
    by_test : (t : Bool) → min ((if t then min a.size 65536 + min a.size 65536 % 2 else min a.size 65536) + min b.size 65536) 65536
        ≡ min ((if t then a.size + a.size % 2 else a.size) + b.size) 65536
    by_test true = even_sum_cut a.size b.size (min a.size 65536) (min b.size 65536) refl refl
    by_test false = sum_cut a.size b.size (min a.size 65536) (min b.size 65536) refl refl

pub struct_cut : (l : Layout) → cut (struct_of_fields (cut l)) ≡ cut (struct_of_fields l)
struct_cut l = ap (λ n. layout n l.align) (by_test (l.align == 2))
  where
    by_test : (t : Bool) → min (if t then min l.size 65536 + min l.size 65536 % 2 else min l.size 65536) 65536 ≡ min (if t then l.size + l.size % 2 else l.size) 65536
    by_test true = even_cut l.size (min l.size 65536) refl
    by_test false = cut_twice l.size (min l.size 65536) refl

-- a field more, where what is done and the field were cut
pub field_cut : (done f d l : Layout) → done ≡ cut d → f ≡ cut l → cut (with_field done f) ≡ cut (with_field d l)
field_cut done f d l e g = ap (λ (x : Layout). cut (with_field x f)) e ∙ ap (λ (x : Layout). cut (with_field (cut d) x)) g ∙ with_field_cut d l

pub array_cut : (one l : Layout) (n : ℕ) → one ≡ cut l → cut (layout (one.size * n) one.align) ≡ cut (layout (l.size * n) l.align)
array_cut one l n is = ap (λ (x : Layout). cut (layout (x.size * n) x.align)) is ∙ ap (λ size. layout size l.align) (product_cut l.size n)

-- ---- the forms of types

pub int-type : (t : CoreType) (i : IntType) → t ≡ Int i → type_of t ≡ int i
int-type t i is = ap type_of is ∙ search (rules, core_type.the_lemmas)

pub array-type : (t : CoreType) (element : Box CoreType Global) (n : ℕ) → t ≡ Array element n → type_of t ≡ array (type_of element.value) n
array-type t element n is = ap type_of is ∙ search (rules, core_type.the_lemmas)

int_cut : (i : IntType) → int_layout i ≡ cut (int_layout i)
int_cut I8 = refl
int_cut U8 = refl
int_cut I16 = refl
int_cut U16 = refl
int_cut I32 = refl
int_cut U32 = refl

pub over_int : (inner l : Layout) (t : CoreType) (i : IntType) → t ≡ Int i → l ≡ int_layout i → l ≡ cut (type_layout (λ k. inner) (type_of t))
over_int inner l t i is here = here ∙ int_cut i ∙ ap (λ (u : Ty). cut (type_layout (λ k. inner) u)) (sym (int-type t i is))

-- an array of so many elements, whose layout was cut
pub over_array : (inner one l : Layout) (t : CoreType) (element : Box CoreType Global) (behind : CoreType) (n : ℕ) → t ≡ Array element n → behind ≡ element.value
    → one ≡ cut (type_layout (λ k. inner) (type_of behind)) → l ≡ cut (layout (one.size * n) one.align) → l ≡ cut (type_layout (λ k. inner) (type_of t))
over_array inner one l t element behind n is same here made =
    made
    ∙ array_cut one (type_layout (λ k. inner) (type_of behind)) n here
    ∙ ap (λ (u : CoreType). cut (type_layout (λ k. inner) (array (type_of u) n))) same
    ∙ ap (λ (u : Ty). cut (type_layout (λ k. inner) u)) (sym (array-type t element n is))

-- ---- types, by the struct in them

pub over_none : (g : ℕ → Layout) (inner : Layout) (t : Ty) → None ≡ struct_in t → cut (type_layout (λ k. inner) t) ≡ cut (type_layout g t)
over_none g inner void is = refl
over_none g inner (int t) is = refl
over_none g inner (pointer t) is = refl
over_none g inner (array t n) is =
    sym (array_cut (cut (type_layout (λ k. inner) t)) (type_layout (λ k. inner) t) n refl)
    ∙ ap (λ (l : Layout). cut (layout (l.size * n) l.align)) (over_none g inner t is)
    ∙ array_cut (cut (type_layout g t)) (type_layout g t) n refl
over_none g inner (struct k) is = absurd (cc)

pub over_some : (g : ℕ → Layout) (inner : Layout) (k : ℕ) (t : Ty) → Some k ≡ struct_in t → cut inner ≡ cut (g k)
    → cut (type_layout (λ j. inner) t) ≡ cut (type_layout g t)
over_some g inner k void is same = absurd (cc)
over_some g inner k (int t) is same = absurd (cc)
over_some g inner k (pointer t) is same = absurd (cc)
over_some g inner k (array t n) is same =
    sym (array_cut (cut (type_layout (λ j. inner) t)) (type_layout (λ j. inner) t) n refl)
    ∙ ap (λ (l : Layout). cut (layout (l.size * n) l.align)) (over_some g inner k t is same)
    ∙ array_cut (cut (type_layout g t)) (type_layout g t) n refl
over_some g inner k (struct j) is same = same ∙ ap (λ i. cut (g i)) (same_Some k j is)

pub over_same : (g : ℕ → Layout) (inner : Layout) (k : ℕ) (t : Ty) → Some k ≡ struct_in t → inner ≡ g k
    → cut (type_layout (λ j. inner) t) ≡ cut (type_layout g t)
over_same g inner k t is same = over_some g inner k t is (ap cut same)

-- ---- lists of fields, and types, whose parts are cut alike

pub cut_type : (g h : ℕ → Layout) → ((k : ℕ) → cut (g k) ≡ cut (h k)) → (t : Ty) → cut (type_layout g t) ≡ cut (type_layout h t)
cut_type g h same void = refl
cut_type g h same (int t) = refl
cut_type g h same (pointer t) = refl
cut_type g h same (array t n) =
    sym (array_cut (cut (type_layout g t)) (type_layout g t) n refl)
    ∙ ap (λ (l : Layout). cut (layout (l.size * n) l.align)) (cut_type g h same t)
    ∙ array_cut (cut (type_layout h t)) (type_layout h t) n refl
cut_type g h same (struct k) = same k

pub cut_fields : {X : Type 0} (f h : X → Layout) → ((x : X) → cut (f x) ≡ cut (h x)) → (xs : List X) (a b : Layout) → cut a ≡ cut b
    → cut (fold with_field a (map f xs)) ≡ cut (fold with_field b (map h xs))
cut_fields f h same [] a b is = is
cut_fields f h same (x ∷ xs) a b is =
    cut_fields f h same xs (with_field a (f x)) (with_field b (h x))
    (sym (with_field_cut a (f x))
    ∙ ap (λ (l : Layout). cut (with_field l (cut (f x)))) is
    ∙ ap (λ (l : Layout). cut (with_field (cut b) l)) (same x)
    ∙ with_field_cut b (h x))
