-- Sizes of types are multiples of their alignments, and fields of a struct are aligned in it.
use Rattle.std.proofs.Common.{◌≡◌, ℕ, zero, suc, ◌+◌, ◌*◌, ◌%◌, ◌≤◌, List, [], ◌∷◌, map, fold, length, Some, refl, subst, arith}
use Rattle.std.specs.Prelude.{slice_get, slice_index_or}
use Rattle.std.proofs.lemmas.Bool.Decides.{nat_tests}
use Rattle.std.proofs.lemmas.Option.{none-some, same_Some}
use Rattle.nm_base.specs.declared.int_type.IntType.TheVariants.{I8, U8, I16, U16, I32, U32}
use Rattle.nesc_core.specs.declared.layout.Layout.{Layout}
use Rattle.nesc_core.specs.Plain.{Ty, void, int, pointer, array, struct, Field}
use Rattle.nesc_core.specs.Size.{layout, rounded, with_field, fields_layout, type_layout, struct_at, layout_of}

-- an address that an alignment allows, which is 1 or 2
abbrev pub Suits : (align a : ℕ) → Type 0
Suits align a = align ≡ 2 → a % 2 ≡ 0

-- the next offset of an alignment is one of it
pub rounded-suits : (offset align : ℕ) → Suits align (rounded offset align)
rounded-suits offset align e = rw e (grind (arith))

pub sum-suits : (align a b : ℕ) → Suits align a → Suits align b → Suits align (a + b)
sum-suits align a b h g e = omega (arith, h e, g e)

pub product-suits : (align size n : ℕ) → Suits align size → Suits align (size * n)
product-suits align size zero h e = omega arith
product-suits align size (suc n) h e = let rest : (size * n) % 2 ≡ 0 = product-suits align size n h e in omega (arith, h e, rest)

-- ---- layouts

-- its size is one of its alignment, which is 1 or 2
pub record IsEven (l : Layout) : Type 0 where
  pub whole : Suits l.align l.size
  pub small : l.align ≤ 2

field-small : (done : Layout) (fs : List Layout) → done.align ≤ 2 → ((f : Layout) (k : ℕ) → slice_get fs k ≡ Some f → f.align ≤ 2) → (fold with_field done fs).align ≤ 2
field-small done [] small each = small
field-small done (f ∷ fs) small each =
    let own : f.align ≤ 2 = each f zero refl in
    field-small (with_field done f) fs (grind (arith, nat_tests, small, own)) (λ g k is. each g (suc k) is)

type-even : (of_struct : ℕ → Layout) → ((k : ℕ) → IsEven (of_struct k)) → (t : Ty) → IsEven (type_layout of_struct t)
type-even of_struct structs void = record { whole = λ e. absurd (omega (arith, e)); small = omega arith }
type-even of_struct structs (int I8) = record { whole = λ e. absurd (omega (arith, e)); small = omega arith }
type-even of_struct structs (int U8) = record { whole = λ e. absurd (omega (arith, e)); small = omega arith }
type-even of_struct structs (int I16) = record { whole = λ e. refl; small = omega arith }
type-even of_struct structs (int U16) = record { whole = λ e. refl; small = omega arith }
type-even of_struct structs (int I32) = record { whole = λ e. refl; small = omega arith }
type-even of_struct structs (int U32) = record { whole = λ e. refl; small = omega arith }
type-even of_struct structs (pointer t) = record { whole = λ e. refl; small = omega arith }
type-even of_struct structs (array t n) =
    let h = type-even of_struct structs t in
    record { whole = product-suits (type_layout of_struct t).align (type_layout of_struct t).size n h.whole; small = h.small }
type-even of_struct structs (struct k) = structs k

map-at : (L : Field → Layout) (fs : List Field) → ((f : Field) → (L f).align ≤ 2) → (l : Layout) (k : ℕ) → slice_get (map L fs) k ≡ Some l → l.align ≤ 2
map-at L [] each l k is = absurd (none-some l is)
map-at L (f ∷ fs) each l zero is = subst (λ (x : Layout). x.align ≤ 2) (same_Some (L f) l is) (each f)
map-at L (f ∷ fs) each l (suc k) is = map-at L fs each l k is

struct-even : (structs : List (List Field)) (depth k : ℕ) → IsEven (struct_at structs depth k)
struct-even structs zero k = record { whole = λ e. absurd (omega (arith, e)); small = omega arith }
struct-even structs (suc depth) k =
    let L : Field → Layout = λ f. type_layout (struct_at structs depth) f.ty in
    let fs : List Layout = map L (slice_index_or structs k []) in
    record {
      whole = rounded-suits (fields_layout fs).size (fields_layout fs).align;
      small = field-small (layout 0 1) fs (omega arith) (map-at L (slice_index_or structs k []) (λ f. (type-even (struct_at structs depth) (struct-even structs depth) f.ty).small));
    }

pub layout-even : (structs : List (List Field)) (t : Ty) → IsEven (layout_of structs t)
layout-even structs t = type-even (struct_at structs (length structs)) (struct-even structs (length structs)) t

-- ---- fields

-- a struct is aligned as each of its fields
align-grows : (done : Layout) (fs : List Layout) → done.align ≤ (fold with_field done fs).align
align-grows done [] = omega arith
align-grows done (f ∷ fs) = let rest = align-grows (with_field done f) fs in grind (arith, nat_tests, rest)

pub field-aligns : (L : Field → Layout) (fs : List Field) (done : Layout) (k : ℕ) (f : Field) → slice_get fs k ≡ Some f → (L f).align ≤ (fold with_field done (map L fs)).align
field-aligns L [] done k f is = absurd (none-some f is)
field-aligns L (g ∷ fs) done zero f is =
    let rest = align-grows (with_field done (L g)) (map L fs) in
    let own : (L g).align ≤ (with_field done (L g)).align = grind (arith, nat_tests) in
    subst (λ x. (L x).align ≤ (fold with_field (with_field done (L g)) (map L fs)).align) (same_Some g f is) (omega (arith, own, rest))
field-aligns L (g ∷ fs) done (suc k) f is = field-aligns L fs (with_field done (L g)) k f is
