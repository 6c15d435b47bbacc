-- Layouts that elaboration finds are those of the program's types, and stay what they are while structs are added.
use Rattle.std.proofs.Common.{◌≡◌, ℕ, zero, suc, ◌*◌, ◌<◌, ◌≤◌, Bool, true, false, List, [], ◌∷◌, length, map, Option, Some, None, ap, sym, subst, ◌∙◌, refl, arith}
use Rattle.std.specs.Prelude.{nat_le, slice_get, slice_index_or, if◌then◌else◌}
use Rattle.std.specs.Option.{option_map, option_and_then}
use Rattle.std.proofs.lemmas.Bool.Decides.{nat_tests}
use Rattle.nm_base.specs.declared.int_type.IntType.{IntType}
use Rattle.nm_base.specs.declared.int_type.IntType.TheVariants.{I8, U8, I16, U16, I32, U32}
use Rattle.nesc_core.specs.declared.layout.Layout.{Layout}
use Rattle.nesc_core.specs.Plain.{Ty, Field, void, int, pointer, array, struct}
use Rattle.nesc_core.specs.Size.{layout, int_layout, fields_layout, struct_of_fields, type_layout, struct_at, layout_of, NamesBelow, IsSmall, IsSized}
use Rattle.nesc_core.specs.Typing.{PointsWell, IsType}
use Rattle.elab_meaning.specs.Scope.{Struct}
use Rattle.elab_meaning.specs.Convert.{layout_in, repeated, small}
use Rattle.elab_laws.specs.Known.{IsComplete, IsKnownType, IsPrefix, IsStruct, AreLaid, PointsIn}
use Rattle.elab_laws.specs.Formed.{fields_in}
use Rattle.elab_laws.proofs.Lists.{get_below, get_later, get_mapped, index_is, prefix_length}

-- ---- what a layout is made of

pub small_is : (l k : Layout) → small l ≡ Some k → (l ≡ k) × (k.size ≤ 32767)
small_is l k e = by_size (nat_le l.size 32767) refl e
  where
    by_size : (b : Bool) → nat_le l.size 32767 ≡ b → (if b then Some l else None) ≡ Some k → (l ≡ k) × (k.size ≤ 32767)
    by_size false q h = absurd cc
    by_size true q h = let s : l ≡ k = cc in (s, subst (λ (m : Layout). m.size ≤ 32767) s (let r : l.size ≤ 32767 = grind (arith, nat_tests) in r))

pub record Repeats (n : ℕ) (o : Option Layout) (l : Layout) : Type 0 where
  pub part : Layout
  pub is : o ≡ Some part
  pub whole : l ≡ layout (part.size * n) part.align
  pub few : l.size ≤ 32767

pub repeats : (n : ℕ) (o : Option Layout) (l : Layout) → option_and_then (repeated n) o ≡ Some l → Repeats n o l
repeats n None l e = absurd cc
repeats n (Some k) l e = let h = small_is (layout (k.size * n) k.align) l e in record { part = k; is = refl; whole = sym h.0; few = h.1 }

pub record Stands (structs : List Struct) (k : ℕ) (l : Layout) : Type 0 where
  pub item : Struct
  pub is : slice_get structs k ≡ Some item
  pub whole : item.layout ≡ l

pub stands : (structs : List Struct) (k : ℕ) (l : Layout) → layout_in structs (struct k) ≡ Some l → Stands structs k l
stands structs k l e = by (slice_get structs k) refl e
  where
    by : (o : Option Struct) → slice_get structs k ≡ o → option_map (λ (x : Struct). x.layout) o ≡ Some l → Stands structs k l
    by None q h = absurd cc
    by (Some x) q h = record { item = x; is = q; whole = cc }

pub layout_at : (structs : List Struct) (k : ℕ) (x : Struct) → slice_get structs k ≡ Some x → layout_in structs (struct k) ≡ Some x.layout
layout_at structs k x e = ap (option_map (λ (y : Struct). y.layout)) e

int_small : (t : IntType) → (int_layout t).size ≤ 32767
int_small I8 = omega arith
int_small U8 = omega arith
int_small I16 = omega arith
int_small U16 = omega arith
int_small I32 = omega arith
int_small U32 = omega arith

-- ---- more structs change no layout

pub layout_later : (ss more : List Struct) → IsPrefix ss more → (t : Ty) (l : Layout) → layout_in ss t ≡ Some l → layout_in more t ≡ Some l
layout_later ss more h void l e = absurd cc
layout_later ss more h (int t) l e = e
layout_later ss more h (pointer t) l e = e
layout_later ss more h (array t n) l e =
    let r = repeats n (layout_in ss t) l e in
    let s = layout_later ss more h t r.part r.is in
    ap (option_and_then (repeated n)) s ∙ sym (ap (option_and_then (repeated n)) r.is) ∙ e
layout_later ss more h (struct k) l e =
    let s = stands ss k l e in
    layout_at more k s.item (get_later ss more k s.item h s.is) ∙ ap Some s.whole

-- ---- structs of a state, each of which lies as its fields do

abbrev pub AreStructs : List Struct → Type 0
AreStructs ss = (k : ℕ) (x : Struct) → slice_get ss k ≡ Some x → IsStruct ss k x

pub layout_names : (ss : List Struct) (t : Ty) (l : Layout) → layout_in ss t ≡ Some l → NamesBelow (length ss) t
layout_names ss void l e = absurd cc
layout_names ss (int t) l e = tt
layout_names ss (pointer t) l e = tt
layout_names ss (array t n) l e = let r = repeats n (layout_in ss t) l e in layout_names ss t r.part r.is
layout_names ss (struct k) l e = let s = stands ss k l e in get_below ss k s.item s.is

pub layout_small : (ss : List Struct) → AreStructs ss → (t : Ty) (l : Layout) → layout_in ss t ≡ Some l → l.size ≤ 32767
layout_small ss ok void l e = absurd cc
layout_small ss ok (int t) l e = let s : int_layout t ≡ l = cc in subst (λ (m : Layout). m.size ≤ 32767) s (int_small t)
layout_small ss ok (pointer t) l e = let s : layout 2 2 ≡ l = cc in subst (λ (m : Layout). m.size ≤ 32767) s (let two : 2 ≤ 32767 = omega arith in two)
layout_small ss ok (array t n) l e = (repeats n (layout_in ss t) l e).few
layout_small ss ok (struct k) l e = let s = stands ss k l e in subst (λ (m : Layout). m.size ≤ 32767) s.whole (ok k s.item s.is).small

-- the layouts of types that name structs below n, where g has these
module _ (ss : List Struct) (n : ℕ) (g : ℕ → Layout) (same : (k : ℕ) (x : Struct) → k < n → slice_get ss k ≡ Some x → g k ≡ x.layout) where
  pub type_is : (t : Ty) (l : Layout) → NamesBelow n t → layout_in ss t ≡ Some l → type_layout g t ≡ l
  type_is void l names e = absurd cc
  type_is (int t) l names e = cc
  type_is (pointer t) l names e = cc
  type_is (array t m) l names e =
      let r = repeats m (layout_in ss t) l e in
      ap (λ (k : Layout). layout (k.size * m) k.align) (type_is t r.part names r.is) ∙ sym r.whole
  type_is (struct k) l names e = let s = stands ss k l e in same k s.item names s.is ∙ s.whole

  pub type_small : AreStructs ss → (t : Ty) (l : Layout) → NamesBelow n t → layout_in ss t ≡ Some l → IsSmall g t
  type_small ok void l names e = absurd cc
  type_small ok (int t) l names e = tt
  type_small ok (pointer t) l names e = tt
  type_small ok (array t m) l names e =
      let r = repeats m (layout_in ss t) l e in (
        type_small ok t r.part names r.is,
        subst (λ (k : Layout). k.size ≤ 32767) (sym (type_is (array t m) l names e)) r.few,
      )
  type_small ok (struct k) l names e =
      let s = stands ss k l e in
      subst (λ (m : Layout). m.size ≤ 32767) (sym (same k s.item names s.is)) (ok k s.item s.is).small

  pub fields_are : (k : ℕ) → k ≤ n → (fs : List Field) (ls : List Layout) → AreLaid ss k fs ls → map (λ (f : Field). type_layout g f.ty) fs ≡ ls
  fields_are k le [] [] h = refl
  fields_are k le [] (l ∷ ls) h = absurd h
  fields_are k le (f ∷ fs) [] h = absurd h
  fields_are k le (f ∷ fs) (l ∷ ls) h =
      ap (λ x. x ∷ map (λ (f : Field). type_layout g f.ty) fs) (type_is f.ty l (more_names k le f.ty h.1) h.0) ∙ ap (λ xs. l ∷ xs) (fields_are k le fs ls h.2)
    where
      more_names : (k : ℕ) → k ≤ n → (t : Ty) → NamesBelow k t → NamesBelow n t
      more_names k le void h = h
      more_names k le (int t) h = h
      more_names k le (pointer t) h = h
      more_names k le (array t m) h = more_names k le t h
      more_names k le (struct j) h = omega (arith, le, h)

-- ---- in a program

module _ (ss : List Struct) (ok : AreStructs ss) (structs : List (List Field)) (first : IsPrefix (fields_in ss) structs) where
  pub fields_at : (k : ℕ) (x : Struct) → slice_get ss k ≡ Some x → slice_index_or structs k [] ≡ x.fields
  fields_at k x e =
      index_is structs k [] x.fields (get_later (fields_in ss) structs k x.fields first (get_mapped (λ (y : Struct). y.fields) ss k x e))

  pub struct_is : (d k : ℕ) (x : Struct) → k < d → slice_get ss k ≡ Some x → struct_at structs d k ≡ x.layout
  struct_is zero k x lt e = absurd (omega (arith, lt))
  struct_is (suc d) k x lt e =
      let s = ok k x e in
      ap (λ fs. struct_of_fields (fields_layout (map (λ (f : Field). type_layout (struct_at structs d) f.ty) fs))) (fields_at k x e)
      ∙ ap (λ ls. struct_of_fields (fields_layout ls))
      (fields_are ss k (struct_at structs d) (λ j y low q. struct_is d j y (omega (arith, low, lt)) q) k (omega arith) x.fields s.layouts s.laid)
      ∙ sym s.whole

  pub long : length ss ≤ length structs
  long = let h = prefix_length (fields_in ss) structs first in let e = length_mapped ss in omega (arith, h, e)
    where
      length_mapped : (xs : List Struct) → length (fields_in xs) ≡ length xs
      length_mapped [] = refl
      length_mapped (x ∷ xs) = ap suc (length_mapped xs)

  abbrev of_struct : ℕ → Layout
  of_struct = struct_at structs (length structs)

  here : (k : ℕ) (x : Struct) → k < length ss → slice_get ss k ≡ Some x → of_struct k ≡ x.layout
  here k x low e = struct_is (length structs) k x (omega (arith, low, long)) e

  pub layout_is : (t : Ty) (l : Layout) → layout_in ss t ≡ Some l → layout_of structs t ≡ l
  layout_is t l e = type_is ss (length ss) of_struct here t l (layout_names ss t l e) e

  pub sized : (t : Ty) (l : Layout) → layout_in ss t ≡ Some l → IsSized structs t
  sized t l e = record {
    names = more_names t (layout_names ss t l e);
    small = type_small ss (length ss) of_struct here ok t l (layout_names ss t l e) e;
  }
    where
      more_names : (t : Ty) → NamesBelow (length ss) t → NamesBelow (length structs) t
      more_names void h = h
      more_names (int t) h = h
      more_names (pointer t) h = h
      more_names (array t m) h = more_names t h
      more_names (struct j) h = let le = long in omega (arith, h, le)

  pub points_well : (t : Ty) → PointsIn ss t → PointsWell structs t
  points_well void h = tt
  points_well (int t) h = tt
  points_well (pointer t) h =
      let b = h.0 in
      (sized t b.layout b.is, subst (λ (l : Layout). 0 < l.size) (sym (layout_is t b.layout b.is)) b.some, points_well t h.1)
  points_well (array t n) h = points_well t h
  points_well (struct k) h = tt

  pub complete_sized : (t : Ty) → IsComplete ss t → IsSized structs t
  complete_sized void h = record { names = tt; small = tt }
  complete_sized (int t) h = sized (int t) h.layout h.is
  complete_sized (pointer t) h = sized (pointer t) h.layout h.is
  complete_sized (array t n) h = sized (array t n) h.layout h.is
  complete_sized (struct k) h = sized (struct k) h.layout h.is

  pub known_type : (t : Ty) → IsKnownType ss t → IsType structs t
  known_type t h = record { sized = complete_sized t h.0; points = points_well t h.1 }
