-- The types of places have sizes, and parts lie within what they are parts of.
use Rattle.std.proofs.Math.ListN as list
use Rattle.std.proofs.lemmas.List.{take-map, drop-map}
use Rattle.std.proofs.lemmas.List.Elements.{All-take, All-drop}
use Rattle.nesc_core.specs.declared.tree.CoreType.{CoreType}
use Rattle.nesc_core.specs.View.{type_of}
use Rattle.std.proofs.Common.{drop, ◌≡◌, ℕ, zero, suc, ◌+◌, ◌*◌, ◌<◌, ◌≤◌, List, [], ◌∷◌, map, fold, length, get_or, take, All, ap, ◌∙◌, sym, subst, arith}
use Rattle.std.specs.Prelude.{slice_get, slice_index_or}
use Rattle.std.proofs.Math.Nat.{mul_comm, mul-le-mul_left}
use Rattle.nm_base.specs.declared.int_type.IntType.TheVariants.{I8, U8, I16, U16, I32, U32}
use Rattle.nesc_core.specs.declared.layout.Layout.{Layout}
use Rattle.nesc_core.specs.Plain.{Ty, void, int, pointer, array, struct, Field, Object, Program, Place}
use Rattle.nesc_core.specs.Plain as plain
use Rattle.nesc_core.specs.Size.{layout, rounded, with_field, fields_layout, struct_at, layout_of, AreSized, IsSized}
use Rattle.nesc_core.specs.PlaceTypes.{element_of, count_of, fields_of, field_type, object_type, place_type, field_offset}
use Rattle.nesc_core.specs.Parts.{LiesWell}
use Rattle.nesc_core.proofs.SizeLemmas.{fold-grows, rounded-le, struct_at-whole, names-more}
use Rattle.core_meaning.specs.declared.access.Where.{Where}
use Rattle.core_meaning.specs.declared.access.Where.TheVariants.{At, Within}
use Rattle.core_meaning.specs.Work.{moved}
use Rattle.core_act.specs.Evaluable.{Holds, Findable}
use Rattle.core_act.specs.Told.{LiesWithin}

pub void_sized : (structs : List (List Field)) → IsSized structs void
void_sized structs = record { names = tt; small = tt }

pub size_small : (structs : List (List Field)) (t : Ty) → AreSized structs → IsSized structs t → (layout_of structs t).size ≤ 32767
size_small structs void are h = omega arith
size_small structs (int I8) are h = omega arith
size_small structs (int U8) are h = omega arith
size_small structs (int I16) are h = omega arith
size_small structs (int U16) are h = omega arith
size_small structs (int I32) are h = omega arith
size_small structs (int U32) are h = omega arith
size_small structs (pointer t) are h = omega arith
size_small structs (array t n) are h = h.small.1
size_small structs (struct k) are h = h.small

pub element_sized : (structs : List (List Field)) (t : Ty) → IsSized structs t → IsSized structs (element_of t)
element_sized structs void h = void_sized structs
element_sized structs (int t) h = void_sized structs
element_sized structs (pointer t) h = void_sized structs
element_sized structs (array t n) h = record { names = h.names; small = h.small.0 }
element_sized structs (struct k) h = void_sized structs

object_sized : (structs : List (List Field)) (os : List Object) → All (LiesWell structs) os → (k : ℕ) → IsSized structs (object_type (slice_get os k))
object_sized structs [] all k = void_sized structs
object_sized structs (o ∷ os) all zero = (all 0 o (omega arith)).sized
object_sized structs (o ∷ os) all (suc k) = object_sized structs os (λ i d below. all (suc i) d (omega arith)) k

pub local_sized : (structs : List (List Field)) (ts : List Ty) → All (IsSized structs) ts → (x : ℕ) → IsSized structs (slice_index_or ts x void)
local_sized structs [] all x = void_sized structs
local_sized structs (t ∷ ts) all zero = all 0 t (omega arith)
local_sized structs (t ∷ ts) all (suc x) = local_sized structs ts (λ i d below. all (suc i) d (omega arith)) x

nth_field_sized : (structs : List (List Field)) (fs : List Field) → All (λ f. IsSized structs f.ty) fs → (k : ℕ) → IsSized structs (field_type (slice_get fs k))
nth_field_sized structs [] all k = void_sized structs
nth_field_sized structs (f ∷ fs) all zero = all 0 f (omega arith)
nth_field_sized structs (f ∷ fs) all (suc k) = nth_field_sized structs fs (λ i d below. all (suc i) d (omega arith)) k

pub field_sized : (structs : List (List Field)) (t : Ty) → AreSized structs → IsSized structs t → (k : ℕ) → IsSized structs (field_type (slice_get (fields_of structs t) k))
field_sized structs void are h k = void_sized structs
field_sized structs (int t) are h k = void_sized structs
field_sized structs (pointer t) are h k = void_sized structs
field_sized structs (array t n) are h k = void_sized structs
field_sized structs (struct j) are h k =
    nth_field_sized structs (get_or structs j [])
    (λ i d below. record {
      names = names-more j (length structs) h.names (get_or (get_or structs j []) i d).ty (are.lower j h.names i d below);
      small = are.small j h.names i d below;
    }) k

-- ---- the type of a place has a size

pub place_sized : (p : Program) (types : List Ty) → Holds p types → (place : Place) → Findable p types place → IsSized p.structs (place_type p types place)
place_sized p types held (plain.object k) can = object_sized p.structs p.objects held.objects k
place_sized p types held (plain.local x) can = local_sized p.structs types held.locals x
place_sized p types held (plain.deref e t) can = can.0
place_sized p types held (plain.index place e) can = element_sized p.structs (place_type p types place) (place_sized p types held place can.0)
place_sized p types held (plain.field place k) can = field_sized p.structs (place_type p types place) held.structs (place_sized p types held place can.1) k

-- ---- elements and fields

pub element_within : (structs : List (List Field)) (t : Ty) (i : ℕ) → i < count_of t
    → i * (layout_of structs (element_of t)).size + (layout_of structs (element_of t)).size ≤ (layout_of structs t).size
element_within structs void i below = absurd (omega arith)
element_within structs (int t) i below = absurd (omega arith)
element_within structs (pointer t) i below = absurd (omega arith)
element_within structs (array t n) i below = times (layout_of structs t).size i n below
  where
    times : (s i n : ℕ) → i < n → i * s + s ≤ s * n
    times s i n below = let m : s * suc i ≤ s * n = mul-le-mul_left s below in let t : i * s ≡ s * i = mul_comm i s in omega (arith, m, t)
element_within structs (struct k) i below = absurd (omega arith)

module _ (lies : Ty → Layout) where
  nth_field_within : (done : Layout) (fs : List Field) (k : ℕ) → k < length fs
      → rounded (fold with_field done (map (λ f. lies f.ty) (take k fs))).size (lies (field_type (slice_get fs k))).align + (lies (field_type (slice_get fs k))).size
      ≤ (fold with_field done (map (λ f. lies f.ty) fs)).size
  nth_field_within done [] k below = absurd (omega arith)
  nth_field_within done (f ∷ fs) zero below = fold-grows (with_field done (lies f.ty)) (map (λ (g : Field). lies g.ty) fs)
  nth_field_within done (f ∷ fs) (suc k) below = nth_field_within (with_field done (lies f.ty)) fs k (omega arith)

pub field_within : (structs : List (List Field)) (t : Ty) (k : ℕ) → AreSized structs → IsSized structs t → k < length (fields_of structs t)
    → field_offset structs t k + (layout_of structs (field_type (slice_get (fields_of structs t) k))).size ≤ (layout_of structs t).size
field_within structs void k are h below = absurd (omega arith)
field_within structs (int t) k are h below = absurd (omega arith)
field_within structs (pointer t) k are h below = absurd (omega arith)
field_within structs (array t n) k are h below = absurd (omega arith)
field_within structs (struct j) k are h below =
    let fs = get_or structs j [] in
    let all = fields_layout (map (λ (f : Field). layout_of structs f.ty) fs) in
    let whole : (struct_at structs (length structs) j).size ≡ rounded all.size all.align = ap (λ (l : Layout). l.size) (struct_at-whole structs are.lower j h.names) in
    omega (arith, whole, rounded-le all.size all.align, nth_field_within (layout_of structs) (layout 0 1) fs k below)

-- ---- places that lie within a local

pub lies_less : (w : Where) (n m : ℕ) → LiesWithin n w → m ≤ n → LiesWithin m w
lies_less (At a) n m h le = tt
lies_less (Within x o) n m h le = omega (arith, h)

pub lies_moved : (w : Where) (n d m : ℕ) → LiesWithin n w → d + m ≤ n → LiesWithin m (moved w d)
lies_moved (At a) n d m h le = tt
lies_moved (Within x o) n d m h le = omega (arith, h)

pub ruleset sizes = (void_sized, size_small, element_sized, local_sized, field_sized, place_sized, element_within, field_within, lies_less, lies_moved)

-- ---- the types of some locals

pub nth_type_sized : (structs : List (List Field)) (ts : List CoreType) (i : ℕ) (t : CoreType) → All (IsSized structs) (map type_of ts) → i < length ts → t ≡ get_or ts i t → IsSized structs (type_of t)
nth_type_sized structs ts i t all below is =
    let inside : i < length (map type_of ts) = rw list.length-map below in
    subst (IsSized structs) (list.get_or-map type_of ts i t ∙ ap type_of (sym is)) (all i (type_of t) inside)

pub span_is : (ts : List CoreType) (first count : ℕ) (span : List CoreType) → span ≡ take count (drop first ts) → map type_of span ≡ take count (drop first (map type_of ts))
span_is ts first count span is =
    ap (map type_of) is ∙ sym (take-map type_of count (drop first ts)) ∙ ap (take count) (sym (drop-map type_of first ts))

pub span_sized : (structs : List (List Field)) (ts : List CoreType) (first count : ℕ) (span : List CoreType) → span ≡ take count (drop first ts)
    → All (IsSized structs) (map type_of ts) → All (IsSized structs) (map type_of span)
span_sized structs ts first count span is all =
    subst (All (IsSized structs)) (sym (span_is ts first count span is))
    (All-take (IsSized structs) count (drop first (map type_of ts)) (All-drop (IsSized structs) first (map type_of ts) all))
