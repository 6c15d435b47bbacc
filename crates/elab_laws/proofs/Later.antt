-- What is known of types and names stays so while structs are added.
use Rattle.std.proofs.Common.{◌⊎◌, inl, inr, ◌≡◌, ℕ, ◌≤◌, List, [], ◌∷◌, ◌++◌, length, Some, sym, subst, arith}
use Rattle.std.specs.Prelude.{slice_get}
use Rattle.nesc_core.specs.declared.layout.Layout.{Layout}
use Rattle.nesc_core.specs.Plain.{Ty, Field, void, int, pointer, array, struct}
use Rattle.nesc_core.specs.Size.{NamesBelow}
use Rattle.elab_meaning.specs.Scope as scope
use Rattle.elab_meaning.specs.Scope.{Entry, Kind, Meaning, Struct, Tag, a_struct, an_enum}
use Rattle.elab_meaning.specs.Elab.{State}
use Rattle.elab_laws.specs.Known.{AreLaid, Each, HasBytes, HasLayout, IsComplete, IsKnown, IsKnownMeaning, IsKnownType, IsOpen, IsPrefix, IsStruct, MayPoint, NamesStruct, PointsIn}
use Rattle.elab_laws.proofs.Lists.{each_joined, each_kept, get_last, behind_prefix}
use Rattle.elab_laws.proofs.Sizes.{layout_later}

-- ---- more structs

module _ (ss more : List Struct) (longer : IsPrefix ss more) where
  pub has_layout_later : (t : Ty) → HasLayout ss t → HasLayout more t
  has_layout_later t h = record { layout = h.layout; is = layout_later ss more longer t h.layout h.is }

  pub has_bytes_later : (t : Ty) → HasBytes ss t → HasBytes more t
  has_bytes_later t h = record { layout = h.layout; is = layout_later ss more longer t h.layout h.is; some = h.some }

  pub complete_later : (t : Ty) → IsComplete ss t → IsComplete more t
  complete_later void h = tt
  complete_later (int t) h = has_layout_later (int t) h
  complete_later (pointer t) h = has_layout_later (pointer t) h
  complete_later (array t n) h = has_layout_later (array t n) h
  complete_later (struct k) h = has_layout_later (struct k) h

  pub points_later : (t : Ty) → PointsIn ss t → PointsIn more t
  points_later void h = tt
  points_later (int t) h = tt
  points_later (pointer t) h = (has_bytes_later t h.0, points_later t h.1)
  points_later (array t n) h = points_later t h
  points_later (struct k) h = tt

  pub known_type_later : (t : Ty) → IsKnownType ss t → IsKnownType more t
  known_type_later t h = (complete_later t h.0, points_later t h.1)

  pub may_point_later : (n : ℕ) (t : Ty) → MayPoint n ss t → MayPoint n more t
  may_point_later n void h = tt
  may_point_later n (int t) h = tt
  may_point_later n (pointer t) h = (either h.0, may_point_later n t h.1)
    where
      either : HasBytes ss t ⊎ IsOpen n t → HasBytes more t ⊎ IsOpen n t
      either (inl b) = inl (has_bytes_later t b)
      either (inr o) = inr o
  may_point_later n (array t m) h = may_point_later n t h
  may_point_later n (struct k) h = tt

  pub laid_later : (k m : ℕ) → k ≤ m → (fs : List Field) (ls : List Layout) → AreLaid ss k fs ls → AreLaid more m fs ls
  laid_later k m le [] [] h = tt
  laid_later k m le [] (l ∷ ls) h = absurd h
  laid_later k m le (f ∷ fs) [] h = absurd h
  laid_later k m le (f ∷ fs) (l ∷ ls) h = (layout_later ss more longer f.ty l h.0, more_names k m le f.ty h.1, laid_later k m le fs ls h.2)
    where
      more_names : (k m : ℕ) → k ≤ m → (t : Ty) → NamesBelow k t → NamesBelow m t
      more_names k m le void h = h
      more_names k m le (int t) h = h
      more_names k m le (pointer t) h = h
      more_names k m le (array t n) h = more_names k m le t h
      more_names k m le (struct j) h = omega (arith, le, h)

  pub struct_later : (k : ℕ) (x : Struct) → IsStruct ss k x → IsStruct more k x
  struct_later k x h = record { layouts = h.layouts; laid = laid_later k k (omega arith) x.fields h.layouts h.laid; whole = h.whole; small = h.small }

  pub meaning_later : (m : Meaning) → IsKnownMeaning ss m → IsKnownMeaning more m
  meaning_later (scope.object k t is_const) h = known_type_later t h
  meaning_later (scope.local x t is_const) h = known_type_later t h
  meaning_later (scope.function body params result) h = tt
  meaning_later (scope.task k) h = tt
  meaning_later (scope.constant t x) h = h
  meaning_later (scope.type t is_const) h = known_type_later t h

-- ---- more structs that may be open

open_more : (n m : ℕ) → n ≤ m → (t : Ty) → IsOpen n t → IsOpen m t
open_more n m le void h = absurd h
open_more n m le (int t) h = absurd h
open_more n m le (pointer t) h = absurd h
open_more n m le (array t k) h = absurd h
open_more n m le (struct k) h = omega (arith, le, h)

may_point_more : (n m : ℕ) → n ≤ m → (ss : List Struct) (t : Ty) → MayPoint n ss t → MayPoint m ss t
may_point_more n m le ss void h = tt
may_point_more n m le ss (int t) h = tt
may_point_more n m le ss (pointer t) h = (either h.0, may_point_more n m le ss t h.1)
  where
    either : HasBytes ss t ⊎ IsOpen n t → HasBytes ss t ⊎ IsOpen m t
    either (inl b) = inl b
    either (inr o) = inr (open_more n m le t o)
may_point_more n m le ss (array t k) h = may_point_more n m le ss t h
may_point_more n m le ss (struct k) h = tt

kind_more : (n m : ℕ) → n ≤ m → (k : Kind) → NamesStruct n k → NamesStruct m k
kind_more n m le (a_struct k) h = omega (arith, le, h)
kind_more n m le an_enum h = tt

pub known_more : (n m : ℕ) (s : State) → n ≤ m → IsKnown n s → IsKnown m s
known_more n m s le h = record {
  names = h.names;
  tags = each_kept (λ (t : Tag). NamesStruct n t.kind) (λ (t : Tag). NamesStruct m t.kind) (λ t k. kind_more n m le t.kind k) s.tags h.tags;
  structs = h.structs;
  fields = λ k x e. each_kept (λ (f : Field). MayPoint n s.structs f.ty) (λ (f : Field). MayPoint m s.structs f.ty) (λ f g. may_point_more n m le s.structs f.ty g) x.fields (h.fields k x e);
}

-- what points in structs may point
pub may_of_points : (n : ℕ) (ss : List Struct) (t : Ty) → PointsIn ss t → MayPoint n ss t
may_of_points n ss void h = tt
may_of_points n ss (int t) h = tt
may_of_points n ss (pointer t) h = (inl h.0, may_of_points n ss t h.1)
may_of_points n ss (array t k) h = may_of_points n ss t h
may_of_points n ss (struct k) h = tt

-- ---- a new name, a new tag and a new struct

pub named_more : (n : ℕ) (s : State) (e : Entry) → IsKnownMeaning s.structs e.meaning → IsKnown n s → IsKnown n (record s { names = s.names ++ (e ∷ []) })
named_more n s e k h = record {
  names = each_joined (λ (x : Entry). IsKnownMeaning s.structs x.meaning) s.names (e ∷ []) h.names (k, tt);
  tags = h.tags;
  structs = h.structs;
  fields = h.fields;
}

pub tagged_more : (n : ℕ) (s : State) (t : Tag) → NamesStruct n t.kind → IsKnown n s → IsKnown n (record s { tags = s.tags ++ (t ∷ []) })
tagged_more n s t k h = record {
  names = h.names;
  tags = each_joined (λ (x : Tag). NamesStruct n x.kind) s.tags (t ∷ []) h.tags (k, tt);
  structs = h.structs;
  fields = h.fields;
}

pub struct_more : (n : ℕ) (s : State) (x : Struct) → IsStruct s.structs (length s.structs) x → Each (λ (f : Field). MayPoint n s.structs f.ty) x.fields
    → IsKnown n s → IsKnown n (record s { structs = s.structs ++ (x ∷ []) })
struct_more n s x own points h = record {
  names = each_kept (λ (e : Entry). IsKnownMeaning s.structs e.meaning) (λ (e : Entry). IsKnownMeaning more e.meaning) (λ e k. meaning_later s.structs more longer e.meaning k) s.names h.names;
  tags = h.tags;
  structs = λ k y e. of_struct k y (get_last s.structs x k y e);
  fields = λ k y e. of_fields k y (get_last s.structs x k y e);
}
  where
    more : List Struct
    more = s.structs ++ (x ∷ [])

    longer : IsPrefix s.structs more
    longer = behind_prefix s.structs (x ∷ [])

    of_struct : (k : ℕ) (y : Struct) → (slice_get s.structs k ≡ Some y) ⊎ ((k ≡ length s.structs) × (x ≡ y)) → IsStruct more k y
    of_struct k y (inl e) = struct_later s.structs more longer k y (h.structs k y e)
    of_struct k y (inr e) = subst (λ j. IsStruct more j y) (sym e.0) (subst (IsStruct more (length s.structs)) e.1 (struct_later s.structs more longer (length s.structs) x own))

    later : (y : Struct) → Each (λ (f : Field). MayPoint n s.structs f.ty) y.fields → Each (λ (f : Field). MayPoint n more f.ty) y.fields
    later y = each_kept (λ (f : Field). MayPoint n s.structs f.ty) (λ (f : Field). MayPoint n more f.ty) (λ f g. may_point_later s.structs more longer n f.ty g) y.fields

    of_fields : (k : ℕ) (y : Struct) → (slice_get s.structs k ≡ Some y) ⊎ ((k ≡ length s.structs) × (x ≡ y)) → Each (λ (f : Field). MayPoint n more f.ty) y.fields
    of_fields k y (inl e) = later y (h.fields k y e)
    of_fields k y (inr e) = subst (λ (z : Struct). Each (λ (f : Field). MayPoint n more f.ty) z.fields) e.1 (later x points)
