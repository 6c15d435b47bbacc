-- Types, fields and structs by the rules that make them.
use Rattle.std.proofs.Common.{◌⊎◌, inl, inr, ◌≡◌, ℕ, zero, suc, ◌<◌, ◌≤◌, Bool, true, false, List, [], ◌∷◌, ◌++◌, drop, fold, length, Option, Some, None, ap, sym, subst, ◌∙◌, refl, arith}
use Rattle.std.specs.Prelude.{⊤, ℤ, pos, negsuc, int_le, nat_eq, nat_le, bytes_eq, slice_get, if◌then◌else◌}
use Rattle.std.specs.Option.{option_map}
use Rattle.std.proofs.lemmas.Bool.Decides.{nat_tests}
use Rattle.std.proofs.lemmas.Int.{ints}
use Rattle.nm_base.specs.declared.pos.Pos.{Pos}
use Rattle.nm_base.specs.declared.int_type.IntType.{IntType}
use Rattle.nm_base.specs.declared.int_type.IntType.TheVariants.{I16, I32}
use Rattle.nm_base.specs.declared.refusal.Refusal.TheVariants.{BadType}
use Rattle.nm_base.specs.IntType.{least}
use Rattle.nesc_core.specs.declared.layout.Layout.{Layout}
use Rattle.nesc_core.specs.Plain.{Ty, Field, void, int, pointer, array, struct}
use Rattle.nesc_core.specs.Size.{layout, fields_layout, struct_of_fields, with_field, NamesBelow}
use Rattle.nesc_core.specs.Typing.{IsOf}
use Rattle.nesc_types.specs.Literals.{candidates}
use Rattle.nesc_types.specs.Rule.{or_refuse}
use Rattle.elab_meaning.specs.Scope as scope
use Rattle.elab_meaning.specs.Scope.{Entry, Kind, Meaning, Struct, Tag, a_struct, an_enum, lookup, lookup_tag, newer, newer_tag}
use Rattle.elab_meaning.specs.Convert.{layout_in, small}
use Rattle.elab_meaning.specs.Operators.{all_point_well, array_of, arrays, base_alone, base_behind, behind_stars, closed, ended, enum_constant, enum_type, fields_point_well, fields_with, grown_by, is_open, no_fields, pointers, points_well, stars_on, with_field_named, with_layout}
use Rattle.elab_laws.specs.Known.{AreLaid, Each, HasBytes, HasLayout, IsComplete, IsKnownType, IsOpen, IsPrefix, IsStruct, MayPoint, PointsIn}
use Rattle.elab_laws.proofs.Lists.{each_joined, each_kept, get_below, get_there, prefix_length}
use Rattle.elab_laws.proofs.Numbers.{IsConst, first_holding_is, in_range}
use Rattle.elab_laws.proofs.Sizes.{layout_at, layout_names, small_is, stands}
use Rattle.elab_laws.proofs.Steps.{Says, says, says_any, says_found, says_if, says_kept, says_then, refuses}
use Rattle.elab_laws.proofs.Later.{complete_later, laid_later, may_point_later}
use Rattle.elab_laws.proofs.Operations.{Takes, takes_says}

-- ---- names

abbrev pub MaybeIs : {A : Type 0} → (A → Type 0) → Option A → Type 0
MaybeIs P None = ⊤
MaybeIs P (Some x) = P x

pub lookup_is : (P : Meaning → Type 0) (names : List Entry) (name : List ℕ) → Each (λ (e : Entry). P e.meaning) names → MaybeIs P (lookup names name)
lookup_is P names name h = from names None tt h
  where
    newer_is : (e : Entry) (o : Option Meaning) (b : Bool) → P e.meaning → MaybeIs P o → MaybeIs P (if b then Some e.meaning else o)
    newer_is e o true h k = h
    newer_is e o false h k = k

    from : (names : List Entry) (o : Option Meaning) → MaybeIs P o → Each (λ (e : Entry). P e.meaning) names → MaybeIs P (fold (newer name) o names)
    from [] o k h = k
    from (e ∷ es) o k h = from es (newer name o e) (newer_is e o (bytes_eq e.name name) h.0 k) h.1

pub lookup_tag_is : (P : Kind → Type 0) (tags : List Tag) (name : List ℕ) → Each (λ (t : Tag). P t.kind) tags → MaybeIs P (lookup_tag tags name)
lookup_tag_is P tags name h = from tags None tt h
  where
    newer_is : (t : Tag) (o : Option Kind) (b : Bool) → P t.kind → MaybeIs P o → MaybeIs P (if b then Some t.kind else o)
    newer_is t o true h k = h
    newer_is t o false h k = k

    from : (tags : List Tag) (o : Option Kind) → MaybeIs P o → Each (λ (t : Tag). P t.kind) tags → MaybeIs P (fold (newer_tag name) o tags)
    from [] o k h = k
    from (t ∷ ts) o k h = from ts (newer_tag name o t) (newer_is t o (bytes_eq t.name name) h.0 k) h.1

-- ---- stars

abbrev pub MayType : ℕ → List Struct → Ty → Type 0
MayType n ss t = IsComplete ss t × MayPoint n ss t

abbrev pub MayBase : ℕ → List Struct → Ty → Type 0
MayBase n ss t = (IsComplete ss t ⊎ IsOpen n t) × MayPoint n ss t

pub may_type_later : (ss more : List Struct) → IsPrefix ss more → (n : ℕ) (t : Ty) → MayType n ss t → MayType n more t
may_type_later ss more longer n t h = (complete_later ss more longer t h.0, may_point_later ss more longer n t h.1)

pub may_base_later : (ss more : List Struct) → IsPrefix ss more → (n : ℕ) (t : Ty) → MayBase n ss t → MayBase n more t
may_base_later ss more longer n t h = (either h.0, may_point_later ss more longer n t h.1)
  where
    either : IsComplete ss t ⊎ IsOpen n t → IsComplete more t ⊎ IsOpen n t
    either (inl k) = inl (complete_later ss more longer t k)
    either (inr o) = inr o

-- a struct that has ended has a number among the structs
ended_below : (ss : List Struct) (k : ℕ) → IsComplete ss (struct k) → k < length ss
ended_below ss k h = let st = stands ss k h.layout h.is in get_below ss k st.item st.is

at_least : (m k : ℕ) → nat_le m k ≡ true → m ≤ k
at_least m k q = grind (arith, nat_tests)

below_it : (m k : ℕ) → nat_le m k ≡ false → k < m
below_it m k q = grind (arith, nat_tests)

pub not_open : (ss : List Struct) (t : Ty) → is_open ss t ≡ true → IsComplete ss t → ⊥
not_open ss void q h = absurd cc
not_open ss (int t) q h = absurd cc
not_open ss (pointer t) q h = absurd cc
not_open ss (array t n) q h = absurd cc
not_open ss (struct k) q h = let low = ended_below ss k h in let high = at_least (length ss) k q in absurd (omega (arith, low, high))

-- what may be open and is not has ended
closed_complete : (ss : List Struct) (n : ℕ) (t : Ty) → is_open ss t ≡ false → IsComplete ss t ⊎ IsOpen n t → IsComplete ss t
closed_complete ss n t q (inl h) = h
closed_complete ss n void q (inr o) = absurd o
closed_complete ss n (int t) q (inr o) = absurd o
closed_complete ss n (pointer t) q (inr o) = absurd o
closed_complete ss n (array t m) q (inr o) = absurd o
closed_complete ss n (struct k) q (inr o) = let x = get_there ss k (below_it (length ss) k q) in record { layout = x.0.layout; is = layout_at ss k x.0 x.1 }

bytes_of_takes : (ss : List Struct) (t : Ty) (n : ℕ) → Takes ss t n → HasBytes ss t
bytes_of_takes ss t n k = record { layout = k.layout; is = k.is; some = let e = k.size in let z = k.some in omega (arith, e, z) }

module _ (ss : List Struct) (at : Pos) where
  behind_says : (n : ℕ) (t : Ty) → IsComplete ss t ⊎ IsOpen n t → Says (base_behind ss at t) (λ u. HasBytes ss t ⊎ IsOpen n t)
  behind_says n t h = says_if (is_open ss t) _ _ (λ q. says tt (inr (opened q h))) (λ q. says_then _ _ (takes_says ss at t) (λ m k. says tt (inl (bytes_of_takes ss t m k))))
    where
      opened : is_open ss t ≡ true → IsComplete ss t ⊎ IsOpen n t → IsOpen n t
      opened q (inl k) = absurd (not_open ss t q k)
      opened q (inr o) = o

  behind_settled : (t : Ty) → IsComplete ss t → Says (base_behind ss at t) (λ u. HasBytes ss t)
  behind_settled t h = says_if (is_open ss t) _ _ (λ q. absurd (not_open ss t q h)) (λ q. says_then _ _ (takes_says ss at t) (λ m k. says tt (bytes_of_takes ss t m k)))

  pointer_bytes : (t : Ty) → HasBytes ss (pointer t)
  pointer_bytes t = record { layout = layout 2 2; is = refl; some = omega arith }

  starred_may : (n m : ℕ) (t : Ty) → HasBytes ss t ⊎ IsOpen n t → MayPoint n ss t → MayType n ss (stars_on (suc m) t)
  starred_may n zero t h k = (record { layout = layout 2 2; is = refl }, (h, k))
  starred_may n (suc m) t h k = (record { layout = layout 2 2; is = refl }, (inl (pointer_bytes (stars_on m t)), (starred_may n m t h k).1))

  starred_known : (m : ℕ) (t : Ty) → HasBytes ss t → PointsIn ss t → IsKnownType ss (stars_on (suc m) t)
  starred_known zero t h k = (record { layout = layout 2 2; is = refl }, (h, k))
  starred_known (suc m) t h k = (record { layout = layout 2 2; is = refl }, (pointer_bytes (stars_on m t), (starred_known m t h k).1))

  behind_stars_says : (n stars : ℕ) (t : Ty) → nat_eq stars 0 ≡ false → MayBase n ss t → Says (behind_stars ss at stars t) (MayType n ss)
  behind_stars_says n zero t q h = absurd cc
  behind_stars_says n (suc m) t q h = says_then _ _ (behind_says n t h.0) (λ u k. says _ (starred_may n m t k h.1))

  pub pointers_says : (n stars : ℕ) (t : Ty) → MayBase n ss t → Says (pointers ss at stars t) (MayType n ss)
  pointers_says n stars t h = says_if (nat_eq stars 0) _ _
      (λ z. says_then _ _ (says_if (is_open ss t) _ _ (λ q. refuses _) (λ q. says tt (closed_complete ss n t q h.0))) (λ u c. says t (c, h.1)))
      (λ z. behind_stars_says n stars t z h)

  behind_stars_settled : (stars : ℕ) (t : Ty) → nat_eq stars 0 ≡ false → IsKnownType ss t → Says (behind_stars ss at stars t) (IsKnownType ss)
  behind_stars_settled zero t q h = absurd cc
  behind_stars_settled (suc m) t q h = says_then _ _ (behind_settled t h.0) (λ u k. says _ (starred_known m t k h.1))

  pub pointers_settled : (stars : ℕ) (t : Ty) → IsKnownType ss t → Says (pointers ss at stars t) (IsKnownType ss)
  pointers_settled stars t h = says_if (nat_eq stars 0) _ _ (λ z. says_then _ _ (says_any (base_alone ss at t)) (λ u c. says t h)) (λ z. behind_stars_settled stars t z h)

  -- ---- arrays

  array_says : (t : Ty) (n : ℕ) → Says (array_of ss at t n) (λ u. (u ≡ array t n) × HasLayout ss (array t n))
  array_says t n = says_then _ _ (sized (layout_in ss (array t n)) refl) (λ m h. says _ (refl, h))
    where
      sized : (o : Option Layout) → layout_in ss (array t n) ≡ o → Says (or_refuse (BadType at) (option_map (λ (l : Layout). l.size) o)) (λ m. HasLayout ss (array t n))
      sized None q = refuses _
      sized (Some l) q = says _ (record { layout = l; is = q })

  pub arrays_says : (n : ℕ) (t : Ty) (lengths : List ℕ) → MayType n ss t → Says (arrays ss at t lengths) (MayType n ss)
  arrays_says n t [] h = says t h
  arrays_says n t (m ∷ ms) h = says_then _ _ (arrays_says n t ms h) (λ part k. says_kept _ (array_says part m) (λ u g. subst (MayType n ss) (sym g.0) (g.1, k.1)))

  pub arrays_settled : (t : Ty) (lengths : List ℕ) → IsKnownType ss t → Says (arrays ss at t lengths) (IsKnownType ss)
  arrays_settled t [] h = says t h
  arrays_settled t (m ∷ ms) h = says_then _ _ (arrays_settled t ms h) (λ part k. says_kept _ (array_says part m) (λ u g. subst (IsKnownType ss) (sym g.0) (g.1, k.1)))

-- ---- fields

pub record AreFields (n : ℕ) (ss : List Struct) (x : Struct) : Type 0 where
  pub layouts : List Layout
  pub laid : AreLaid ss (length ss) x.fields layouts
  pub whole : x.layout ≡ fields_layout layouts
  pub points : Each (λ (f : Field). MayPoint n ss f.ty) x.fields

pub none_yet : (n : ℕ) (ss : List Struct) → AreFields n ss no_fields
none_yet n ss = record { layouts = []; laid = tt; whole = refl; points = tt }

laid_more : (ss : List Struct) (k : ℕ) (fs : List Field) (ls : List Layout) (f : Field) (l : Layout) → AreLaid ss k fs ls → layout_in ss f.ty ≡ Some l → NamesBelow k f.ty → AreLaid ss k (fs ++ f ∷ []) (ls ++ l ∷ [])
laid_more ss k [] [] f l h e names = (e, names, tt)
laid_more ss k [] (m ∷ ls) f l h e names = absurd h
laid_more ss k (g ∷ fs) [] f l h e names = absurd h
laid_more ss k (g ∷ fs) (m ∷ ls) f l h e names = (h.0, h.1, laid_more ss k fs ls f l h.2 e names)

one_more : (done : Layout) (ls : List Layout) (l : Layout) → with_field (fold with_field done ls) l ≡ fold with_field done (ls ++ l ∷ [])
one_more done [] l = refl
one_more done (m ∷ ls) l = one_more (with_field done m) ls l

-- the layout with one more field
record Grown (ss : List Struct) (x : Struct) (t : Ty) (l : Layout) : Type 0 where
  pub part : Layout
  pub is : layout_in ss t ≡ Some part
  pub whole : l ≡ with_field x.layout part

pub field_says : (ss : List Struct) (at : Pos) (n : ℕ) (x : Struct) (name : List ℕ) (t : Ty) (is_const : Bool) → AreFields n ss x → MayPoint n ss t
    → Says (with_field_named ss at x name t is_const) (AreFields n ss)
field_says ss at n x name t is_const h points = says_then _ _ grows (λ l g. says (fields_with x name t is_const l) (made l g))
  where
    grows : Says (grown_by ss at x name t) (Grown ss x t)
    grows = says_if (scope.has_field x.fields name) _ _ (λ q. refuses _) (λ q. says_then _ _ (says_found _ (layout_in ss t))
        (λ f e. says_kept _ (says_found _ (small (with_field x.layout f))) (λ l k. record { part = f; is = e; whole = sym (small_is (with_field x.layout f) l k).0 })))

    made : (l : Layout) → Grown ss x t l → AreFields n ss (fields_with x name t is_const l)
    made l g = record {
      layouts = h.layouts ++ g.part ∷ [];
      laid = laid_more ss (length ss) x.fields h.layouts (record { name = name; ty = t }) g.part h.laid g.is (layout_names ss t g.part g.is);
      whole = g.whole ∙ ap (λ (m : Layout). with_field m g.part) h.whole ∙ one_more (layout 0 1) h.layouts g.part;
      points = each_joined (λ (f : Field). MayPoint n ss f.ty) x.fields (record { name = name; ty = t } ∷ []) h.points (points, tt);
    }

pub fields_later : (n : ℕ) (ss more : List Struct) → IsPrefix ss more → (x : Struct) → AreFields n ss x → AreFields n more x
fields_later n ss more longer x h = record {
  layouts = h.layouts;
  laid = laid_later ss more longer (length ss) (length more) (prefix_length ss more longer) x.fields h.layouts h.laid;
  whole = h.whole;
  points = each_kept (λ (f : Field). MayPoint n ss f.ty) (λ (f : Field). MayPoint n more f.ty) (λ f g. may_point_later ss more longer n f.ty g) x.fields h.points;
}

-- ---- the end of a struct

-- what pointers in the type point to has bytes, or its definition has not ended
abbrev pub IsChecked : List Struct → Ty → Type 0
IsChecked ss void = ⊤
IsChecked ss (int t) = ⊤
IsChecked ss (pointer t) = ((is_open ss t ≡ true) ⊎ HasBytes ss t) × IsChecked ss t
IsChecked ss (array t n) = IsChecked ss t
IsChecked ss (struct k) = ⊤

checks : (ss : List Struct) (at : Pos) (t : Ty) → Says (points_well ss at t) (λ u. IsChecked ss t)
checks ss at void = says tt tt
checks ss at (int t) = says tt tt
checks ss at (pointer t) = says_then _ _
    (says_if {P = λ u. (is_open ss t ≡ true) ⊎ HasBytes ss t} (is_open ss t) _ _ (λ q. says tt (inl q)) (λ q. says_then _ _ (takes_says ss at t) (λ m k. says tt (inr (bytes_of_takes ss t m k)))))
    (λ u h. says_kept _ (checks ss at t) (λ v k. (h, k)))
checks ss at (array t n) = checks ss at t
checks ss at (struct k) = says tt tt

fields_checked : (ss : List Struct) (at : Pos) (fs : List Field) → Says (fields_point_well ss at fs) (λ u. Each (λ (f : Field). IsChecked ss f.ty) fs)
fields_checked ss at [] = says tt tt
fields_checked ss at (f ∷ fs) = says_then _ _ (checks ss at f.ty) (λ u h. says_kept _ (fields_checked ss at fs) (λ v k. (h, k)))

pub all_checked : (ss : List Struct) (at : Pos) (xs : List Struct) → Says (all_point_well ss at xs) (λ u. Each (λ (x : Struct). Each (λ (f : Field). IsChecked ss f.ty) x.fields) xs)
all_checked ss at [] = says tt tt
all_checked ss at (x ∷ xs) = says_then _ _ (fields_checked ss at x.fields) (λ u h. says_kept _ (all_checked ss at xs) (λ v k. (h, k)))

-- where none is open any more
pub checked_points : (ss : List Struct) (n : ℕ) → n ≤ length ss → (t : Ty) → MayPoint n ss t → IsChecked ss t → PointsIn ss t
checked_points ss n le void h k = tt
checked_points ss n le (int t) h k = tt
checked_points ss n le (pointer t) h k = (bytes t k.0 h.0, checked_points ss n le t h.1 k.1)
  where
    bytes : (t : Ty) → (is_open ss t ≡ true) ⊎ HasBytes ss t → HasBytes ss t ⊎ IsOpen n t → HasBytes ss t
    bytes t (inr b) m = b
    bytes t (inl q) (inl b) = b
    bytes void (inl q) (inr o) = absurd o
    bytes (int t) (inl q) (inr o) = absurd o
    bytes (pointer t) (inl q) (inr o) = absurd o
    bytes (array t m) (inl q) (inr o) = absurd o
    bytes (struct j) (inl q) (inr o) = let high = at_least (length ss) j q in absurd (omega (arith, o, le, high))
checked_points ss n le (array t m) h k = checked_points ss n le t h k
checked_points ss n le (struct j) h k = tt

-- a struct at its end
pub record Ends (ss : List Struct) (first : ℕ) (x done : Struct) : Type 0 where
  pub fields : done.fields ≡ x.fields
  pub layout : done.layout ≡ struct_of_fields x.layout
  pub small : done.layout.size ≤ 32767
  pub checked : Each (λ (y : Struct). Each (λ (f : Field). IsChecked (ss ++ (done ∷ [])) f.ty) y.fields) (drop first (ss ++ (done ∷ [])))

record Closes (x done : Struct) : Type 0 where
  pub fields : done.fields ≡ x.fields
  pub layout : done.layout ≡ struct_of_fields x.layout
  pub small : done.layout.size ≤ 32767

closes_says : (at : Pos) (x : Struct) → Says (closed at x) (Closes x)
closes_says at x = says_then _ _ (says_found _ (small (struct_of_fields x.layout))) (λ l e. says (with_layout x l) (made l (small_is (struct_of_fields x.layout) l e)))
  where
    made : (l : Layout) → (struct_of_fields x.layout ≡ l) × (l.size ≤ 32767) → Closes x (with_layout x l)
    made l h = record { fields = refl; layout = sym h.0; small = h.1 }

pub ended_says : (ss : List Struct) (at : Pos) (first : ℕ) (x : Struct) → Says (ended ss at first x) (Ends ss first x)
ended_says ss at first x = says_then _ _ (closes_says at x)
    (λ done h. says_then _ _ (all_checked (ss ++ (done ∷ [])) at (drop first (ss ++ (done ∷ []))))
    (λ u k. says done (record { fields = h.fields; layout = h.layout; small = h.small; checked = k })))

pub get_dropped : {A : Type 0} (xs : List A) (first k : ℕ) (x : A) → first ≤ k → slice_get xs k ≡ Some x → (i : ℕ) × (slice_get (drop first xs) i ≡ Some x)
get_dropped xs zero k x le e = (k, e)
get_dropped [] (suc first) k x le e = absurd cc
get_dropped (y ∷ xs) (suc first) zero x le e = absurd (omega (arith, le))
get_dropped (y ∷ xs) (suc first) (suc k) x le e = get_dropped xs first k x (omega (arith, le)) e

-- its fields lie in it
pub struct_is : (n : ℕ) (ss : List Struct) (first : ℕ) (x done : Struct) → AreFields n ss x → Ends ss first x done → IsStruct ss (length ss) done
struct_is n ss first x done h k = record {
  layouts = h.layouts;
  laid = subst (λ fs. AreLaid ss (length ss) fs h.layouts) (sym k.fields) h.laid;
  whole = k.layout ∙ ap struct_of_fields h.whole;
  small = k.small;
}

-- ---- enum constants

pub enum_says : (at : Pos) (z : ℤ) → Says (enum_constant at z) IsConst
enum_says at z = says_then _ _ (says_found _ (enum_type z)) (λ t e. says (t, z) (typed z t e))
  where
    long_is : (n : ℕ) (t : IntType) (b : Bool) → int_le (least I32) (negsuc n) ≡ b → (if b then Some I32 else None) ≡ Some t → IsOf t (negsuc n)
    long_is n t false q e = absurd cc
    long_is n t true q e = let w : I32 ≡ t = cc in subst (λ u. IsOf u (negsuc n)) w (in_range I32 (negsuc n) (grind (arith, nat_tests), omega (arith, ints)))

    short_is : (n : ℕ) (t : IntType) (b : Bool) → int_le (least I16) (negsuc n) ≡ b → (if b then Some I16 else (if int_le (least I32) (negsuc n) then Some I32 else None)) ≡ Some t → IsOf t (negsuc n)
    short_is n t true q e = let w : I16 ≡ t = cc in subst (λ u. IsOf u (negsuc n)) w (in_range I16 (negsuc n) (grind (arith, nat_tests), omega (arith, ints)))
    short_is n t false q e = long_is n t (int_le (least I32) (negsuc n)) refl e

    typed : (z : ℤ) (t : IntType) → enum_type z ≡ Some t → IsOf t z
    typed (pos n) t e = first_holding_is n (candidates false false false) t e
    typed (negsuc n) t e = short_is n t (int_le (least I16) (negsuc n)) refl e
