-- Pointers, elements, fields and assignments, over the structs of a state.
use Rattle.std.proofs.Common.{◌⊎◌, inl, inr, ◌≡◌, ℕ, zero, suc, ◌+◌, ◌<◌, Bool, true, false, List, [], ◌∷◌, length, Option, Some, None, ap, sym, subst, ◌∙◌, refl, arith}
use Rattle.std.specs.Prelude.{pos, bytes_eq, slice_get, slice_index_or, if◌then◌else◌}
use Rattle.std.specs.Option.{option_map}
use Rattle.std.proofs.lemmas.Int.{ints}
use Rattle.nm_base.specs.declared.pos.Pos.{Pos}
use Rattle.nm_base.specs.declared.int_type.IntType.{IntType}
use Rattle.nm_base.specs.declared.int_type.IntType.TheVariants.{U16}
use Rattle.nesc_core.specs.declared.layout.Layout.{Layout}
use Rattle.nesc_core.specs.declared.tree.BinOp.{BinOp}
use Rattle.nesc_core.specs.declared.tree.BinOp.TheVariants as bin_op
use Rattle.nesc_core.specs.Plain.{Ty, Expr, Place, Program, Field, void, int, pointer, array, struct}
use Rattle.nesc_core.specs.Plain as core
use Rattle.nesc_core.specs.PlaceTypes.{place_type, fields_of, field_type, element_of}
use Rattle.nesc_core.specs.Typing.{PointsWell, IsArray, IsSome, IsStepped, Updates, Moves, Has}
use Rattle.nesc_tree.specs.declared.tree.PostOp.{PostOp}
use Rattle.nesc_tree.specs.declared.tree.PostOp.TheVariants as post
use Rattle.nesc_tree.specs.declared.tree.PreOp.{PreOp}
use Rattle.nesc_tree.specs.declared.tree.PreOp.TheVariants as pre
use Rattle.nesc_tree.specs.declared.tree.InOp.{InOp}
use Rattle.nesc_tree.specs.declared.tree.InOp.TheVariants as op
use Rattle.nesc_types.specs.Conversions.{promoted, common}
use Rattle.nesc_types.specs.Rule.{or_refuse}
use Rattle.nm_base.specs.declared.refusal.Refusal.TheVariants.{BadType}
use Rattle.elab_meaning.specs.Scope as scope
use Rattle.elab_meaning.specs.Scope.{Struct}
use Rattle.elab_meaning.specs.Convert as convert
use Rattle.elab_meaning.specs.Convert.{Typed, typed, Found, a_place, a_value, a_copy, Stride, Target, a_target, assignable, int_of, layout_in, pointer_to, size, size_behind, some_bytes, stride, struct_number}
use Rattle.elab_meaning.specs.Operators as operators
use Rattle.elab_meaning.specs.Operators.{FieldFound, apart, assigned, bytes_of, dereferenced, distance, element_behind, field_at, field_in, incremented, decremented, incremented_place, decremented_place, member, member_behind, member_of, moved, moved_back, negated, number_updated, offset, one, shift_updated, step_updated, step_updated_by, stepped, subtracted, subtracted_by, subtracted_from, update_found, updated, updated_at_common}
use Rattle.elab_meaning.specs.Places.{element, element_at, on_value}
use Rattle.elab_laws.specs.Known.{Each, IsPrefix, AreLaid, PointsIn}
use Rattle.elab_laws.specs.Formed.{HasIndexes, IsPlaceOf, IsPointerValue, IsValueOf, IsWellFound, fields_in}
use Rattle.elab_laws.proofs.Lists.{each_at, get_below}
use Rattle.elab_laws.proofs.Numbers.{in_range}
use Rattle.elab_laws.proofs.Sizes as sizes
use Rattle.elab_laws.proofs.Sizes.{AreStructs, Repeats, layout_small, repeats}
use Rattle.elab_laws.proofs.Steps.{Says, says, says_found, says_kept, says_then, refuses}
use Rattle.elab_laws.proofs.Values as values
use Rattle.elab_laws.proofs.Values.{IsArithmetic, IsComparison, Joined, IsShift, of_first, of_second, common_ok, int_of_is, integer_says, integers_says, joined_says, pointed_says, promoted_ok}

-- a type that takes n bytes, more than none
pub record Takes (ss : List Struct) (t : Ty) (n : ℕ) : Type 0 where
  pub layout : Layout
  pub is : layout_in ss t ≡ Some layout
  pub size : n ≡ layout.size
  pub some : 0 < n

pub takes_says : (ss : List Struct) (at : Pos) (t : Ty) → Says (size_behind ss at t) (Takes ss t)
takes_says ss at t = says_then _ _ (sized (layout_in ss t) refl) (λ n h. some n h)
  where
    sized : (o : Option Layout) → layout_in ss t ≡ o → Says (or_refuse (BadType at) (option_map (λ (l : Layout). l.size) o)) (λ n. (l : Layout) × ((layout_in ss t ≡ Some l) × (n ≡ l.size)))
    sized None q = refuses _
    sized (Some l) q = says l.size (l, (q, refl))

    some : (n : ℕ) → (l : Layout) × ((layout_in ss t ≡ Some l) × (n ≡ l.size)) → Says (some_bytes at n) (Takes ss t)
    some zero h = refuses _
    some (suc n) h = says (suc n) (record { layout = h.0; is = h.1.0; size = h.1.1; some = omega arith })

pub stride_says : (ss : List Struct) (at : Pos) (t : Ty) → Says (stride ss at t) (λ s. (t ≡ pointer s.part) × Takes ss s.part s.bytes)
stride_says ss at t = says_then _ _ (pointed_says at t) (λ u h. says_then _ _ (takes_says ss at u) (λ n k. says _ (h, k)))

pub pointer_to_says : (ss : List Struct) (at : Pos) (t : Ty) → Says (pointer_to ss at t) (λ u. (u ≡ pointer t) × ((n : ℕ) × Takes ss t n))
pointer_to_says ss at t = says_then _ _ (takes_says ss at t) (λ n k. says _ (refl, (n, k)))

pub struct_number_is : (t : Ty) (k : ℕ) → struct_number t ≡ Some k → t ≡ struct k
struct_number_is void k e = absurd cc
struct_number_is (int b) k e = absurd cc
struct_number_is (pointer t) k e = absurd cc
struct_number_is (array t n) k e = absurd cc
struct_number_is (struct j) k e = cc

-- a field by its name
pub field_from_is : (first : ℕ) (fs : List Field) (name : List ℕ) (x : ℕ × Ty) → scope.field_from first fs name ≡ Some x
    → (i : ℕ) × ((f : Field) × ((slice_get fs i ≡ Some f) × (x.0 ≡ first + i) × (x.1 ≡ f.ty)))
field_from_is first [] name x e = absurd cc
field_from_is first (f ∷ fs) name x e = by (bytes_eq f.name name) (field_from_is (suc first) fs name x) e
  where
    here : (first, f.ty) ≡ x → (x.0 ≡ first + 0) × (x.1 ≡ f.ty)
    here s = (let q : first ≡ x.0 = ap (λ (y : ℕ × Ty). y.0) s in omega (arith, q), sym (ap (λ (y : ℕ × Ty). y.1) s))

    by : (b : Bool) → (scope.field_from (suc first) fs name ≡ Some x → (i : ℕ) × ((g : Field) × ((slice_get fs i ≡ Some g) × (x.0 ≡ suc first + i) × (x.1 ≡ g.ty))))
        → (if b then Some (first, f.ty) else scope.field_from (suc first) fs name) ≡ Some x
        → (i : ℕ) × ((g : Field) × ((slice_get (f ∷ fs) i ≡ Some g) × (x.0 ≡ first + i) × (x.1 ≡ g.ty)))
    by true later q = let s : (first, f.ty) ≡ x = cc in (0, (f, (refl, (here s).0, (here s).1)))
    by false later q = let h = later q in let n = h.1.1.1 in (suc h.0, (h.1.0, (h.1.1.0, omega (arith, n), h.1.1.2)))

module _ (p : Program) (types : List Ty) (ss : List Struct) (ok : AreStructs ss) (first : IsPrefix (fields_in ss) p.structs)
    (points : (k : ℕ) (x : Struct) → slice_get ss k ≡ Some x → Each (λ (f : Field). PointsIn ss f.ty) x.fields) where
  abbrev H : Expr → Ty → Type 0
  H = Has p types

  abbrev V : Expr → Ty → Type 0
  V = IsValueOf p types

  abbrev W : Found → Type 0
  W = IsWellFound p types

  -- ---- pointers

  pub real : (e : Expr) (t : Ty) (n : ℕ) → Takes ss t n → IsPointerValue p types e t → values.Real p types e t
  real e t n k h = from (values.any_or_real p types e t h)
    where
      none : t ≡ void → ⊥
      none s = let q : layout_in ss void ≡ Some k.layout = subst (λ u. layout_in ss u ≡ Some k.layout) s k.is in absurd cc

      from : ((t ≡ void) × values.Any p types e) ⊎ values.Real p types e t → values.Real p types e t
      from (inl a) = absurd (none a.0)
      from (inr r) = r

  pub steps : (t : Ty) (n : ℕ) → Takes ss t n → PointsWell p.structs (pointer t) → IsStepped p.structs n (pointer t)
  steps t n k well = (well, k.size ∙ sym (ap (λ (l : Layout). l.size) (sizes.layout_is ss ok p.structs first t k.layout k.is)))

  pub moved_is : (e i : Expr) (t : Ty) (n : ℕ) (b : IntType) → Takes ss t n → IsPointerValue p types e t → H i (int b) → IsPointerValue p types (core.offset e i n) t
  moved_is e i t n b k h g = let r = real e t n k h in values.real_value p types (core.offset e i n) t r.points (steps t n k r.points, r.has, (b, g))

  pub moved_ok : (at : Pos) (x y : Typed) → V x.expr x.ty → V y.expr y.ty → Says (moved ss at x y) W
  moved_ok at x y hx hy = says_then _ _ (integer_says at y.ty) (λ b h. says_then _ _ (stride_says ss at x.ty)
      (λ s k. says _ (moved_is x.expr y.expr s.part s.bytes b k.1 (values.value_at p types x.expr x.ty (pointer s.part) k.0 hx) (values.value_at p types y.expr y.ty (int b) h hy))))

  pub moved_back_ok : (at : Pos) (t : Ty) (b : IntType) (e : Expr) (y : Typed) → IsPointerValue p types e t → y.ty ≡ int b → V y.expr y.ty → Says (moved_back ss at t b e y.expr) W
  moved_back_ok at t b e y h s hy = says_then _ _ (says_then _ _ (takes_says ss at t) (λ n k. says _ (moved_is e (negated b y.expr) t n (promoted b) k h (values.negated_ok p types at y hy b s))))
      (λ f k. says _ k)

  record IsApart (t u : Ty) (n : ℕ) : Type 0 where
    pub second : Ty
    pub whole : Ty
    pub is : u ≡ pointer second
    pub joined : Joined t second whole
    pub takes : Takes ss whole n

  apart_says : (at : Pos) (t u : Ty) → Says (apart ss at t u) (IsApart t u)
  apart_says at t u = says_then _ _ (pointed_says at u) (λ v s. says_then _ _ (joined_says at t v)
      (λ w j. says_kept _ (takes_says ss at w) (λ n k. record { second = v; whole = w; is = s; joined = j; takes = k })))

  pub distance_ok : (at : Pos) (t : Ty) (e : Expr) (y : Typed) → IsPointerValue p types e t → V y.expr y.ty → Says (distance ss at t e y) W
  distance_ok at t e y h hy = says_then _ _ (apart_says at t y.ty) (λ n g. says _ (refl, apart_is g.second g.whole n g.is g.joined g.takes))
    where
      apart_is : (v w : Ty) (n : ℕ) → y.ty ≡ pointer v → Joined t v w → Takes ss w n → IsSome (λ of. IsStepped p.structs n of × H e of × H y.expr of)
      apart_is v w n s j k = from (values.pair_of p types e y.expr t v w j h (values.value_at p types y.expr y.ty (pointer v) s hy))
        where
          from : ((w ≡ void) × values.Any p types e × values.Any p types y.expr) ⊎ (PointsWell p.structs (pointer w) × H e (pointer w) × H y.expr (pointer w))
              → IsSome (λ of. IsStepped p.structs n of × H e of × H y.expr of)
          from (inl a) = let q : layout_in ss void ≡ Some k.layout = subst (λ u. layout_in ss u ≡ Some k.layout) a.0 k.is in absurd cc
          from (inr b) = (pointer w, (steps w n k b.0, b.1, b.2))

  minus_arithmetic : IsArithmetic bin_op.Sub
  minus_arithmetic = record { gives = λ t. refl; second = λ t G h. h }

  pub subtracted_ok : (at : Pos) (x y : Typed) → V x.expr x.ty → V y.expr y.ty → Says (subtracted ss at x y) W
  subtracted_ok at x y hx hy = by (int_of x.ty)
    where
      from : (t : Ty) → x.ty ≡ pointer t → (o : Option IntType) → int_of y.ty ≡ o → Says (subtracted_from ss at x.expr y o t) W
      from t s (Some b) q = moved_back_ok at t b x.expr y (values.value_at p types x.expr x.ty (pointer t) s hx) (int_of_is y.ty b q) hy
      from t s None q = distance_ok at t x.expr y (values.value_at p types x.expr x.ty (pointer t) s hx) hy

      by : (o : Option IntType) → Says (subtracted_by ss at x y o) W
      by (Some a) = values.arithmetic_ok p types at x y hx hy bin_op.Sub minus_arithmetic
      by None = says_then _ _ (pointed_says at x.ty) (λ t s. from t s (int_of y.ty) refl)

  -- ---- places

  pub behind_ok : (e : Expr) (t : Ty) → PointsWell p.structs (pointer t) → H e (pointer t) → W (operators.behind e t)
  behind_ok e t well h = (record { formed = (well, h); ty = refl; known = record { sized = well.0; points = well.2 } }, tt)

  pub dereferenced_ok : (at : Pos) (v : Typed) → V v.expr v.ty → Says (dereferenced ss at v) W
  dereferenced_ok at v hv = says_then _ _ (pointed_says at v.ty) (λ t s. says_then _ _ (takes_says ss at t)
      (λ n k. let r = real v.expr t n k (values.value_at p types v.expr v.ty (pointer t) s hv) in says _ (behind_ok v.expr t r.points r.has)))

  pub element_behind_ok : (at : Pos) (v i : Typed) → V v.expr v.ty → V i.expr i.ty → Says (element_behind ss at v i) W
  element_behind_ok at v i hv hi = says_then _ _ (integer_says at i.ty) (λ b h. says_then _ _ (stride_says ss at v.ty)
      (λ s k.
      let r = real v.expr s.part s.bytes k.1 (values.value_at p types v.expr v.ty (pointer s.part) k.0 hv) in
      says _ (behind_ok (core.offset v.expr i.expr s.bytes) s.part r.points (steps s.part s.bytes k.1 r.points, r.has, (b, values.value_at p types i.expr i.ty (int b) h hi)))))

  pub element_is : (place : Place) (t : Ty) (n : ℕ) (i : Expr) (b : IntType) → IsPlaceOf p types place (array t n) → H i (int b) → IsPlaceOf p types (core.index place i) t
  element_is place t n i b h g = record {
    formed = (subst IsArray (sym h.ty) tt, h.formed, (b, g));
    ty = ap element_of h.ty;
    known = record { sized = record { names = h.known.sized.names; small = h.known.sized.small.0 }; points = h.known.points };
  }

  pub element_of_ok : (at : Pos) (place : Place) (indexes : List IntType) (t : Ty) (n : ℕ) (is_const : Bool) (i : Typed)
      → IsPlaceOf p types place (array t n) → HasIndexes p types place indexes → V i.expr i.ty → Says (operators.element_of at place indexes t is_const i) W
  element_of_ok at place indexes t n is_const i h hs hi = says_then _ _ (integer_says at i.ty)
      (λ b s. let g = values.value_at p types i.expr i.ty (int b) s hi in says _ (element_is place t n i.expr b h g, (g, hs)))

  pub element_ok : (at : Pos) (f : Found) (i : Typed) → W f → V i.expr i.ty → Says (element ss at f i) W
  element_ok at (a_place place indexes t is_const) i h hi = by_type t h.0
    where
      by_type : (t : Ty) → IsPlaceOf p types place t → Says (element_at at place indexes t is_const i) W
      by_type void g = refuses _
      by_type (int a) g = refuses _
      by_type (pointer u) g = refuses _
      by_type (array u n) g = element_of_ok at place indexes u n is_const i g h.1 hi
      by_type (struct k) g = refuses _
  element_ok at (a_value v) i h hi = element_behind_ok at v i h hi
  element_ok at (a_copy steps place k) i h hi = refuses _

  -- ---- fields

  laid_at : (k : ℕ) (fs : List Field) (ls : List Layout) → AreLaid ss k fs ls → (i : ℕ) (f : Field) → slice_get fs i ≡ Some f → (l : Layout) × (layout_in ss f.ty ≡ Some l)
  laid_at k [] ls h i f e = absurd cc
  laid_at k (g ∷ fs) [] h i f e = absurd h
  laid_at k (g ∷ fs) (l ∷ ls) h zero f e = let s : g ≡ f = cc in (l, subst (λ (x : Field). layout_in ss x.ty ≡ Some l) s h.0)
  laid_at k (g ∷ fs) (l ∷ ls) h (suc i) f e = laid_at k fs ls h.2 i f e

  pub field_is : (place : Place) (k i : ℕ) (x : Struct) (f : Field) → slice_get ss k ≡ Some x → slice_get x.fields i ≡ Some f → IsPlaceOf p types place (struct k)
      → IsPlaceOf p types (core.field place i) f.ty
  field_is place k i x f at_k at_i h =
      let fs : fields_of p.structs (place_type p types place) ≡ x.fields = ap (fields_of p.structs) h.ty ∙ sizes.fields_at ss ok p.structs first k x at_k in
      let s = ok k x at_k in
      let l = laid_at k x.fields s.layouts s.laid i f at_i in
      record {
        formed = (subst (λ (gs : List Field). i < length gs) (sym fs) (get_below x.fields i f at_i), h.formed);
        ty = ap (λ (gs : List Field). field_type (slice_get gs i)) fs ∙ ap field_type at_i;
        known = record {
          sized = sizes.sized ss ok p.structs first f.ty l.0 l.1;
          points = sizes.points_well ss ok p.structs first f.ty (each_at (λ (g : Field). PointsIn ss g.ty) x.fields i f (points k x at_k) at_i);
        };
      }

  pub record IsField (t : Ty) (f : FieldFound) : Type 0 where
    pub k : ℕ
    pub item : Struct
    pub field : Field
    pub is : t ≡ struct k
    pub at_k : slice_get ss k ≡ Some item
    pub at_i : slice_get item.fields f.number ≡ Some field
    pub ty : f.ty ≡ field.ty

  field_in_says : (at : Pos) (name : List ℕ) (t : Ty) (k : ℕ) (x : Struct) → t ≡ struct k → slice_get ss k ≡ Some x → Says (field_in at x name) (IsField t)
  field_in_says at name t k x s e = says_then _ _ (says_found _ (scope.field_from 0 x.fields name)) (λ c q. says _ (made c (field_from_is 0 x.fields name c q)))
    where
      made : (c : ℕ × Ty) → (i : ℕ) × ((f : Field) × ((slice_get x.fields i ≡ Some f) × (c.0 ≡ 0 + i) × (c.1 ≡ f.ty)))
          → IsField t (record { number = c.0; ty = c.1; is_const = slice_index_or x.consts c.0 false })
      made c h = record {
        k = k;
        item = x;
        field = h.1.0;
        is = s;
        at_k = e;
        at_i = let n = h.1.1.1 in let m : c.0 ≡ h.0 = omega (arith, n) in subst (λ i. slice_get x.fields i ≡ Some h.1.0) (sym m) h.1.1.0;
        ty = h.1.1.2;
      }

  field_says : (at : Pos) (name : List ℕ) (t : Ty) → Says (field_at ss at name (struct_number t)) (IsField t)
  field_says at name t = by (struct_number t) refl
    where
      item : (k : ℕ) (o : Option Struct) → t ≡ struct k → slice_get ss k ≡ o → Says (operators.field_of at o name) (IsField t)
      item k None s e = refuses _
      item k (Some x) s e = field_in_says at name t k x s e

      by : (o : Option ℕ) → struct_number t ≡ o → Says (field_at ss at name o) (IsField t)
      by None q = refuses _
      by (Some k) q = item k (slice_get ss k) (struct_number_is t k q) refl

  pub member_of_ok : (at : Pos) (place : Place) (indexes : List IntType) (t : Ty) (is_const : Bool) (name : List ℕ)
      → ((f : FieldFound) → IsField t f → IsPlaceOf p types place t) → HasIndexes p types place indexes
      → Says (member_of ss at place indexes t is_const name) W
  member_of_ok at place indexes t is_const name h hs = says_then _ _ (field_says at name t) (λ f g. says _ (found f g, hs))
    where
      found : (f : FieldFound) → IsField t f → IsPlaceOf p types (core.field place f.number) f.ty
      found f g = subst (IsPlaceOf p types (core.field place f.number)) (sym g.ty)
          (field_is place g.k f.number g.item g.field g.at_k g.at_i (subst (IsPlaceOf p types place) g.is (h f g)))

  pub member_ok : (at : Pos) (f : Found) (name : List ℕ) → W f → Says (member ss at f name) W
  member_ok at (a_place place indexes t is_const) name h = member_of_ok at place indexes t is_const name (λ f g. h.0) h.1
  member_ok at (a_value v) name h = refuses _
  member_ok at (a_copy steps place k) name h = refuses _

  pub member_behind_ok : (at : Pos) (v : Typed) (name : List ℕ) → V v.expr v.ty → Says (member_behind ss at v name) W
  member_behind_ok at v name hv = says_then _ _ (pointed_says at v.ty)
      (λ t s. member_of_ok at (core.deref v.expr t) [] t false name (λ f g. found t (values.value_at p types v.expr v.ty (pointer t) s hv) f g) tt)
    where
      found : (t : Ty) → IsPointerValue p types v.expr t → (f : FieldFound) → IsField t f → IsPlaceOf p types (core.deref v.expr t) t
      found t h f g =
          let q : IsPointerValue p types v.expr (struct g.k) = subst (IsPointerValue p types v.expr) g.is h in
          subst (λ u. IsPlaceOf p types (core.deref v.expr u) u) (sym g.is) (behind_ok v.expr (struct g.k) q.0 q.1).0

  -- ---- assignments

  abbrev T : Target → Type 0
  T t = IsPlaceOf p types t.place t.ty × HasIndexes p types t.place t.indexes

  pub target_says : (at : Pos) (f : Found) → W f → Says (a_target at f) T
  target_says at (a_place place indexes t is_const) h = says _ h
  target_says at (a_value v) h = refuses _
  target_says at (a_copy steps place k) h = refuses _

  pub assignable_says : (at : Pos) (f : Found) → W f → Says (assignable at f) T
  assignable_says at (a_place place indexes t true) h = refuses _
  assignable_says at (a_place place indexes t false) h = says _ h
  assignable_says at (a_value v) h = refuses _
  assignable_says at (a_copy steps place k) h = refuses _

  pub assigned_ok : (at at_value : Pos) (t : Target) (v : Typed) → T t → V v.expr v.ty → Says (assigned at at_value t v) W
  assigned_ok at at_value t v h hv = says_then _ _ (values.converted_ok p types at_value t.ty v h.0.known.points hv)
      (λ e k. says _ (values.scalar_value p types (core.assign t.place e at) t.ty k.0 h.0.known.points (sym h.0.ty, k.0, h.0.formed, k.1)))

  at_common_ok : (o : BinOp) → IsArithmetic o → Updates o → (at : Pos) (old : Bool) (t : Target) (v : Typed) (a : IntType) → t.ty ≡ int a → T t → V v.expr v.ty
      → Says (updated_at_common o at old t.place v a) W
  at_common_ok o arithmetic may at old t v a s h hv = says_then _ _ (integer_says at v.ty)
      (λ b k. says _ (
        sym s ∙ sym h.0.ty,
        (may, common_ok a b),
        h.0.formed,
        arithmetic.second (common a b) (H (convert.to_int (common a b) b v.expr)) (values.to_int_ok p types (common a b) b v.expr (values.value_at p types v.expr v.ty (int b) k hv)),
      ))

  number_ok : (o : BinOp) → IsArithmetic o → Updates o → (at : Pos) (old : Bool) (t : Target) (v : Typed) → T t → V v.expr v.ty → Says (number_updated o at old t v) W
  number_ok o arithmetic may at old t v h hv = says_then _ _ (integer_says at t.ty) (λ a s. at_common_ok o arithmetic may at old t v a s h hv)

  shift_ok : (o : BinOp) → IsShift o → Updates o → (at : Pos) (old : Bool) (t : Target) (v : Typed) → T t → V v.expr v.ty → Says (shift_updated o at old t v) W
  shift_ok o shift may at old t v h hv = says_then _ _ (integers_says at t.ty v.ty)
      (λ ts k. says _ (
        sym k.0 ∙ sym h.0.ty,
        (may, promoted_ok ts.0),
        h.0.formed,
        shift.second (promoted ts.0) (H (operators.promoted_value ts.1 v.expr))
            (promoted ts.1, promoted_ok ts.1, values.to_int_ok p types (promoted ts.1) ts.1 v.expr (values.value_at p types v.expr v.ty (int ts.1) k.1 hv)),
      ))

  bytes_ok : (b : IntType) (e : Expr) (t : Ty) (n : ℕ) → Takes ss t n → H e (int b) → H (bytes_of b e n) (int U16)
  bytes_ok b e t n k h =
      let few = layout_small ss ok t k.layout k.is in
      let same = k.size in
      (refl, tt, values.to_int_ok p types U16 b e h, (refl, in_range U16 (pos n) (omega (arith, ints), omega (arith, ints, few, same))))

  step_ok : (o : BinOp) → IsArithmetic o → Updates o → Moves o → (at : Pos) (old : Bool) (t : Target) (v : Typed) → T t → V v.expr v.ty → Says (step_updated ss o at old t v) W
  step_ok o arithmetic may moves at old t v h hv = by (int_of t.ty) refl
    where
      by : (c : Option IntType) → int_of t.ty ≡ c → Says (step_updated_by ss o at old t v c) W
      by (Some a) q = at_common_ok o arithmetic may at old t v a (int_of_is t.ty a q) h hv
      by None q = says_then _ _ (integer_says at v.ty) (λ b s. says_then _ _ (stride_says ss at t.ty)
          (λ d k. says _ (values.real_value p types (core.update t.place o U16 (bytes_of b v.expr d.bytes) old at) d.part (subst (PointsWell p.structs) k.0 h.0.known.points) (
            sym k.0 ∙ sym h.0.ty,
            (moves, refl),
            h.0.formed,
            arithmetic.second U16 (H (bytes_of b v.expr d.bytes)) (bytes_ok b v.expr d.part d.bytes k.1 (values.value_at p types v.expr v.ty (int b) s hv)),
          ))))

  pub updated_ok : (at : Pos) (old : Bool) (o : InOp) (t : Target) (v : Typed) → T t → V v.expr v.ty → Says (updated ss at old o t v) W
  updated_ok at old op.Mul t v h hv = number_ok bin_op.Mul (record { gives = λ t. refl; second = λ t G h. h }) tt at old t v h hv
  updated_ok at old op.Div t v h hv = number_ok bin_op.Div (record { gives = λ t. refl; second = λ t G h. h }) tt at old t v h hv
  updated_ok at old op.Rem t v h hv = number_ok bin_op.Rem (record { gives = λ t. refl; second = λ t G h. h }) tt at old t v h hv
  updated_ok at old op.Add t v h hv = step_ok bin_op.Add (record { gives = λ t. refl; second = λ t G h. h }) tt tt at old t v h hv
  updated_ok at old op.Sub t v h hv = step_ok bin_op.Sub (record { gives = λ t. refl; second = λ t G h. h }) tt tt at old t v h hv
  updated_ok at old op.Shl t v h hv = shift_ok bin_op.Shl (record { gives = λ t. refl; second = λ t G h. h }) tt at old t v h hv
  updated_ok at old op.Shr t v h hv = shift_ok bin_op.Shr (record { gives = λ t. refl; second = λ t G h. h }) tt at old t v h hv
  updated_ok at old op.And t v h hv = number_ok bin_op.And (record { gives = λ t. refl; second = λ t G h. h }) tt at old t v h hv
  updated_ok at old op.Xor t v h hv = number_ok bin_op.Xor (record { gives = λ t. refl; second = λ t G h. h }) tt at old t v h hv
  updated_ok at old op.Or t v h hv = number_ok bin_op.Or (record { gives = λ t. refl; second = λ t G h. h }) tt at old t v h hv
  updated_ok at old op.Lt t v h hv = refuses _
  updated_ok at old op.Gt t v h hv = refuses _
  updated_ok at old op.Le t v h hv = refuses _
  updated_ok at old op.Ge t v h hv = refuses _
  updated_ok at old op.Eq t v h hv = refuses _
  updated_ok at old op.Ne t v h hv = refuses _
  updated_ok at old op.AndAnd t v h hv = refuses _
  updated_ok at old op.OrOr t v h hv = refuses _

  one_ok : V one.expr one.ty
  one_ok = (refl, refl)

  pub incremented_ok : (at : Pos) (old : Bool) (t : Target) → T t → Says (incremented ss at old t) W
  incremented_ok at old t h = updated_ok at old op.Add t one h one_ok

  pub decremented_ok : (at : Pos) (old : Bool) (t : Target) → T t → Says (decremented ss at old t) W
  decremented_ok at old t h = updated_ok at old op.Sub t one h one_ok

  pub stepped_ok : (at : Pos) (o : PostOp) (t : Target) → T t → Says (stepped ss at o t) W
  stepped_ok at post.Inc t h = incremented_ok at true t h
  stepped_ok at post.Dec t h = decremented_ok at true t h

  pub on_value_ok : (o : PreOp) (at : Pos) (v : Typed) → V v.expr v.ty → Says (on_value ss o at v) W
  on_value_ok pre.Deref at v hv = dereferenced_ok at v hv
  on_value_ok pre.Plus at v hv = values.plus_ok p types at v hv
  on_value_ok pre.Neg at v hv = values.minus_ok p types at v hv
  on_value_ok pre.Not at v hv = values.complement_ok p types at v hv
  on_value_ok pre.IsZero at v hv = values.is_zero_ok p types at v hv
  on_value_ok pre.Addr at v hv = refuses _
  on_value_ok pre.Inc at v hv = refuses _
  on_value_ok pre.Dec at v hv = refuses _
