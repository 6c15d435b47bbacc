-- Places as values, addresses, struct assignments, and operators that need a local.
use Rattle.std.proofs.Common.{◌≡◌, ℕ, ◌<◌, false, List, [], ◌∷◌, ◌++◌, fold, length, Option, Some, None, Ok, ap, sym, subst, ◌∙◌, refl, arith}
use Rattle.std.specs.Prelude.{⊤, pos, slice_get, slice_index_or}
use Rattle.nm_base.specs.declared.pos.Pos.{Pos}
use Rattle.nm_base.specs.declared.int_type.IntType.{IntType}
use Rattle.nm_base.specs.declared.int_type.IntType.TheVariants.{I16}
use Rattle.nesc_core.specs.declared.tree.BinOp.{BinOp}
use Rattle.nesc_core.specs.declared.tree.BinOp.TheVariants as bin_op
use Rattle.nesc_core.specs.declared.layout.Layout.{Layout}
use Rattle.nesc_core.specs.Plain.{Ty, Expr, Place, Program, Field, void, int, pointer, array, struct}
use Rattle.nesc_core.specs.Plain as core
use Rattle.nesc_core.specs.PlaceTypes.{place_type, element_of, fields_of, field_type}
use Rattle.nesc_core.specs.Typing.{IsType, PointsWell, IsArray, IsScalar, IsPlace, IsSome, Has}
use Rattle.nesc_tree.specs.declared.tree.PreOp.{PreOp}
use Rattle.nesc_tree.specs.declared.tree.PreOp.TheVariants as pre
use Rattle.nesc_tree.specs.declared.tree.InOp.{InOp}
use Rattle.nesc_tree.specs.declared.tree.InOp.TheVariants as op
use Rattle.nesc_types.specs.Rule.{Rule}
use Rattle.nesc_types.specs.Values.{Constant}
use Rattle.elab_meaning.specs.Scope.{Env}
use Rattle.elab_meaning.specs.Elab.{State, after, by, fresh}
use Rattle.elab_meaning.specs.Convert.{Typed, Found, a_place, a_value, a_copy, Stride, Target, int_of, value_found}
use Rattle.elab_meaning.specs.Operators.{Sides}
use Rattle.elab_meaning.specs.Places.{Frozen, added, added_to, added_to_number, addressed, as_value, binary, decayed, exchanged, first_element, frozen, indexed, indexed_by, joined, kept, moved_behind, prefixed, read_at, take, valued_operand}
use Rattle.elab_laws.specs.Known.{Each, IsClosed, IsPrefix}
use Rattle.elab_laws.specs.Formed.{HasIndexes, IsPlaceOf, IsPointerValue, IsValueOf, IsWellFound}
use Rattle.elab_laws.proofs.Lists.{behind_prefix, each_joined, length_joined}
use Rattle.elab_laws.proofs.Sizes as sizes
use Rattle.elab_laws.proofs.Steps.{Gets, Says, says_kept, says_then, says_under, refuses}
use Rattle.elab_laws.proofs.Values as values
use Rattle.elab_laws.proofs.Values.{IsArithmetic, IsComparison, IsShift, int_of_is, integer_says}
use Rattle.elab_laws.proofs.Operations as operations
use Rattle.elab_laws.proofs.Operations.{Takes, pointer_to_says, stride_says}
use Rattle.elab_laws.proofs.Leaves as leaves
use Rattle.elab_laws.proofs.Leaves.{Leaf, Light, unmoved}

-- a new local stands behind the others
local_behind : (xs types : List Ty) (t : Ty) → IsPrefix (xs ++ t ∷ []) types → (length xs < length types) × (slice_index_or types (length xs) void ≡ t)
local_behind xs types t h = (
  let k = length_joined (xs ++ t ∷ []) h.more in let l = length_joined xs (t ∷ []) in let e = ap length h.is in omega (arith, k, l, e),
  ap (λ ts. slice_index_or ts (length xs) void) h.is ∙ at_end xs h.more,
)
  where
    at_end : (xs more : List Ty) → slice_index_or ((xs ++ t ∷ []) ++ more) (length xs) void ≡ t
    at_end [] more = refl
    at_end (x ∷ xs) more = at_end xs more

module _ (p : Program) (types : List Ty) (env : Env) (consts : List (Option Constant)) where
  abbrev H : Expr → Ty → Type 0
  H = Has p types

  abbrev V : Typed → Type 0
  V v = IsValueOf p types v.expr v.ty

  abbrev W : Found → Type 0
  W = IsWellFound p types

  abbrev B : State → Type 0
  B = leaves.B p types env consts

  abbrev L : {A : Type 0} → State → (A → Type 0) → A → State → Type 0
  L s T = Leaf p types env consts s T

  abbrev S : Expr → Type 0
  S e = IsSome (H e)

  -- ---- places as values

  pub take_leaf : (at : Pos) (place : Place) (s : State) → Gets (take at place s) (L s (λ u. Unit {0}))
  take_leaf at (core.object k) s = leaves.leaf_with p types env consts tt s (record s { taken = s.taken ++ (k ∷ []) })
      (record { names = refl; tags = refl; structs = refl; locals = (unmoved s).locals; taken = behind_prefix s.taken (k ∷ []); asked = (unmoved s).asked }) (λ c b. tt) (λ z q. q)
  take_leaf at (core.local x) s = leaves.leaf_by p types env consts _ s (λ c b. refuses _)
  take_leaf at (core.deref e t) s = leaves.leaf_give p types env consts _ s (λ c b. tt)
  take_leaf at (core.index q e) s = take_leaf at q s
  take_leaf at (core.field q k) s = take_leaf at q s

  first_is : (place : Place) (t : Ty) (n : ℕ) → IsPlaceOf p types place (array t n) → PointsWell p.structs (pointer t) → H (first_element place) (pointer t)
  first_is place t n h well =
      let same : place_type p types (core.index place (core.const I16 (pos 0))) ≡ t = ap element_of h.ty in
      (ap pointer (sym same), subst (λ u. PointsWell p.structs (pointer u)) (sym same) well, (subst IsArray (sym h.ty) tt, h.formed, (I16, (refl, refl))))

  -- what a state's structs say of a pointer
  points_of : (s : State) (c : IsClosed s) (b : B s) (t : Ty) (n : ℕ) → Takes s.structs t n → PointsWell p.structs t → PointsWell p.structs (pointer t)
  points_of s c b t n k well = (
    sizes.sized s.structs c.known.structs p.structs b.structs t k.layout k.is,
    let z = k.some in let e = k.size in let l = ap (λ (m : Layout). m.size) (sizes.layout_is s.structs c.known.structs p.structs b.structs t k.layout k.is) in omega (arith, z, e, l),
    well,
  )

  decayed_leaf : (at : Pos) (place : Place) (t : Ty) (n : ℕ) (s : State) → Gets (decayed at place t s) (L s (λ v. IsPlaceOf p types place (array t n) → V v))
  decayed_leaf at place t n s = leaves.leaf_then p types env consts s _ _ (take_leaf at place s) (λ u s1. leaves.leaf_then p types env consts s1 _ _
      (leaves.leaf_by p types env consts _ s1 (λ c b. says_kept _ (pointer_to_says s1.structs at t) (λ v k. typed c b v k)))
      (λ v s2. leaves.leaf_give p types env consts _ s2 (λ c b k z h. k h)))
    where
      typed : {s1 : State} → IsClosed s1 → B s1 → (v : Ty) → (v ≡ pointer t) × ((m : ℕ) × Takes s1.structs t m) → IsPlaceOf p types place (array t n) → IsValueOf p types (first_element place) v
      typed {s1 = s1} c b v k h =
          let well = points_of s1 c b t k.1.0 k.1.1 h.known.points in
          subst (IsValueOf p types (first_element place)) (sym k.0) (values.real_value p types (first_element place) t well (first_is place t n h well))

  pub read_leaf : (at : Pos) (place : Place) (t : Ty) (s : State) → Gets (read_at at place t s) (L s (λ v. IsPlaceOf p types place t → V v))
  read_leaf at place void s = leaves.leaf_by p types env consts _ s (λ c b. refuses _)
  read_leaf at place (int a) s = leaves.leaf_give p types env consts _ s (λ c b h. (sym h.ty, tt, h.formed))
  read_leaf at place (pointer t) s = leaves.leaf_give p types env consts _ s (λ c b h. values.real_value p types (core.read place at) t h.known.points (sym h.ty, tt, h.formed))
  read_leaf at place (array t n) s = decayed_leaf at place t n s
  read_leaf at place (struct k) s = leaves.leaf_by p types env consts _ s (λ c b. refuses _)

  joined_is : (steps : List Expr) → Each S steps → S (joined steps)
  joined_is [] h = (int I16, (refl, refl))
  joined_is (e ∷ es) h = folded e es h.0 h.1
    where
      folded : (e : Expr) (es : List Expr) → S e → Each S es → S (fold core.comma e es)
      folded e [] h k = h
      folded e (f ∷ es) h k = folded (core.comma e f) es (k.0.0, (h, k.0.1)) k.1

  pub as_value_leaf : (at : Pos) (f : Found) (s : State) → Gets (as_value at f s) (L s (λ v. W f → V v))
  as_value_leaf at (a_value v) s = leaves.leaf_give p types env consts _ s (λ c b h. h)
  as_value_leaf at (a_place place indexes t is_const) s = leaves.leaf_kept p types env consts ⊤ s _ (read_leaf at place t s) (λ v f h. f h.0)
  as_value_leaf at (a_copy steps place k) s = leaves.leaf_give p types env consts _ s (λ c b h. joined_is steps h.0)

  pub addressed_leaf : (at : Pos) (f : Found) (s : State) → Gets (addressed at f s) (L s (λ g. W f → W g))
  addressed_leaf at f s = leaves.leaf_then p types env consts s _ _
      (leaves.leaf_by p types env consts _ s (λ c b. says_under _ (λ h. operations.target_says p types s.structs c.known.structs b.structs c.fields at f h)))
      (λ t s1. leaves.leaf_then p types env consts s1 _ _ (take_leaf at t.place s1) (λ u s2. leaves.leaf_then p types env consts s2 _ _
      (leaves.leaf_by p types env consts _ s2 (λ c b. says_kept _ (pointer_to_says s2.structs at t.ty) (λ v k. typed t c b v k)))
      (λ v s3. leaves.leaf_give p types env consts _ s3 (λ c b k z m h. k (m h)))))
    where
      typed : (t : Target) {s2 : State} → IsClosed s2 → B s2 → (v : Ty) → (v ≡ pointer t.ty) × ((m : ℕ) × Takes s2.structs t.ty m)
          → IsPlaceOf p types t.place t.ty × HasIndexes p types t.place t.indexes → IsValueOf p types (core.addr t.place) v
      typed t {s2 = s2} c b v k h =
          let well = points_of s2 c b t.ty k.1.0 k.1.1 h.0.known.points in
          subst (IsValueOf p types (core.addr t.place)) (sym k.0)
          (values.real_value p types (core.addr t.place) t.ty well (ap pointer (sym h.0.ty), subst (λ u. PointsWell p.structs (pointer u)) (sym h.0.ty) well, h.0.formed))

  pub indexed_leaf : (at : Pos) (f : Found) (s : State) → Gets (indexed at f s) (L s (λ g. W f → W g))
  indexed_leaf at (a_place place indexes t is_const) s = by_type t
    where
      value : (t : Ty) → Gets (read_at at place t s) (L s (λ v. IsPlaceOf p types place t → V v)) → Gets (after (read_at at place t s) (λ v. λ u. Ok (a_value v, u))) (L s (λ g. W (a_place place indexes t is_const) → W g))
      value t h = leaves.leaf_then p types env consts s _ _ h (λ v s1. leaves.leaf_give p types env consts _ s1 (λ c b f k. f k.0))

      by_type : (t : Ty) → Gets (indexed_by at place indexes t is_const s) (L s (λ g. W (a_place place indexes t is_const) → W g))
      by_type void = value void (read_leaf at place void s)
      by_type (int a) = value (int a) (read_leaf at place (int a) s)
      by_type (pointer u) = value (pointer u) (read_leaf at place (pointer u) s)
      by_type (array u n) = leaves.leaf_give p types env consts _ s (λ c b h. h)
      by_type (struct k) = value (struct k) (read_leaf at place (struct k) s)
  indexed_leaf at (a_value v) s = leaves.leaf_give p types env consts _ s (λ c b h. h)
  indexed_leaf at (a_copy steps place k) s = leaves.leaf_by p types env consts _ s (λ c b. refuses _)

  -- ---- operators that need a local

  fresh_with : (t : Ty) (s : State) → Gets (fresh t s) (leaves.LeafWith p types env consts (IsType p.structs t) s (λ n. (n < length types) × (slice_index_or types n void ≡ t)))
  fresh_with t s = leaves.leaf_with p types env consts (length s.locals) s (record s { locals = s.locals ++ (t ∷ []) })
      (record { names = refl; tags = refl; structs = refl; locals = behind_prefix s.locals (t ∷ []); taken = (unmoved s).taken; asked = (unmoved s).asked })
      (λ c b. local_behind s.locals types t b.locals)
      (λ k q. each_joined (λ (u : Ty). IsType p.structs u) s.locals (t ∷ []) q (k, tt))

  int_type : (a : IntType) → IsType p.structs (int a)
  int_type a = record { sized = record { names = tt; small = tt }; points = tt }

  fresh_leaf : (a : IntType) (s : State) → Gets (fresh (int a) s) (L s (λ n. (n < length types) × (slice_index_or types n void ≡ int a)))
  fresh_leaf a s = leaves.leaf_narrow p types env consts (IsType p.structs (int a)) ⊤ s _ (λ k. int_type a) (fresh_with (int a) s)

  -- an expression goes to a local before the next is made
  behind_kept_is : (at : Pos) (n : ℕ) (a : IntType) (e next : Expr) (t : Ty) → (n < length types) × (slice_index_or types n void ≡ int a) → H e (int a) → H next t
      → H (core.comma (core.assign (core.local n) e at) next) t
  behind_kept_is at n a e next t k h g = ((int a, (sym k.1, tt, k.0, h)), g)

  exchanged_leaf : (o : BinOp) → IsComparison o → (at : Pos) (x y : Typed) (s : State) → Gets (exchanged o at x y s) (L s (λ f. V x → V y → W f))
  exchanged_leaf o comparison at x y s = leaves.leaf_then p types env consts s _ _
      (leaves.leaf_by p types env consts _ s (λ c b. says_under _ (λ hx. says_under _ (λ hy. values.comparable_ok p types at x y hx hy))))
      (λ d s1. leaves.leaf_then p types env consts s1 _ _ (fresh_leaf d.at_type s1) (λ n s2. leaves.leaf_give p types env consts (value_found (behind d n) (int I16)) s2 (λ c b k sides hx hy. made d n k (sides hx hy))))
    where
      behind : Sides → ℕ → Expr
      behind d n = core.comma (core.assign (core.local n) d.first at) (core.bin o d.at_type d.second (core.read (core.local n) at))

      made : (d : Sides) (n : ℕ) → (n < length types) × (slice_index_or types n void ≡ int d.at_type) → values.AreSides p types d → H (behind d n) (int I16)
      made d n k h = behind_kept_is at n d.at_type d.first (core.bin o d.at_type d.second (core.read (core.local n) at)) (int I16) k h.first
          (ap int (sym (comparison.gives d.at_type)), h.promotes, h.second, comparison.second d.at_type (H (core.read (core.local n) at)) (sym k.1, tt, k.0))

  moved_behind_leaf : (a : IntType) (at : Pos) (x y : Typed) (s : State) → x.ty ≡ int a → Gets (moved_behind a at x.expr y s) (L s (λ f. V x → V y → W f))
  moved_behind_leaf a at x y s same = leaves.leaf_then p types env consts s _ _
      (leaves.leaf_by p types env consts _ s (λ c b. says_kept _ (stride_says s.structs at y.ty) (λ d k. moves d c b k)))
      (λ d s1. leaves.leaf_then p types env consts s1 _ _ (fresh_leaf a s1) (λ n s2. leaves.leaf_give p types env consts (found d n) s2 (λ c b k f hx hy. made d n k f hx hy)))
    where
      behind : Stride → ℕ → Expr
      behind d n = core.comma (core.assign (core.local n) x.expr at) (core.offset y.expr (core.read (core.local n) at) d.bytes)

      found : Stride → ℕ → Found
      found d n = value_found (behind d n) (pointer d.part)

      made : (d : Stride) (n : ℕ) → (n < length types) × (slice_index_or types n void ≡ int a) → (V y → (i : Expr) → H i (int a) → IsPointerValue p types (core.offset y.expr i d.bytes) d.part)
          → V x → V y → W (found d n)
      made d n k f hx hy =
          values.value_mapped p types (core.offset y.expr (core.read (core.local n) at) d.bytes) (behind d n)
          (λ t g. behind_kept_is at n a x.expr (core.offset y.expr (core.read (core.local n) at) d.bytes) t k (values.value_at p types x.expr x.ty (int a) same hx) g)
          (pointer d.part) (f hy (core.read (core.local n) at) (sym k.1, tt, k.0))

      moves : (d : Stride) {s : State} → IsClosed s → B s → (y.ty ≡ pointer d.part) × Takes s.structs d.part d.bytes → V y → (i : Expr) → H i (int a) → IsPointerValue p types (core.offset y.expr i d.bytes) d.part
      moves d {s = s} c b k hy i g = operations.moved_is p types s.structs c.known.structs b.structs c.fields y.expr i d.part d.bytes a k.1 (values.value_at p types y.expr y.ty (pointer d.part) k.0 hy) g

  -- a rule on two values
  two : (r : Rule Found) (x y : Typed) (s : State) → (IsClosed s → B s → V x → V y → Says r W) → Gets (by r s) (L s (λ f. V x → V y → W f))
  two r x y s f = leaves.leaf_by p types env consts r s (λ c b. says_under r (λ hx. says_under r (λ hy. f c b hx hy)))

  added_leaf : (at : Pos) (x y : Typed) (s : State) → Gets (added at x y s) (L s (λ f. V x → V y → W f))
  added_leaf at x y s = by (int_of x.ty) refl
    where
      number : (a : IntType) → x.ty ≡ int a → (o : Option IntType) → Gets (added_to_number a at x y o s) (L s (λ f. V x → V y → W f))
      number a q (Some b) = two _ x y s (λ c b hx hy. values.arithmetic_ok p types at x y hx hy bin_op.Add (record { gives = λ t. refl; second = λ t G h. h }))
      number a q None = moved_behind_leaf a at x y s q

      by : (o : Option IntType) → int_of x.ty ≡ o → Gets (added_to at x y o s) (L s (λ f. V x → V y → W f))
      by (Some a) q = number a (int_of_is x.ty a q) (int_of y.ty)
      by None q = two _ x y s (λ c b hx hy. operations.moved_ok p types s.structs c.known.structs b.structs c.fields at x y hx hy)

  pub binary_leaf : (o : InOp) (at : Pos) (x y : Typed) (s : State) → Gets (binary o at x y s) (L s (λ f. V x → V y → W f))
  binary_leaf op.Mul at x y s = two _ x y s (λ c b hx hy. values.arithmetic_ok p types at x y hx hy bin_op.Mul (record { gives = λ t. refl; second = λ t G h. h }))
  binary_leaf op.Div at x y s = two _ x y s (λ c b hx hy. values.arithmetic_ok p types at x y hx hy bin_op.Div (record { gives = λ t. refl; second = λ t G h. h }))
  binary_leaf op.Rem at x y s = two _ x y s (λ c b hx hy. values.arithmetic_ok p types at x y hx hy bin_op.Rem (record { gives = λ t. refl; second = λ t G h. h }))
  binary_leaf op.Add at x y s = added_leaf at x y s
  binary_leaf op.Sub at x y s = two _ x y s (λ c b hx hy. operations.subtracted_ok p types s.structs c.known.structs b.structs c.fields at x y hx hy)
  binary_leaf op.Shl at x y s = two _ x y s (λ c b hx hy. values.shifted_ok p types at x y hx hy bin_op.Shl (record { gives = λ t. refl; second = λ t G h. h }))
  binary_leaf op.Shr at x y s = two _ x y s (λ c b hx hy. values.shifted_ok p types at x y hx hy bin_op.Shr (record { gives = λ t. refl; second = λ t G h. h }))
  binary_leaf op.Lt at x y s = two _ x y s (λ c b hx hy. values.compared_ok p types bin_op.Lt (record { gives = λ t. refl; second = λ t G h. h }) at x y hx hy)
  binary_leaf op.Gt at x y s = exchanged_leaf bin_op.Lt (record { gives = λ t. refl; second = λ t G h. h }) at x y s
  binary_leaf op.Le at x y s = two _ x y s (λ c b hx hy. values.compared_ok p types bin_op.Le (record { gives = λ t. refl; second = λ t G h. h }) at x y hx hy)
  binary_leaf op.Ge at x y s = exchanged_leaf bin_op.Le (record { gives = λ t. refl; second = λ t G h. h }) at x y s
  binary_leaf op.Eq at x y s = two _ x y s (λ c b hx hy. values.compared_ok p types bin_op.Eq (record { gives = λ t. refl; second = λ t G h. h }) at x y hx hy)
  binary_leaf op.Ne at x y s = two _ x y s (λ c b hx hy. values.compared_ok p types bin_op.Ne (record { gives = λ t. refl; second = λ t G h. h }) at x y hx hy)
  binary_leaf op.And at x y s = two _ x y s (λ c b hx hy. values.arithmetic_ok p types at x y hx hy bin_op.And (record { gives = λ t. refl; second = λ t G h. h }))
  binary_leaf op.Xor at x y s = two _ x y s (λ c b hx hy. values.arithmetic_ok p types at x y hx hy bin_op.Xor (record { gives = λ t. refl; second = λ t G h. h }))
  binary_leaf op.Or at x y s = two _ x y s (λ c b hx hy. values.arithmetic_ok p types at x y hx hy bin_op.Or (record { gives = λ t. refl; second = λ t G h. h }))
  binary_leaf op.AndAnd at x y s = two _ x y s (λ c b hx hy. values.both_ok p types at x y hx hy)
  binary_leaf op.OrOr at x y s = two _ x y s (λ c b hx hy. values.either_ok p types at x y hx hy)

  operand_leaf : (o : PreOp) (at at_operand : Pos) (f : Found) (s : State) → Gets (valued_operand o at at_operand f s) (L s (λ g. W f → W g))
  operand_leaf o at at_operand f s = leaves.leaf_then p types env consts s _ _ (as_value_leaf at_operand f s) (λ v s1. leaves.leaf_by p types env consts _ s1
      (λ c b. says_under _ (λ hv. says_under _ (λ hf. operations.on_value_ok p types s1.structs c.known.structs b.structs c.fields o at v (hv hf)))))

  pub prefixed_leaf : (o : PreOp) (at at_operand : Pos) (f : Found) (s : State) → Gets (prefixed o at at_operand f s) (L s (λ g. W f → W g))
  prefixed_leaf pre.Addr at at_operand f s = addressed_leaf at f s
  prefixed_leaf pre.Inc at at_operand f s = leaves.leaf_by p types env consts _ s (λ c b. says_under _ (λ hf. says_then _ _
      (operations.assignable_says p types s.structs c.known.structs b.structs c.fields at f hf) (λ t ht. operations.incremented_ok p types s.structs c.known.structs b.structs c.fields at false t ht)))
  prefixed_leaf pre.Dec at at_operand f s = leaves.leaf_by p types env consts _ s (λ c b. says_under _ (λ hf. says_then _ _
      (operations.assignable_says p types s.structs c.known.structs b.structs c.fields at f hf) (λ t ht. operations.decremented_ok p types s.structs c.known.structs b.structs c.fields at false t ht)))
  prefixed_leaf pre.Deref at at_operand f s = operand_leaf pre.Deref at at_operand f s
  prefixed_leaf pre.Plus at at_operand f s = operand_leaf pre.Plus at at_operand f s
  prefixed_leaf pre.Neg at at_operand f s = operand_leaf pre.Neg at at_operand f s
  prefixed_leaf pre.Not at at_operand f s = operand_leaf pre.Not at at_operand f s
  prefixed_leaf pre.IsZero at at_operand f s = operand_leaf pre.IsZero at at_operand f s

  -- ---- structs

  -- steps so far, and a place of the type that the first had
  abbrev F : Place → List Expr → Frozen → Type 0
  F place done f = Each S f.steps × IsPlace p types f.place × (place_type p types f.place ≡ place_type p types place)

  kept_leaf : (at : Pos) (t : Ty) (e : Expr) (done : List Expr) (s : State) → IsScalar t → Gets (kept at t e done s)
      (leaves.LeafWith p types env consts (IsType p.structs t) s (λ f. H e t → Each S done → Each S f.steps × IsPlace p types f.place × (place_type p types f.place ≡ t)))
  kept_leaf at t e done s scalar = leaves.leaf_then_with p types env consts (IsType p.structs t) (IsType p.structs t) (λ n. ⊤) s _ _ (fresh_with t s)
      (λ n s1. leaves.leaf_give p types env consts (record { steps = done ++ (core.assign (core.local n) e at ∷ []); place = core.local n }) s1
      (λ c b k h hs. (each_joined S done (core.assign (core.local n) e at ∷ []) hs ((t, (sym k.1, scalar, k.0, h)), tt), k.0, k.1)))
      (λ k. k) (λ n z k. tt)

  -- new locals are of types of the program where the place is well formed
  pub frozen_leaf : (at : Pos) (place : Place) (indexes : List IntType) (done : List Expr) (s : State)
      → Gets (frozen at place indexes done s)
      (leaves.LeafWith p types env consts (IsPlace p types place) s (λ f. IsPlace p types place → HasIndexes p types place indexes → Each S done → F place done f))
  frozen_leaf at (core.object k) indexes done s = leaves.leaf_with p types env consts (record { steps = done; place = core.object k }) s s (unmoved s) (λ c b h hs hd. (hd, h, refl)) (λ z q. q)
  frozen_leaf at (core.local x) indexes done s = leaves.leaf_with p types env consts (record { steps = done; place = core.local x }) s s (unmoved s) (λ c b h hs hd. (hd, h, refl)) (λ z q. q)
  frozen_leaf at (core.deref e t) indexes done s = leaves.leaf_then_with p types env consts (IsPlace p types (core.deref e t)) (IsType p.structs (pointer t)) (λ f. ⊤) s _ _ (kept_leaf at (pointer t) e done s tt)
      (λ f s1. leaves.leaf_give p types env consts (record { steps = f.steps; place = core.deref (core.read f.place at) t }) s1
      (λ c b k h hs hd. let g = k h.1 hd in (g.0, (h.0, (sym g.2, tt, g.1)), refl)))
      (λ h. record { sized = record { names = tt; small = tt }; points = h.0 }) (λ f z h. tt)
  frozen_leaf at (core.index q e) [] done s = leaves.leaf_narrow p types env consts ⊤ (IsPlace p types (core.index q e)) s _ (λ z. tt) (leaves.leaf_by p types env consts _ s (λ c b. refuses _))
  frozen_leaf at (core.index q e) (t ∷ indexes) done s = leaves.leaf_then_with p types env consts (IsPlace p types (core.index q e)) (IsPlace p types q) (λ f. ⊤) s _ _ (frozen_leaf at q indexes done s)
      (λ f s1. leaves.leaf_then_with p types env consts ⊤ (IsType p.structs (int t)) (λ i. ⊤) s1 _ _ (kept_leaf at (int t) e f.steps s1 tt)
      (λ i s2. leaves.leaf_give p types env consts (record { steps = i.steps; place = core.index f.place (core.read i.place at) }) s2
      (λ c b k m h hs hd. element f i k m h hs hd))
      (λ z. int_type t) (λ i z k. tt))
      (λ h. h.1) (λ f z h. tt)
    where
      element : (f i : Frozen) → (H e (int t) → Each S f.steps → Each S i.steps × IsPlace p types i.place × (place_type p types i.place ≡ int t))
          → (IsPlace p types q → HasIndexes p types q indexes → Each S done → F q done f) → IsPlace p types (core.index q e) → HasIndexes p types (core.index q e) (t ∷ indexes) → Each S done
          → F (core.index q e) done (record { steps = i.steps; place = core.index f.place (core.read i.place at) })
      element f i k m h hs hd =
          let g = m h.1 hs.1 hd in
          let n = k hs.0 g.0 in
          (n.0, (subst IsArray (sym g.2) h.0, g.1, (t, (sym n.2, tt, n.1))), ap element_of g.2)
  frozen_leaf at (core.field q k) indexes done s = leaves.leaf_then_with p types env consts (IsPlace p types (core.field q k)) (IsPlace p types q) (λ f. ⊤) s _ _ (frozen_leaf at q indexes done s)
      (λ f s1. leaves.leaf_give p types env consts (record { steps = f.steps; place = core.field f.place k }) s1 (λ c b m h hs hd. field f m h hs hd))
      (λ h. h.1) (λ f z h. tt)
    where
      field : (f : Frozen) → (IsPlace p types q → HasIndexes p types q indexes → Each S done → F q done f) → IsPlace p types (core.field q k) → HasIndexes p types q indexes → Each S done
          → F (core.field q k) done (record { steps = f.steps; place = core.field f.place k })
      field f m h hs hd =
          let g = m h.1 hs hd in
          (g.0, (subst (λ t. k < length (fields_of p.structs t)) (sym g.2) h.0, g.1), ap (λ t. field_type (slice_get (fields_of p.structs t) k)) g.2)
