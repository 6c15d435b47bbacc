-- Expressions of a type, and what is made of them: conversions, arithmetic, comparisons, choices.
use Rattle.std.proofs.Common.{◌⊎◌, inl, inr, ◌≡◌, ◌<◌, Bool, true, false, List, Option, Some, None, ap, sym, subst, ◌∙◌, refl, arith}
use Rattle.std.specs.Prelude.{◌&&◌, ◌==◌, nat_le, if◌then◌else◌}
use Rattle.std.proofs.lemmas.Bool.{eqb-true}
use Rattle.nm_base.specs.declared.pos.Pos.{Pos}
use Rattle.nm_base.specs.declared.int_type.IntType.{IntType}
use Rattle.nm_base.specs.declared.int_type.IntType.TheVariants.{I8, U8, I16, U16, I32, U32}
use Rattle.nesc_core.specs.declared.tree.BinOp.{BinOp}
use Rattle.nesc_core.specs.Parts.{same_int, same_type}
use Rattle.nesc_core.specs.Plain.{Ty, Expr, Place, Program, Field, void, int, pointer, array, struct}
use Rattle.nesc_core.specs.Plain as core
use Rattle.nesc_core.specs.Typing.{PointsWell, IsScalar, IsPromoted, IsPointer, IsSome, IsTest, IsPromotedNumber, IsSecond, binary_type, Has}
use Rattle.nesc_types.specs.Conversions.{promoted, common, rank}
use Rattle.elab_meaning.specs.Convert.{Typed, Found, to_int, int_of, integer, integers, target_of, pointed, pointed_by_both, is_null, is_scalar, is_void, fits_pointer, scalar, conversion_by, by_conversion, converted}
use Rattle.elab_meaning.specs.Operators.{Sides, address, arithmetic, both, chosen, chosen_by, comma, comparable, comparable_by, compared, either, is_zero, minus, complement, negated, plus, pointed_together, promoted_value, shifted, cast_to}
use Rattle.elab_laws.specs.Formed.{IsPointerValue, IsValueOf, IsWellFound}
use Rattle.elab_laws.proofs.Lists.{by_test}
use Rattle.elab_laws.proofs.Steps.{Says, says, says_found, says_if, says_kept, says_then, refuses}

-- ---- tests of types

pub same_int_is : (s t : IntType) → same_int s t ≡ true → s ≡ t
same_int_is I8 I8 e = refl
same_int_is U8 U8 e = refl
same_int_is I16 I16 e = refl
same_int_is U16 U16 e = refl
same_int_is I32 I32 e = refl
same_int_is U32 U32 e = refl
same_int_is s t e = absurd cc

both_true : (a b : Bool) → (a && b) ≡ true → (a ≡ true) × (b ≡ true)
both_true true true e = (refl, refl)
both_true true false e = absurd cc
both_true false b e = absurd cc

pub same_type_is : (s t : Ty) → same_type s t ≡ true → s ≡ t
same_type_is void void e = refl
same_type_is (int s) (int t) e = ap int (same_int_is s t e)
same_type_is (pointer s) (pointer t) e = ap pointer (same_type_is s t e)
same_type_is (array s m) (array t n) e =
    let h = both_true (m == n) (same_type s t) e in
    ap (λ u. array u m) (same_type_is s t h.1) ∙ ap (λ k. array t k) (eqb-true m n h.0)
same_type_is (struct j) (struct k) e = ap struct (eqb-true j k e)
same_type_is s t e = absurd cc

pub int_of_is : (t : Ty) (a : IntType) → int_of t ≡ Some a → t ≡ int a
int_of_is void a e = absurd cc
int_of_is (int b) a e = cc
int_of_is (pointer t) a e = absurd cc
int_of_is (array t n) a e = absurd cc
int_of_is (struct k) a e = absurd cc

target_of_is : (t u : Ty) → target_of t ≡ Some u → t ≡ pointer u
target_of_is void u e = absurd cc
target_of_is (int b) u e = absurd cc
target_of_is (pointer t) u e = cc
target_of_is (array t n) u e = absurd cc
target_of_is (struct k) u e = absurd cc

pub integer_says : (at : Pos) (t : Ty) → Says (integer at t) (λ a. t ≡ int a)
integer_says at t = says_kept _ (says_found _ (int_of t)) (λ a e. int_of_is t a e)

pub pointed_says : (at : Pos) (t : Ty) → Says (pointed at t) (λ u. t ≡ pointer u)
pointed_says at t = says_kept _ (says_found _ (target_of t)) (λ u e. target_of_is t u e)

pub integers_says : (at : Pos) (t u : Ty) → Says (integers at t u) (λ c. (t ≡ int c.0) × (u ≡ int c.1))
integers_says at t u = says_then _ _ (integer_says at t) (λ a h. says_then _ _ (integer_says at u) (λ b k. says (a, b) (h, k)))

pub is_void_is : (t : Ty) → is_void t ≡ true → t ≡ void
is_void_is void e = refl
is_void_is (int b) e = absurd cc
is_void_is (pointer t) e = absurd cc
is_void_is (array t n) e = absurd cc
is_void_is (struct k) e = absurd cc

-- of two pointers, of which either may be NULL
pub data Joined (t u w : Ty) : Type 0 where
  of_first : w ≡ t → (u ≡ t) ⊎ (u ≡ void) → Joined t u w
  of_second : w ≡ u → t ≡ void → Joined t u w

pub joined_says : (at : Pos) (t u : Ty) → Says (pointed_by_both at t u) (Joined t u)
joined_says at t u =
    says_if (is_void t) _ _ (λ q. says u (of_second refl (is_void_is t q)))
    (λ q. says_if (is_void u) _ _ (λ r. says t (of_first refl (inr (is_void_is u r))))
    (λ r. says_if (same_type t u) _ _ (λ s. says t (of_first refl (inl (sym (same_type_is t u s))))) (λ s. refuses _)))

pub promoted_ok : (t : IntType) → IsPromoted (promoted t)
promoted_ok I8 = tt
promoted_ok U8 = tt
promoted_ok I16 = tt
promoted_ok U16 = tt
promoted_ok I32 = tt
promoted_ok U32 = tt

pub common_ok : (a b : IntType) → IsPromoted (common a b)
common_ok a b = by_test IsPromoted (nat_le (rank (promoted a)) (rank (promoted b))) (promoted b) (promoted a) (λ h. promoted_ok b) (λ h. promoted_ok a)

-- operators of numbers, of shifts and of comparisons
pub record IsArithmetic (o : BinOp) : Type 1 where
  pub gives : (t : IntType) → binary_type o t ≡ t
  pub second : (t : IntType) (H : Ty → Type 0) → H (int t) → IsSecond o t H

pub record IsShift (o : BinOp) : Type 1 where
  pub gives : (t : IntType) → binary_type o t ≡ t
  pub second : (t : IntType) (H : Ty → Type 0) → IsPromotedNumber H → IsSecond o t H

pub record IsComparison (o : BinOp) : Type 1 where
  pub gives : (t : IntType) → binary_type o t ≡ I16
  pub second : (t : IntType) (H : Ty → Type 0) → H (int t) → IsSecond o t H

module _ (p : Program) (types : List Ty) where
  abbrev H : Expr → Ty → Type 0
  H = Has p types

  abbrev V : Expr → Ty → Type 0
  V = IsValueOf p types

  abbrev W : Found → Type 0
  W = IsWellFound p types

  -- ---- values

  pub value_at : (e : Expr) (t u : Ty) → t ≡ u → V e t → V e u
  value_at e t u s h = subst (V e) s h

  pub int_points : PointsWell p.structs (pointer (int I16))
  int_points = (record { names = tt; small = tt }, omega arith, tt)

  -- what any pointer is: NULL, or a pointer that points well
  abbrev pub Any : Expr → Type 0
  Any e = (t : Ty) → IsPointer p.structs t → H e t

  pub record Real (e : Expr) (t : Ty) : Type 0 where
    pub points : PointsWell p.structs (pointer t)
    pub has : H e (pointer t)

  pub any_or_real : (e : Expr) (t : Ty) → IsPointerValue p types e t → ((t ≡ void) × Any e) ⊎ Real e t
  any_or_real e void h = inl (refl, h)
  any_or_real e (int t) h = inr (record { points = h.0; has = h.1 })
  any_or_real e (pointer t) h = inr (record { points = h.0; has = h.1 })
  any_or_real e (array t n) h = inr (record { points = h.0; has = h.1 })
  any_or_real e (struct k) h = inr (record { points = h.0; has = h.1 })

  pub no_void : PointsWell p.structs (pointer void) → ⊥
  no_void h = let z : 0 < 0 = h.1 in omega (arith, z)

  pub real_value : (e : Expr) (t : Ty) → PointsWell p.structs (pointer t) → H e (pointer t) → IsPointerValue p types e t
  real_value e void h k = absurd (no_void h)
  real_value e (int t) h k = (h, k)
  real_value e (pointer t) h k = (h, k)
  real_value e (array t n) h k = (h, k)
  real_value e (struct n) h k = (h, k)

  pub as_pointer : (e : Expr) (t : Ty) → IsPointerValue p types e t → (u : Ty) × H e (pointer u)
  as_pointer e t h = from (any_or_real e t h)
    where
      from : ((t ≡ void) × Any e) ⊎ Real e t → (u : Ty) × H e (pointer u)
      from (inl a) = (int I16, a.1 (pointer (int I16)) int_points)
      from (inr r) = (t, r.has)

  -- as a pointer to what points well
  pub pointer_to_real : (e : Expr) (t w : Ty) → (t ≡ w) ⊎ (t ≡ void) → PointsWell p.structs (pointer w) → IsPointerValue p types e t → H e (pointer w)
  pointer_to_real e t w same well h = from same (any_or_real e t h)
    where
      from : (t ≡ w) ⊎ (t ≡ void) → ((t ≡ void) × Any e) ⊎ Real e t → H e (pointer w)
      from s (inl a) = a.1 (pointer w) well
      from (inl s) (inr r) = subst (λ u. H e (pointer u)) s r.has
      from (inr s) (inr r) = absurd (no_void (subst (λ u. PointsWell p.structs (pointer u)) s r.points))

  pub some_of : (e : Expr) (t : Ty) → V e t → IsSome (H e)
  some_of e void h = (void, h)
  some_of e (int t) h = (int t, h)
  some_of e (pointer t) h = let q = as_pointer e t h in (pointer q.0, q.1)
  some_of e (array t n) h = absurd h
  some_of e (struct k) h = h

  pub test_of : (e : Expr) (t : Ty) → V e t → is_scalar t ≡ true → IsTest (H e)
  test_of e void h q = absurd cc
  test_of e (int t) h q = (int t, tt, h)
  test_of e (pointer t) h q = let r = as_pointer e t h in (pointer r.0, tt, r.1)
  test_of e (array t n) h q = absurd h
  test_of e (struct k) h q = absurd cc

  pub scalar_value : (e : Expr) (t : Ty) → IsScalar t → PointsWell p.structs t → H e t → V e t
  scalar_value e void s well h = absurd s
  scalar_value e (int t) s well h = h
  scalar_value e (pointer t) s well h = real_value e t well h
  scalar_value e (array t n) s well h = absurd s
  scalar_value e (struct k) s well h = absurd s

  -- another expression that has the types of the first
  pub value_mapped : (e f : Expr) → ((t : Ty) → H e t → H f t) → (t : Ty) → V e t → V f t
  value_mapped e f g void h = g void h
  value_mapped e f g (int t) h = g (int t) h
  value_mapped e f g (pointer void) h = λ t k. g t (h t k)
  value_mapped e f g (pointer (int t)) h = (h.0, g _ h.1)
  value_mapped e f g (pointer (pointer t)) h = (h.0, g _ h.1)
  value_mapped e f g (pointer (array t n)) h = (h.0, g _ h.1)
  value_mapped e f g (pointer (struct k)) h = (h.0, g _ h.1)
  value_mapped e f g (array t n) h = absurd h
  value_mapped e f g (struct k) h = (h.0, g h.0 h.1)

  -- ---- conversions

  pub to_int_ok : (to from : IntType) (e : Expr) → H e (int from) → H (to_int to from e) (int to)
  to_int_ok to from e h =
      by_test (λ x. H x (int to)) (same_int to from) e (core.convert to e)
      (λ q. subst (λ t. H e (int t)) (sym (same_int_is to from q)) h) (λ q. (refl, (int from, (tt, h))))

  pub converted_ok : (at : Pos) (to : Ty) (v : Typed) → PointsWell p.structs to → V v.expr v.ty → Says (converted at to v) (λ e. IsScalar to × H e to)
  converted_ok at to v well h = says_then _ _ (by_kind to well) (λ c k. says _ k)
    where
      pointed_at : (t : Ty) (b : Bool) → PointsWell p.structs (pointer t) → is_null v.ty ≡ b → (if b then true else same_type (pointer t) v.ty) ≡ true → H v.expr (pointer t)
      pointed_at t true well q e = null_at v.ty q h
        where
          null_at : (u : Ty) → is_null u ≡ true → V v.expr u → H v.expr (pointer t)
          null_at void q k = absurd cc
          null_at (int a) q k = absurd cc
          null_at (pointer u) q k = pointer_to_real v.expr u t (inr (is_void_is u q)) well k
          null_at (array u n) q k = absurd cc
          null_at (struct k) q l = absurd cc
      pointed_at t false well q e = pointer_to_real v.expr t t (inl refl) well (subst (V v.expr) (sym (same_type_is (pointer t) v.ty e)) h)

      by_kind : (to : Ty) → PointsWell p.structs to → Says (conversion_by at to v.ty (int_of to)) (λ c. IsScalar to × H (by_conversion c v.expr) to)
      by_kind void well = refuses _
      by_kind (int a) well = says_then _ _ (integer_says at v.ty) (λ b s. says _ (tt, to_int_ok a b v.expr (value_at v.expr v.ty (int b) s h)))
      by_kind (pointer t) well = says_if (fits_pointer (pointer t) v.ty) _ _ (λ q. says _ (tt, pointed_at t (is_null v.ty) well refl q)) (λ q. refuses _)
      by_kind (array t n) well = refuses _
      by_kind (struct k) well = refuses _

  pub cast_ok : (at : Pos) (to : Ty) (v : Typed) → PointsWell p.structs to → V v.expr v.ty → Says (cast_to at to v) W
  cast_ok at to v well h = says_then _ _ (converted_ok at to v well h) (λ e k. says _ (scalar_value e to k.0 well k.1))

  -- ---- arithmetic

  module _ (at : Pos) (x y : Typed) (hx : V x.expr x.ty) (hy : V y.expr y.ty) where
    pub arithmetic_ok : (o : BinOp) → IsArithmetic o → Says (arithmetic o at x y) W
    arithmetic_ok o a = says_then _ _ (integers_says at x.ty y.ty) (λ ts h. says _ (
      ap int (sym (a.gives (common ts.0 ts.1))),
      common_ok ts.0 ts.1,
      to_int_ok (common ts.0 ts.1) ts.0 x.expr (value_at x.expr x.ty (int ts.0) h.0 hx),
      a.second (common ts.0 ts.1) (H (to_int (common ts.0 ts.1) ts.1 y.expr)) (to_int_ok (common ts.0 ts.1) ts.1 y.expr (value_at y.expr y.ty (int ts.1) h.1 hy)),
    ))

    pub shifted_ok : (o : BinOp) → IsShift o → Says (shifted o at x y) W
    shifted_ok o a = says_then _ _ (integers_says at x.ty y.ty) (λ ts h. says _ (
      ap int (sym (a.gives (promoted ts.0))),
      promoted_ok ts.0,
      to_int_ok (promoted ts.0) ts.0 x.expr (value_at x.expr x.ty (int ts.0) h.0 hx),
      a.second (promoted ts.0) (H (promoted_value ts.1 y.expr))
          (promoted ts.1, promoted_ok ts.1, to_int_ok (promoted ts.1) ts.1 y.expr (value_at y.expr y.ty (int ts.1) h.1 hy)),
    ))

  module _ (at : Pos) (v : Typed) (hv : V v.expr v.ty) where
    pub plus_ok : Says (plus at v) W
    plus_ok = says_then _ _ (integer_says at v.ty) (λ t h. says _ (to_int_ok (promoted t) t v.expr (value_at v.expr v.ty (int t) h hv)))

    pub negated_ok : (t : IntType) → v.ty ≡ int t → H (negated t v.expr) (int (promoted t))
    negated_ok t h = (refl, promoted_ok t, to_int_ok (promoted t) t v.expr (value_at v.expr v.ty (int t) h hv))

    pub minus_ok : Says (minus at v) W
    minus_ok = says_then _ _ (integer_says at v.ty) (λ t h. says _ (negated_ok t h))

    pub complement_ok : Says (complement at v) W
    complement_ok = says_then _ _ (integer_says at v.ty)
        (λ t h. says _ (refl, promoted_ok t, to_int_ok (promoted t) t v.expr (value_at v.expr v.ty (int t) h hv)))

    pub scalar_says : Says (scalar at v) (λ e. (e ≡ v.expr) × IsTest (H e))
    scalar_says = says_if (is_scalar v.ty) _ _ (λ q. says _ (refl, test_of v.expr v.ty hv q)) (λ q. refuses _)

  pub address_ok : (e : Expr) (t : Ty) → IsPointerValue p types e t → H (address e) (int U16)
  address_ok e t h = let q = as_pointer e t h in (refl, (pointer q.0, (refl, q.1)))

  pub is_zero_ok : (at : Pos) (v : Typed) → V v.expr v.ty → Says (is_zero at v) W
  is_zero_ok at v hv = by_kind v.expr v.ty hv
    where
      by_kind : (e : Expr) (t : Ty) → V e t → Says (is_zero at (record { expr = e; ty = t })) W
      by_kind e void h = refuses _
      by_kind e (int t) h = says _ (refl, tt, h)
      by_kind e (pointer t) h = says _ (refl, tt, address_ok e t h)
      by_kind e (array t n) h = refuses _
      by_kind e (struct k) h = refuses _

  -- ---- comparisons

  pub record AreSides (c : Sides) : Type 0 where
    pub promotes : IsPromoted c.at_type
    pub first : H c.first (int c.at_type)
    pub second : H c.second (int c.at_type)

  pub pointers_of : (at : Pos) (x y : Typed) → V x.expr x.ty → V y.expr y.ty
      → Says (pointed_together at x.ty y.ty) (λ w. (t u : Ty) × ((x.ty ≡ pointer t) × (y.ty ≡ pointer u) × Joined t u w))
  pointers_of at x y hx hy = says_then _ _ (pointed_says at x.ty) (λ t h. says_then _ _ (pointed_says at y.ty)
      (λ u k. says_kept _ (joined_says at t u) (λ w j. (t, u, (h, k, j)))))

  pub comparable_ok : (at : Pos) (x y : Typed) → V x.expr x.ty → V y.expr y.ty → Says (comparable at x y) AreSides
  comparable_ok at x y hx hy = by (int_of x.ty) refl
    where
      by : (o : Option IntType) → int_of x.ty ≡ o → Says (comparable_by at x y o) AreSides
      by (Some a) q = says_then _ _ (integer_says at y.ty) (λ b h. says _ (record {
        promotes = common_ok a b;
        first = to_int_ok (common a b) a x.expr (value_at x.expr x.ty (int a) (int_of_is x.ty a q) hx);
        second = to_int_ok (common a b) b y.expr (value_at y.expr y.ty (int b) h hy);
      }))
      by None q = says_then _ _ (pointers_of at x y hx hy) (λ w h. says _ (record {
        promotes = tt;
        first = address_ok x.expr h.0 (value_at x.expr x.ty (pointer h.0) h.2.0 hx);
        second = address_ok y.expr h.1 (value_at y.expr y.ty (pointer h.1) h.2.1 hy);
      }))

  pub compared_ok : (o : BinOp) → IsComparison o → (at : Pos) (x y : Typed) → V x.expr x.ty → V y.expr y.ty → Says (compared o at x y) W
  compared_ok o a at x y hx hy = says_then _ _ (comparable_ok at x y hx hy)
      (λ c h. says _ (ap int (sym (a.gives c.at_type)), h.promotes, h.first, a.second c.at_type (H c.second) h.second))

  -- ---- logical operators, choice and comma

  pub both_ok : (at : Pos) (x y : Typed) → V x.expr x.ty → V y.expr y.ty → Says (both at x y) W
  both_ok at x y hx hy = says_then _ _ (scalar_says at x hx) (λ a h. says_then _ _ (scalar_says at y hy) (λ b k. says _ (refl, h.1, k.1)))

  pub either_ok : (at : Pos) (x y : Typed) → V x.expr x.ty → V y.expr y.ty → Says (either at x y) W
  either_ok at x y hx hy = says_then _ _ (scalar_says at x hx) (λ a h. says_then _ _ (scalar_says at y hy) (λ b k. says _ (refl, h.1, k.1)))

  -- two pointers of one type, of which either may be NULL
  pub pair_of : (e f : Expr) (t u w : Ty) → Joined t u w → IsPointerValue p types e t → IsPointerValue p types f u
      → ((w ≡ void) × Any e × Any f) ⊎ (PointsWell p.structs (pointer w) × H e (pointer w) × H f (pointer w))
  pair_of e f t u w (of_first s r) h k = first (any_or_real e t h)
    where
      first : ((t ≡ void) × Any e) ⊎ Real e t → ((w ≡ void) × Any e × Any f) ⊎ (PointsWell p.structs (pointer w) × H e (pointer w) × H f (pointer w))
      first (inl a) = inl (s ∙ a.0, a.1, null r)
        where
          null : (u ≡ t) ⊎ (u ≡ void) → Any f
          null (inl q) = subst (IsPointerValue p types f) (q ∙ a.0) k
          null (inr q) = subst (IsPointerValue p types f) q k
      first (inr b) = inr (subst (λ v. PointsWell p.structs (pointer v) × H e (pointer v) × H f (pointer v)) (sym s) (b.points, b.has, pointer_to_real f u t r b.points k))
  pair_of e f t u w (of_second s r) h k = second (any_or_real f u k)
    where
      null : Any e
      null = subst (IsPointerValue p types e) r h

      second : ((u ≡ void) × Any f) ⊎ Real f u → ((w ≡ void) × Any e × Any f) ⊎ (PointsWell p.structs (pointer w) × H e (pointer w) × H f (pointer w))
      second (inl a) = inl (s ∙ a.0, null, a.1)
      second (inr b) = inr (subst (λ v. PointsWell p.structs (pointer v) × H e (pointer v) × H f (pointer v)) (sym s) (b.points, null (pointer u) b.points, b.has))

  pub chosen_ok : (at : Pos) (x y z : Typed) → V x.expr x.ty → V y.expr y.ty → V z.expr z.ty → Says (chosen at x y z) W
  chosen_ok at x y z hx hy hz = says_then _ _ (scalar_says at x hx) (λ test k. by test k.1 (int_of y.ty) refl)
    where
      pointers : (test : Expr) → IsTest (H test) → (w : Ty) (h : (t u : Ty) × ((y.ty ≡ pointer t) × (z.ty ≡ pointer u) × Joined t u w)) → IsPointerValue p types (core.choice test y.expr z.expr) w
      pointers test tested w h =
          from (pair_of y.expr z.expr h.0 h.1 w h.2.2 (value_at y.expr y.ty (pointer h.0) h.2.0 hy) (value_at z.expr z.ty (pointer h.1) h.2.1 hz))
        where
          from : ((w ≡ void) × Any y.expr × Any z.expr) ⊎ (PointsWell p.structs (pointer w) × H y.expr (pointer w) × H z.expr (pointer w)) → IsPointerValue p types (core.choice test y.expr z.expr) w
          from (inl a) = subst (IsPointerValue p types (core.choice test y.expr z.expr)) (sym a.0) (λ t k. (tested, a.1 t k, a.2 t k))
          from (inr b) = real_value (core.choice test y.expr z.expr) w b.0 (tested, b.1, b.2)

      by : (test : Expr) → IsTest (H test) → (o : Option IntType) → int_of y.ty ≡ o → Says (chosen_by at test y z o) W
      by test tested (Some a) q = says_then _ _ (integer_says at z.ty) (λ b h. says _ (
        tested,
        to_int_ok (common a b) a y.expr (value_at y.expr y.ty (int a) (int_of_is y.ty a q) hy),
        to_int_ok (common a b) b z.expr (value_at z.expr z.ty (int b) h hz),
      ))
      by test tested None q = says_if (is_void y.ty) _ _
          (λ r. says_if (is_void z.ty) _ _
          (λ s. says _ (tested, value_at y.expr y.ty void (is_void_is y.ty r) hy, value_at z.expr z.ty void (is_void_is z.ty s) hz)) (λ s. refuses _))
          (λ r. says_then _ _ (pointers_of at y z hy hz) (λ w h. says _ (pointers test tested w h)))

  pub comma_ok : (x y : Typed) → V x.expr x.ty → V y.expr y.ty → W (comma x y)
  comma_ok x y hx hy = value_mapped y.expr (core.comma x.expr y.expr) (λ t h. (some_of x.expr x.ty hx, h)) y.ty hy
