-- What the types of expressions tell: as which number they are held, whether they have a value, and that their places have sizes.
use Rattle.std.proofs.Common.{◌≡◌, ℕ, zero, suc, ◌≤◌, false, List, [], ◌∷◌, length, take, get_or, Option, Some, None, ap, sym, refl, subst, arith}
use Rattle.std.specs.Prelude.{slice_get, slice_index_or}
use Rattle.std.specs.List.{All}
use Rattle.nm_base.specs.declared.int_type.IntType.{IntType}
use Rattle.nm_base.specs.declared.int_type.IntType.TheVariants.{U16}
use Rattle.core_meaning.specs.Work.{number_of}
use Rattle.nesc_core.specs.declared.tree.BinOp.{BinOp}
use Rattle.nesc_core.specs.declared.tree.BinOp.TheVariants as bin
use Rattle.nesc_core.specs.Plain.{Ty, void, int, pointer, array, struct, Expr, Exprs, no_exprs, more_exprs, Place, Field, Object, Body, Program}
use Rattle.nesc_core.specs.Plain as plain
use Rattle.nesc_core.specs.PlaceTypes.{place_type, element_of, field_type, fields_of, object_type}
use Rattle.nesc_core.specs.Size.{NamesBelow, AreSized, IsSized}
use Rattle.nesc_core.specs.Typing.{Has, AllHave, IsPlace, IsType, IsArray, IsScalar, IsCallable, IsSecond, IsStepped, IsPointer, IsUpdated}
use Rattle.lower_expr.specs.Code.{is_void}
use Rattle.lower_expr.specs.Held.{held, result_of}
use Rattle.expr_emitter.specs.Results.{is_empty}
use Rattle.expr_emitter.specs.Sizes.{HasSizes, PlaceHasSizes, AllHaveSizes}

module _ (p : Program) (types : List Ty) where
  callable_is : (o : Option Body) (Arguments : List Ty → Type 0) (ty : Ty) → IsCallable o Arguments ty → ty ≡ result_of o
  callable_is None A ty h = absurd h
  callable_is (Some b) A ty h = h.0

  stepped_is : (size : ℕ) (ty : Ty) → IsStepped p.structs size ty → (U16 ≡ number_of ty) × (false ≡ is_void ty)
  stepped_is size void h = absurd h
  stepped_is size (int t) h = absurd h
  stepped_is size (pointer t) h = (refl, refl)
  stepped_is size (array t m) h = absurd h
  stepped_is size (struct k) h = absurd h

  pointer_is : (ty : Ty) → IsPointer p.structs ty → (U16 ≡ number_of ty) × (false ≡ is_void ty)
  pointer_is void h = absurd h
  pointer_is (int t) h = absurd h
  pointer_is (pointer t) h = (refl, refl)
  pointer_is (array t m) h = absurd h
  pointer_is (struct k) h = absurd h

  scalar_is : (ty : Ty) → IsScalar ty → false ≡ is_void ty
  scalar_is void h = absurd h
  scalar_is (int t) h = refl
  scalar_is (pointer t) h = refl
  scalar_is (array t m) h = absurd h
  scalar_is (struct k) h = absurd h

  updated_is : (op : BinOp) (t : IntType) (ty : Ty) → IsUpdated op t ty → false ≡ is_void ty
  updated_is op t void h = absurd h
  updated_is op t (int s) h = refl
  updated_is op t (pointer s) h = refl
  updated_is op t (array s m) h = absurd h
  updated_is op t (struct k) h = absurd h

  abbrev IsHeldAs : Expr → Ty → Type 0
  IsHeldAs e ty = (held p types e ≡ number_of ty) × (is_empty p e ≡ is_void ty)

  as_type : (e : Expr) (s ty : Ty) → ty ≡ s → IsHeldAs e s → IsHeldAs e ty
  as_type e s ty is h = subst (IsHeldAs e) (sym is) h

  -- a value is held as its type says
  pub held_as : (e : Expr) (ty : Ty) → Has p types e ty → IsHeldAs e ty
  held_as (plain.const t x) ty h = as_type (plain.const t x) (int t) ty h.0 (refl, refl)
  held_as plain.null ty h = pointer_is ty h
  held_as (plain.read place at) ty h = (ap number_of (sym h.0), scalar_is ty h.1)
  held_as (plain.addr place) ty h = as_type (plain.addr place) (pointer (place_type p types place)) ty h.0 (refl, refl)
  held_as (plain.un op t e) ty h = (ap number_of (sym h.0), ap is_void (sym h.0))
  held_as (plain.bin op t a b) ty h = (ap number_of (sym h.0), ap is_void (sym h.0))
  held_as (plain.convert t e) ty h = (ap number_of (sym h.0), ap is_void (sym h.0))
  held_as (plain.offset a b size) ty h = stepped_is size ty h.0
  held_as (plain.distance a b size) ty h = (ap number_of (sym h.0), ap is_void (sym h.0))
  held_as (plain.both a b) ty h = (ap number_of (sym h.0), ap is_void (sym h.0))
  held_as (plain.either a b) ty h = (ap number_of (sym h.0), ap is_void (sym h.0))
  held_as (plain.choice test a b) ty h = held_as a ty h.1
  held_as (plain.assign place e at) ty h = (ap number_of (sym h.0), scalar_is ty h.1)
  held_as (plain.update place op t e gives_old at) ty h = (ap number_of (sym h.0), updated_is op t ty h.1)
  held_as (plain.call g arguments at) ty h =
      let is = callable_is (slice_get p.bodies g) _ ty h in (ap number_of (sym is), ap is_void (sym is))
  held_as (plain.post k) ty h = (ap number_of (sym h.0), ap is_void (sym h.0))
  held_as (plain.port_in port) ty h = (ap number_of (sym h.0), ap is_void (sym h.0))
  held_as (plain.port_out port e) ty h = (ap number_of (sym h.0), ap is_void (sym h.0))
  held_as (plain.comma a b) ty h = held_as b ty h.1

  -- ---- sizes

  abbrev Sized : Ty → Type 0
  Sized t = IsSized p.structs t

  element_sized : (t : Ty) → IsArray t → Sized t → Sized (element_of t)
  element_sized void is h = absurd is
  element_sized (int t) is h = absurd is
  element_sized (pointer t) is h = absurd is
  element_sized (array t n) is h = record { names = h.names; small = h.small.0 }
  element_sized (struct k) is h = absurd is

  void_sized : Sized void
  void_sized = record { names = tt; small = tt }

  more_names : (m n : ℕ) → m ≤ n → (t : Ty) → NamesBelow m t → NamesBelow n t
  more_names m n le void h = tt
  more_names m n le (int t) h = tt
  more_names m n le (pointer t) h = tt
  more_names m n le (array t k) h = more_names m n le t h
  more_names m n le (struct k) h = omega arith

  field_in : (fs : List Field) (k : ℕ) → All (λ f. Sized f.ty) fs → Sized (field_type (slice_get fs k))
  field_in [] k all = void_sized
  field_in (f ∷ fs) zero all = all 0 f (omega arith)
  field_in (f ∷ fs) (suc k) all = field_in fs k (λ i d lt. all (suc i) d (omega arith))

  module _ (structs : AreSized p.structs) where
    field_sized : (t : Ty) (k : ℕ) → Sized t → Sized (field_type (slice_get (fields_of p.structs t) k))
    field_sized void k h = field_in [] k (λ i d lt. absurd (omega arith))
    field_sized (int t) k h = field_in [] k (λ i d lt. absurd (omega arith))
    field_sized (pointer t) k h = field_in [] k (λ i d lt. absurd (omega arith))
    field_sized (array t n) k h = field_in [] k (λ i d lt. absurd (omega arith))
    field_sized (struct n) k h =
        field_in (get_or p.structs n []) k
        (λ i d lt. record {
          names = more_names n (length p.structs) (omega (arith, h.names)) (get_or (get_or p.structs n []) i d).ty (structs.lower n h.names i d lt);
          small = structs.small n h.names i d lt;
        })

    object_in : (os : List Object) (k : ℕ) → All (λ o. IsType p.structs o.ty) os → Sized (object_type (slice_get os k))
    object_in [] k all = void_sized
    object_in (o ∷ os) zero all = (all 0 o (omega arith)).sized
    object_in (o ∷ os) (suc k) all = object_in os k (λ i d lt. all (suc i) d (omega arith))

    local_in : (ts : List Ty) (x : ℕ) → All (IsType p.structs) ts → Sized (slice_index_or ts x void)
    local_in [] x all = void_sized
    local_in (t ∷ ts) zero all = (all 0 t (omega arith)).sized
    local_in (t ∷ ts) (suc x) all = local_in ts x (λ i d lt. all (suc i) d (omega arith))

    module _ (objects : All (λ o. IsType p.structs o.ty) p.objects) (locals : All (IsType p.structs) types) where
      place_sized : (place : Place) → IsPlace p types place → Sized (place_type p types place)
      place_sized (plain.object k) h = object_in p.objects k objects
      place_sized (plain.local x) h = local_in types x locals
      place_sized (plain.deref e t) h = h.0.0
      place_sized (plain.index place e) h = element_sized (place_type p types place) h.0 (place_sized place h.1)
      place_sized (plain.field place k) h = field_sized (place_type p types place) k (place_sized place h.1)

      second_sized : (op : BinOp) (t : IntType) (b : Expr) → ((ty : Ty) → Has p types b ty → HasSizes p types b) → IsSecond op t (Has p types b) → HasSizes p types b
      second_sized bin.Shl t b go h = go (int h.0) h.2
      second_sized bin.Shr t b go h = go (int h.0) h.2
      second_sized bin.Add t b go h = go (int t) h
      second_sized bin.Sub t b go h = go (int t) h
      second_sized bin.Mul t b go h = go (int t) h
      second_sized bin.Div t b go h = go (int t) h
      second_sized bin.Rem t b go h = go (int t) h
      second_sized bin.And t b go h = go (int t) h
      second_sized bin.Or t b go h = go (int t) h
      second_sized bin.Xor t b go h = go (int t) h
      second_sized bin.Eq t b go h = go (int t) h
      second_sized bin.Ne t b go h = go (int t) h
      second_sized bin.Lt t b go h = go (int t) h
      second_sized bin.Le t b go h = go (int t) h

      called_with : (o : Option Body) (Arguments : List Ty → Type 0) (ty : Ty) → IsCallable o Arguments ty → (ts : List Ty) × Arguments ts
      called_with None A ty h = absurd h
      called_with (Some b) A ty h = (take b.params b.locals, h.1)

      mutual
        pub has_sizes : (e : Expr) (ty : Ty) → Has p types e ty → HasSizes p types e
        has_sizes (plain.const t x) ty h = tt
        has_sizes plain.null ty h = tt
        has_sizes (plain.read place at) ty h = place_has_sizes place h.2
        has_sizes (plain.addr place) ty h = place_has_sizes place h.2
        has_sizes (plain.un op t e) ty h = has_sizes e (int t) h.2
        has_sizes (plain.bin op t a b) ty h = (has_sizes a (int t) h.2, second_sized op t b (has_sizes b) h.3)
        has_sizes (plain.convert t e) ty h = has_sizes e h.1.0 h.1.1.1
        has_sizes (plain.offset a b size) ty h = (has_sizes a ty h.1, has_sizes b (int h.2.0) h.2.1)
        has_sizes (plain.distance a b size) ty h = (has_sizes a h.1.0 h.1.1.1, has_sizes b h.1.0 h.1.1.2)
        has_sizes (plain.both a b) ty h = (has_sizes a h.1.0 h.1.2, has_sizes b h.2.0 h.2.2)
        has_sizes (plain.either a b) ty h = (has_sizes a h.1.0 h.1.2, has_sizes b h.2.0 h.2.2)
        has_sizes (plain.choice test a b) ty h = (has_sizes test h.0.0 h.0.2, has_sizes a ty h.1, has_sizes b ty h.2)
        has_sizes (plain.assign place e at) ty h = (place_has_sizes place h.2, has_sizes e ty h.3)
        has_sizes (plain.update place op t e gives_old at) ty h = (place_has_sizes place h.2, second_sized op t e (has_sizes e) h.3)
        has_sizes (plain.call g arguments at) ty h =
            let c = called_with (slice_get p.bodies g) (AllHave p types arguments) ty h in all_have_sizes arguments c.0 c.1
        has_sizes (plain.post k) ty h = tt
        has_sizes (plain.port_in port) ty h = tt
        has_sizes (plain.port_out port e) ty h = has_sizes e (int U16) h.2
        has_sizes (plain.comma a b) ty h = (has_sizes a h.0.0 h.0.1, has_sizes b ty h.1)

        place_has_sizes : (place : Place) → IsPlace p types place → PlaceHasSizes p types place
        place_has_sizes (plain.object k) h = tt
        place_has_sizes (plain.local x) h = tt
        place_has_sizes (plain.deref e t) h = has_sizes e (pointer t) h.1
        place_has_sizes (plain.index place e) h =
            (element_sized (place_type p types place) h.0 (place_sized place h.1), place_has_sizes place h.1, has_sizes e (int h.2.0) h.2.1)
        place_has_sizes (plain.field place k) h = (place_sized place h.1, h.0, place_has_sizes place h.1)

        all_have_sizes : (es : Exprs) (ts : List Ty) → AllHave p types es ts → AllHaveSizes p types es
        all_have_sizes no_exprs ts h = tt
        all_have_sizes (more_exprs e rest) [] h = absurd h
        all_have_sizes (more_exprs e rest) (t ∷ ts) h = (has_sizes e t h.0, all_have_sizes rest ts h.1)
