-- The code of an expression does what the expression does.
use Rattle.std.proofs.Common.{◌≡◌, ℕ, ◌+◌, ◌≤◌, ◌<◌, Bool, true, false, List, [], ◌∷◌, ◌++◌, All, length, map, take, Option, Some, None, refl, sym, ap, ◌∙◌, subst, arith}
use Rattle.std.specs.Prelude.{ℤ, pos, unsigned_abs, int_div, slice_get, not, if◌then◌else◌, ◌+ℤ◌, ◌-ℤ◌, ◌*ℤ◌}
use Rattle.nm_base.specs.declared.int_type.IntType.{IntType}
use Rattle.nm_base.specs.declared.int_type.IntType.TheVariants.{U8, I16, U16}
use Rattle.nm_base.specs.IntType.{wrapped}
use Rattle.nm_base.specs.declared.action.Action.TheVariants as action
use Rattle.nm_base.specs.Behaviour.{Behaviour, Does}
use Rattle.nesc_core.specs.declared.tree.BinOp.{BinOp}
use Rattle.nesc_core.specs.declared.tree.BinOp.TheVariants as bin
use Rattle.nesc_core.specs.declared.tree.UnOp.TheVariants as un
use Rattle.nesc_core.specs.Plain.{Ty, void, int, pointer, array, struct, Expr, Exprs, no_exprs, more_exprs, Place, Body, Program}
use Rattle.nesc_core.specs.Plain as plain
use Rattle.nesc_core.specs.PlaceTypes.{place_type, element_of, count_of, field_offset}
use Rattle.nesc_core.specs.Parts.{is_part}
use Rattle.nesc_core.specs.Derefs.{expr_derefs, exprs_derefs, place_derefs}
use Rattle.nesc_core.specs.Calls.{expr_calls, exprs_calls, place_calls}
use Rattle.nesc_core.specs.Weights.{objects_start}
use Rattle.nesc_core.specs.Typing.{Has, IsConverted, IsScalar, IsPointer, IsStepped, IsCallable, IsPlace, IsPromoted, IsSecond, IsUpdated, Moves, Updates, AllHave, binary_type}
use Rattle.core_meaning.specs.Numbers.{residue, binary, unary, is_zero, truth}
use Rattle.core_meaning.specs.Layout.{object_address, size_of}
use Rattle.core_meaning.specs.Work.{Locals, Work, address_of, fault, give, load, moved, store, or_fault, number_of}
use Rattle.core_meaning.specs.declared.access.Where.{Where}
use Rattle.core_meaning.specs.declared.access.Where.TheVariants.{At}
use Rattle.core_meaning.specs.Act.{Calls, element, find, value, values as values_of}
use Rattle.mid_code.specs.declared.instr.Op.TheVariants.{Add}
use Rattle.mid_code.specs.declared.instr.Mid.{Mid}
use Rattle.mid_code.specs.declared.instr.Mid.TheVariants.{Set, Bin, In, Out, Post, Label, Jump, Call, Help, Tick}
use Rattle.mid_code.specs.declared.instr.Test.TheVariants as test
use Rattle.mid_code.specs.declared.code.MidCode.{MidCode}
use Rattle.mid_code.specs.Machine.{Activation, fn_of, put}
use Rattle.mid_code.specs.Runs.{IsLabelled, Runs, Stands}
use Rattle.mid_code.specs.Help.{first_check, is_wide}
use Rattle.mid_code.proofs.Runs.{wants, acts_on}
use Rattle.mid_code.proofs.Stands.{does, at_end, jump_runs, split}
use Rattle.mid_code.proofs.Written.{put_same}
use Rattle.lower_expr.specs.declared.spot.Spot.{Spot}
use Rattle.lower_expr.specs.Held.{held, halves_of, result_of, IsHeld, IsHighHeld, low}
use Rattle.lower_expr.specs.Runs.{After, AfterArguments, CallsRun, Fits, IsReady, Keeps}
use Rattle.lower_expr.specs.Locals.{Holds, IsResult}
use Rattle.lower_expr.specs.Code.{Kind, labels, place_labels, fetch_code, put_code, address_code, expr_code, place_code, args_code, passed_at, kind_of, check_of, taken_at}
use Rattle.lower_expr.specs.Pieces.{binary_code, convert_code, distance_code, element_code, offset_code, truth_code, zero_code, move_code, values_at}
use Rattle.lower_expr.proofs.Values.{keeps_refl, keeps_put, keeps_on, holds_put, still}
use Rattle.lower_expr.proofs.Numbers.{low_byte, low_word, word_number}
use Rattle.lower_expr.proofs.Wide.{apart_tested, non_zero_test_runs, tested, zero_test_runs, zero_truth_runs}
use Rattle.lower_expr.proofs.Pieces.{Next, at_here, byte_runs, label_runs, first_runs, last_runs, const_runs, narrow_at, set_runs}
use Rattle.std.proofs.lemmas.List.{map-append}
use Rattle.std.proofs.lemmas.List.Elements.{All-cons, All-head, All-nil, All-tail}
use Rattle.lower_expr.proofs.Found.{as_number, as_result, found_still}
use Rattle.lower_expr.proofs.Loads.{fetched_runs}
use Rattle.lower_expr.proofs.Stores.{moved_runs, written_runs}
use Rattle.lower_expr.proofs.Helped.{held_halves}
use Rattle.lower_expr.proofs.Operators.{SecondHeld, binary_runs, converted_runs, negated_runs, turned_runs}
use Rattle.lower_expr.proofs.Places.{NextPlace, address_runs, checked_runs, element_runs, field_runs, local_runs, object_runs, object_word}
use Rattle.lower_expr.proofs.Pointers.{distance_runs, offset_runs, step_small, stepped_held, stepped_result}
use Rattle.lower_expr.proofs.Called.{body_formed, call_runs}

-- what holds of all of two lists
both_of : {A : Type 0} (P : A → Type 0) (xs ys : List A) → All P (xs ++ ys) → All P xs × All P ys
both_of P [] ys h = (All-nil P, h)
both_of P (x ∷ xs) ys h = let r = both_of P xs ys (All-tail P x (xs ++ ys) h) in (All-cons P x xs (All-head P x (xs ++ ys) h) r.0, r.1)

-- a number at a place that is as it was
held_there : (t : IntType) (v : ℤ) (old new : ℕ → ℕ) (r : ℕ) → new r ≡ old r → new (r + 1) ≡ old (r + 1) → IsHeld t v old r → IsHeld t v new r
held_there t v old new r e1 e2 h = record { number = h.number; low_half = e1 ∙ h.low_half; high_half = high_there (is_wide t) h.high_half }
  where
    high_there : (wide : Bool) → IsHighHeld wide v old (r + 1) → IsHighHeld wide v new (r + 1)
    high_there true k = e2 ∙ k
    high_there false k = tt

-- ---- what is updated

updated_scalar : (op : BinOp) (t : IntType) (ty : Ty) → IsUpdated op t ty → IsScalar ty
updated_scalar op t void h = absurd h
updated_scalar op t (int s) h = tt
updated_scalar op t (pointer s) h = tt
updated_scalar op t (array s m) h = absurd h
updated_scalar op t (struct k) h = absurd h

updated_promoted : (op : BinOp) (t : IntType) (ty : Ty) → IsUpdated op t ty → IsPromoted t
updated_promoted op t void h = absurd h
updated_promoted op t (int s) h = h.1
updated_promoted op t (pointer s) h = subst IsPromoted (sym h.1) tt
updated_promoted op t (array s m) h = absurd h
updated_promoted op t (struct k) h = absurd h

moves_updates : (op : BinOp) → Moves op → Updates op
moves_updates bin.Add h = tt
moves_updates bin.Sub h = tt
moves_updates bin.Mul h = absurd h
moves_updates bin.Div h = absurd h
moves_updates bin.Rem h = absurd h
moves_updates bin.And h = absurd h
moves_updates bin.Or h = absurd h
moves_updates bin.Xor h = absurd h
moves_updates bin.Shl h = absurd h
moves_updates bin.Shr h = absurd h
moves_updates bin.Eq h = absurd h
moves_updates bin.Ne h = absurd h
moves_updates bin.Lt h = absurd h
moves_updates bin.Le h = absurd h

updates_of : (op : BinOp) (t : IntType) (ty : Ty) → IsUpdated op t ty → Updates op
updates_of op t void h = absurd h
updates_of op t (int s) h = h.0
updates_of op t (pointer s) h = moves_updates op h.0
updates_of op t (array s m) h = absurd h
updates_of op t (struct k) h = absurd h

updated_type : (op : BinOp) (t : IntType) → Updates op → binary_type op t ≡ t
updated_type bin.Add t h = refl
updated_type bin.Sub t h = refl
updated_type bin.Mul t h = refl
updated_type bin.Div t h = refl
updated_type bin.Rem t h = refl
updated_type bin.And t h = refl
updated_type bin.Or t h = refl
updated_type bin.Xor t h = refl
updated_type bin.Shl t h = refl
updated_type bin.Shr t h = refl
updated_type bin.Eq t h = absurd h
updated_type bin.Ne t h = absurd h
updated_type bin.Lt t h = absurd h
updated_type bin.Le t h = absurd h

-- ---- what is called

callable_body : (o : Option Body) (Arguments : List Ty → Type 0) (ty : Ty) → IsCallable o Arguments ty → (b : Body) × (o ≡ Some b) × (ty ≡ b.result) × Arguments (take b.params b.locals)
callable_body None A ty h = absurd h
callable_body (Some b) A ty h = (b, refl, h.0, h.1)

module _ (codes : MidCode) (f : ℕ) (rest : List Activation) (n : ℕ) (p : Program) (types checks : List Ty) (spots : List Spot) (base : ℕ)
    (rank : ℕ → ℕ) (below : ℕ) (calls : Calls) (fits : Fits codes f p types checks spots) (calls_run : CallsRun codes n p rank below calls) where
  abbrev code : List Mid
  code = (fn_of codes f).code

  abbrev labelled : IsLabelled (fn_of codes f).code
  labelled = fits.labelled

  abbrev here : ℕ → (ℕ → ℕ) → (ℕ → ℕ) → List Activation
  here pc values frame = at_here codes f rest labelled n p types spots base pc values frame

  abbrev Behind : Ty → (r end : ℕ) → (ℕ → ℕ) → (ℤ → Locals → Behaviour) → Type 0
  Behind ty r end old after = Next codes f rest labelled n p types spots base ty r end old after

  abbrev Stood : Ty → (r : ℕ) → (ℕ → ℕ) → ℤ → Locals → (ℕ → ℕ) → (ℕ → ℕ) → Type 0
  Stood ty r old v env values frame = After p types spots base ty r old v env values frame

  abbrev kind_at : Place → Kind
  kind_at place = kind_of p types checks spots place

  abbrev BehindPlace : Place → (r end : ℕ) → (ℕ → ℕ) → (Where → Locals → Behaviour) → Type 0
  BehindPlace place r end old after = NextPlace codes f rest labelled n p types spots base (kind_at place) (place_type p types place) r end old after

  abbrev Ready : List Ty → List ℕ → Type 0
  Ready ds gs = IsReady checks rank below ds gs

  -- what is ready for two parts is ready for each
  two_ready : (ds es : List Ty) (gs hs : List ℕ) → Ready (ds ++ es) (gs ++ hs) → Ready ds gs × Ready es hs
  two_ready ds es gs hs h =
      let a = both_of (λ t. check_of checks t < length checks) ds es h.checked in
      let b = both_of (λ g. rank g < below) gs hs h.lower in
      (record { checked = a.0; lower = b.0 }, record { checked = a.1; lower = b.1 })

  abbrev BehindArgs : Exprs → List Ty → (r end : ℕ) → (ℕ → ℕ) → (List ℤ → Locals → Behaviour) → Type 0
  BehindArgs es ts r end old after = (vs : List ℤ) (env : Locals) (values frame : ℕ → ℕ) → AfterArguments p types checks spots base es ts r old vs env values frame → Runs codes n (after vs env) (here end values frame)

  null_is : (ty : Ty) → IsPointer p.structs ty → (values : ℕ → ℕ) (r : ℕ) → IsResult ty (pos 0) (put values r 0) r
  null_is void h values r = absurd h
  null_is (int t) h values r = absurd h
  null_is (pointer t) h values r = narrow_at codes f rest labelled n p types spots base U16 (pos 0) r 0 values refl refl refl
  null_is (array t m) h values r = absurd h
  null_is (struct k) h values r = absurd h

  callable_is : (o : Option Body) (Arguments : List Ty → Type 0) (ty : Ty) → IsCallable o Arguments ty → number_of (result_of o) ≡ number_of ty
  callable_is None A ty h = absurd h
  callable_is (Some b) A ty h = ap number_of (sym h.0)

  stepped_is : (size : ℕ) (ty : Ty) → IsStepped p.structs size ty → U16 ≡ number_of ty
  stepped_is size void h = absurd h
  stepped_is size (int t) h = absurd h
  stepped_is size (pointer t) h = refl
  stepped_is size (array t m) h = absurd h
  stepped_is size (struct k) h = absurd h

  pointer_is : (ty : Ty) → IsPointer p.structs ty → U16 ≡ number_of ty
  pointer_is void h = absurd h
  pointer_is (int t) h = absurd h
  pointer_is (pointer t) h = refl
  pointer_is (array t m) h = absurd h
  pointer_is (struct k) h = absurd h

  -- a value is held as its type says
  pub held_is : (e : Expr) (ty : Ty) → Has p types e ty → held p types e ≡ number_of ty
  held_is (plain.const t x) ty h = ap number_of (sym h.0)
  held_is plain.null ty h = pointer_is ty h
  held_is (plain.read place at) ty h = ap number_of (sym h.0)
  held_is (plain.addr place) ty h = ap number_of (sym h.0)
  held_is (plain.un op t e) ty h = ap number_of (sym h.0)
  held_is (plain.bin op t a b) ty h = ap number_of (sym h.0)
  held_is (plain.convert t e) ty h = ap number_of (sym h.0)
  held_is (plain.offset a b size) ty h = stepped_is size ty h.0
  held_is (plain.distance a b size) ty h = ap number_of (sym h.0)
  held_is (plain.both a b) ty h = ap number_of (sym h.0)
  held_is (plain.either a b) ty h = ap number_of (sym h.0)
  held_is (plain.choice test a b) ty h = held_is a ty h.1
  held_is (plain.assign place e at) ty h = ap number_of (sym h.0)
  held_is (plain.update place op t e gives_old at) ty h = ap number_of (sym h.0)
  held_is (plain.call g arguments at) ty h = callable_is (slice_get p.bodies g) _ ty h
  held_is (plain.post k) ty h = ap number_of (sym h.0)
  held_is (plain.port_in port) ty h = ap number_of (sym h.0)
  held_is (plain.port_out port e) ty h = ap number_of (sym h.0)
  held_is (plain.comma a b) ty h = held_is b ty h.1

  abbrev Second : BinOp → IntType → Expr → Type 0
  Second op t b = (s : IntType) × Has p types b (int s) × ((y : ℤ) (values : ℕ → ℕ) (at : ℕ) → IsHeld s y values at → SecondHeld codes f rest labelled n p types spots base op t (held p types b) y values at)

  count_of_shift : (b : Expr) (s : IntType) → IsPromoted s → Has p types b (int s) → (y : ℤ) (values : ℕ → ℕ) (at : ℕ) → IsHeld s y values at → IsPromoted (held p types b) × IsHeld (held p types b) y values at
  count_of_shift b s ok h y values at k = let same = sym (held_is b (int s) h) in (subst IsPromoted same ok, subst (λ u. IsHeld u y values at) same k)

  second_of : (op : BinOp) (t : IntType) (b : Expr) → IsSecond op t (Has p types b) → Second op t b
  second_of bin.Add t b h = (t, h, λ y values at k. k)
  second_of bin.Sub t b h = (t, h, λ y values at k. k)
  second_of bin.Mul t b h = (t, h, λ y values at k. k)
  second_of bin.Div t b h = (t, h, λ y values at k. k)
  second_of bin.Rem t b h = (t, h, λ y values at k. k)
  second_of bin.And t b h = (t, h, λ y values at k. k)
  second_of bin.Or t b h = (t, h, λ y values at k. k)
  second_of bin.Xor t b h = (t, h, λ y values at k. k)
  second_of bin.Shl t b h = (h.0, h.2, count_of_shift b h.0 h.1 h.2)
  second_of bin.Shr t b h = (h.0, h.2, count_of_shift b h.0 h.1 h.2)
  second_of bin.Eq t b h = (t, h, λ y values at k. k)
  second_of bin.Ne t b h = (t, h, λ y values at k. k)
  second_of bin.Lt t b h = (t, h, λ y values at k. k)
  second_of bin.Le t b h = (t, h, λ y values at k. k)

  width_is : (e : Expr) (ty : Ty) → Has p types e ty → is_wide (number_of ty) ≡ is_wide (held p types e)
  width_is e ty h = ap is_wide (sym (held_is e ty h))

  by_zero : (b : Bool) (x : ℤ) (yes_work no_work : Work ℤ) (after : ℤ → Locals → Behaviour) (env : Locals) (s : List Activation) → is_zero x ≡ b →
      (is_zero x ≡ true → Runs codes n (yes_work after env) s) → (is_zero x ≡ false → Runs codes n (no_work after env) s) →
      Runs codes n ((if is_zero x then yes_work else no_work) after env) s
  by_zero true x yes_work no_work after env s e on_zero otherwise = subst (λ (b : Bool). Runs codes n ((if b then yes_work else no_work) after env) s) (sym e) (on_zero e)
  by_zero false x yes_work no_work after env s e on_zero otherwise = subst (λ (b : Bool). Runs codes n ((if b then yes_work else no_work) after env) s) (sym e) (otherwise e)

  by_truth : (b : Bool) (x : ℤ) (after : ℤ → Locals → Behaviour) (env : Locals) (s : List Activation) → is_zero x ≡ b →
      (is_zero x ≡ true → Runs codes n (after (pos 0) env) s) → (is_zero x ≡ false → Runs codes n (after (pos 1) env) s) →
      Runs codes n (after (truth (not (is_zero x))) env) s
  by_truth true x after env s e on_zero otherwise = subst (λ (b : Bool). Runs codes n (after (truth (not b)) env) s) (sym e) (on_zero e)
  by_truth false x after env s e on_zero otherwise = subst (λ (b : Bool). Runs codes n (after (truth (not b)) env) s) (sym e) (otherwise e)

  -- the locals and the values below r are as they were where the number at r was tested
  spare : (wide : Bool) (ty : Ty) (r : ℕ) (old : ℕ → ℕ) (v : ℤ) (env : Locals) (values frame : ℕ → ℕ) → base ≤ r → Stood ty r old v env values frame →
      Holds p types spots base env (tested wide values r) frame × Keeps base r old (tested wide values r)
  spare wide ty r old v env values frame le h = apart_tested p types spots base r le wide old env values frame (h.holds, h.keeps)

  converted_scalar : (t : IntType) (from : Ty) → IsConverted t from → IsScalar from
  converted_scalar t void h = absurd h
  converted_scalar t (int u) h = tt
  converted_scalar t (pointer u) h = tt
  converted_scalar t (array u m) h = absurd h
  converted_scalar t (struct k) h = absurd h

  -- an update gives the old value or the new one
  update_gives : (gives_old : Bool) (of : Ty) (old v : ℤ) (r pc end : ℕ) (after : ℤ → Locals → Behaviour) (env : Locals) (first values frame : ℕ → ℕ) →
      base ≤ r → IsScalar of → IsHeld (number_of of) old values (r + 2) → IsHeld (number_of of) v values (r + 6) →
      Stands code pc (move_code (is_wide (number_of of)) r (if gives_old then r + 2 else r + 6)) end → Holds p types spots base env values frame → Keeps base r first values →
      Behind of r end first after → Runs codes n (after (if gives_old then old else v) env) (here pc values frame)
  update_gives true of old v r pc end after env first values frame le scalar held_old held_new s h k next =
      moved_runs codes f rest labelled n p types spots base (is_wide (number_of of)) (number_of of) old r (r + 2) pc end (after old env) env first values frame refl le (λ e. omega (arith, e)) held_old s h k
      (λ values1 h1 k1 held1 _. next old env values1 frame (record { holds = h1; keeps = k1; is = as_result of old values1 r scalar held1 }))
  update_gives false of old v r pc end after env first values frame le scalar held_old held_new s h k next =
      moved_runs codes f rest labelled n p types spots base (is_wide (number_of of)) (number_of of) v r (r + 6) pc end (after v env) env first values frame refl le (λ e. omega (arith, e)) held_new s h k
      (λ values1 h1 k1 held1 _. next v env values1 frame (record { holds = h1; keeps = k1; is = as_result of v values1 r scalar held1 }))

  mutual
    pub place_runs : (place : Place) (r l pc end : ℕ) (after : Where → Locals → Behaviour) (env : Locals) (values frame : ℕ → ℕ) →
        base ≤ r → IsPlace p types place → Ready (place_derefs place) (place_calls place) → Stands code pc (place_code p types checks spots place r l) end → Holds p types spots base env values frame →
        BehindPlace place r end values after → Runs codes n (find p types calls place after env) (here pc values frame)
    place_runs (plain.object k) r l pc end after env values frame le typed ready s h next =
        object_runs codes f rest labelled n p types spots base (object_address (slice_get p.objects k)) (place_type p types (plain.object k)) r pc end after env values frame le
        (object_word p.structs objects_start p.objects k fits.formed.addresses) s h next
    place_runs (plain.local x) r l pc end after env values frame le typed ready s h next =
        local_runs codes f rest labelled n p types spots base (slice_get spots x) x r pc end after env values frame le refl typed s h next
    place_runs (plain.deref e t) r l pc end after env values frame le typed ready s h next =
        let s1 = split code pc end (expr_code p types checks spots e r l) (Help (first_check + check_of checks t) (r ∷ []) [] ∷ []) s in
        let one = All-head (λ u. check_of checks u < length checks) t (expr_derefs e) ready.checked in
        let inner : Ready (expr_derefs e) (expr_calls e) = record { checked = All-tail (λ u. check_of checks u < length checks) t (expr_derefs e) ready.checked; lower = ready.lower } in
        expr_runs e (pointer t) r l pc s1.0 (λ a. (if is_part p t (unsigned_abs a) then give (At (unsigned_abs a)) else fault 2) after) env values frame le typed.1 inner s1.1 h
        (λ a env1 values1 frame1 h1. checked_runs codes f rest labelled n p types spots base checks t a r s1.0 end after env1 values values1 frame1 le fits.checked one typed.0.1 h1.is s1.2 h1.holds h1.keeps next)
    place_runs (plain.index place e) r l pc end after env values frame le typed ready s h next =
        let whole : Ty = place_type p types place in
        let count : ℕ = count_of whole in
        let size : ℕ = size_of p (element_of whole) in
        let t = typed.2 in
        let c = two_ready (place_derefs place) (expr_derefs e) (place_calls place) (expr_calls e) ready in
        let s1 = split code pc end (place_code p types checks spots place r (l + 2)) _ s in
        let s2 = split code s1.0 end (expr_code p types checks spots e (r + 2) (l + 2 + place_labels place)) (element_code (held p types e) count size r l) s1.2 in
        place_runs place r (l + 2) pc s1.0 (λ w. value p types calls e (λ i. element count size w i after)) env values frame le typed.1 c.0 s1.1 h
        (λ w env1 values1 frame1 h1. expr_runs e (int t.0) (r + 2) (l + 2 + place_labels place) s1.0 s2.0 (λ i. element count size w i after) env1 values1 frame1 (omega arith) t.1 c.1 s2.1 h1.holds
        (λ i env2 values2 frame2 h2. element_runs codes f rest labelled n p types spots base (kind_at place) whole w (held p types e) i r l s2.0 end after env2 values values2 frame2 le typed.0 fits.lie
        (found_still p types spots (kind_at place) whole w values1 values2 r (h2.keeps.at r le (omega arith)) h1.found)
        (subst (λ u. IsHeld u i values2 (r + 2)) (sym (held_is e (int t.0) t.1)) h2.is) s2.2 h2.holds
        (keeps_on base r (r + 2) values values1 values2 (omega arith) h1.keeps h2.keeps) next))
    place_runs (plain.field place k) r l pc end after env values frame le typed ready s h next =
        let whole : Ty = place_type p types place in
        let s1 = split code pc end (place_code p types checks spots place r l) (Set (r + 2) (field_offset p.structs whole k) ∷ Bin Add r r (r + 2) ∷ []) s in
        place_runs place r l pc s1.0 (λ w. after (moved w (field_offset p.structs whole k))) env values frame le typed.1 ready s1.1 h
        (λ w env1 values1 frame1 h1. field_runs codes f rest labelled n p types spots base (kind_at place) whole k w r s1.0 end after env1 values values1 frame1 le fits.formed.structs fits.lie typed.0 h1.found s1.2 h1.holds h1.keeps next)

    pub args_runs : (es : Exprs) (ts : List Ty) (r l pc end : ℕ) (after : List ℤ → Locals → Behaviour) (env : Locals) (values frame : ℕ → ℕ) →
        base ≤ r → AllHave p types es ts → All IsScalar ts → Ready (exprs_derefs es) (exprs_calls es) → Stands code pc (args_code p types checks spots es r l) end → Holds p types spots base env values frame →
        BehindArgs es ts r end values after → Runs codes n (values_of p types calls es after env) (here pc values frame)
    args_runs no_exprs [] r l pc end after env values frame le typed scalars ready s h next =
        at_end codes f rest n (after [] env) pc end values frame s (next [] env values frame (record { holds = h; keeps = keeps_refl base r values; of = tt; pass = refl }))
    args_runs no_exprs (t ∷ ts) r l pc end after env values frame le typed scalars ready s h next = absurd typed
    args_runs (more_exprs e es) [] r l pc end after env values frame le typed scalars ready s h next = absurd typed
    args_runs (more_exprs e es) (t ∷ ts) r l pc end after env values frame le typed scalars ready s h next =
        let c = two_ready (expr_derefs e) (exprs_derefs es) (expr_calls e) (exprs_calls es) ready in
        let s1 = split code pc end (expr_code p types checks spots e r l) (args_code p types checks spots es (r + 2) (l + labels e)) s in
        let is = held_is e t typed.0 in
        let ins : List ℕ = passed_at p types checks spots es (r + 2) in
        let wide : Bool = is_wide (held p types e) in
        expr_runs e t r l pc s1.0 (λ v. values_of p types calls es (λ vs. after (v ∷ vs))) env values frame le typed.0 c.0 s1.1 h
        (λ v env1 values1 frame1 h1.
        let number = as_number t v values1 r (All-head IsScalar t ts scalars) h1.is in
        let held1 : IsHeld (held p types e) v values1 r = subst (λ u. IsHeld u v values1 r) (sym is) number in
        args_runs es ts (r + 2) (l + labels e) s1.0 end (λ vs. after (v ∷ vs)) env1 values1 frame1 (omega arith) typed.1 (All-tail IsScalar t ts scalars) c.1 s1.2 h1.holds
        (λ vs env2 values2 frame2 h2.
        let held2 = still base (held p types e) v r (r + 2) values1 values2 le (omega arith) h2.keeps held1 in
        next (v ∷ vs) env2 values2 frame2 (record {
          holds = h2.holds;
          keeps = keeps_on base r (r + 2) values values1 values2 (omega arith) h1.keeps h2.keeps;
          of = (number.number, h2.of);
          pass = map-append values2 (values_at wide r) ins ∙ ap (λ xs. xs ++ map values2 ins) (held_halves wide v values2 r held2.low_half held2.high_half)
              ∙ ap (λ u. halves_of (is_wide u) v ++ map values2 ins) is ∙ ap (λ xs. halves_of (is_wide (number_of t)) v ++ xs) h2.pass;
        })))

    pub expr_runs : (e : Expr) (ty : Ty) (r l pc end : ℕ) (after : ℤ → Locals → Behaviour) (env : Locals) (values frame : ℕ → ℕ) →
        base ≤ r → Has p types e ty → Ready (expr_derefs e) (expr_calls e) → Stands code pc (expr_code p types checks spots e r l) end → Holds p types spots base env values frame →
        Behind ty r end values after → Runs codes n (value p types calls e after env) (here pc values frame)
    expr_runs (plain.const t x) ty r l pc end after env values frame le typed ready s h next =
        const_runs codes f rest labelled n p types spots base t x r pc end after env values frame le typed.1 s h (subst (λ u. Behind u r end values after) typed.0 next)
    expr_runs plain.null ty r l pc end after env values frame le typed ready s h next =
        set_runs codes f rest labelled n p types spots base (after (pos 0) env) r 0 pc values frame s.0
        (at_end codes f rest n (after (pos 0) env) (pc + 1) end (put values r 0) frame s.1
        (next (pos 0) env (put values r 0) frame (record {
          holds = holds_put base p types spots env values frame r 0 le h;
          keeps = keeps_put base r r 0 values values (omega arith) (keeps_refl base r values);
          is = null_is ty typed values r;
        })))
    expr_runs (plain.bin op t a b) ty r l pc end after env values frame le typed ready s h next =
        let c = two_ready (expr_derefs a) (expr_derefs b) (expr_calls a) (expr_calls b) ready in
        let s1 = split code pc end (expr_code p types checks spots a r (l + 3)) _ s in
        let s2 = split code s1.0 end (expr_code p types checks spots b (r + 2) (l + 3 + labels a)) (binary_code op t (held p types b) r l) s1.2 in
        let second = second_of op t b typed.3 in
        expr_runs a (int t) r (l + 3) pc s1.0 (λ x. value p types calls b (λ y. or_fault 3 (binary op t x y) after)) env values frame le typed.2 c.0 s1.1 h
        (λ x env1 values1 frame1 h1. expr_runs b (int second.0) (r + 2) (l + 3 + labels a) s1.0 s2.0 (λ y. or_fault 3 (binary op t x y) after) env1 values1 frame1 (omega arith)
        second.1 c.1 s2.1 h1.holds
        (λ y env2 values2 frame2 h2.
        binary_runs codes f rest labelled n p types spots base op t (held p types b) x y r l s2.0 end after env2 values values2 frame2 typed.1 le
        (still base t x r (r + 2) values1 values2 le (omega arith) h2.keeps h1.is) (second.2 y values2 (r + 2) h2.is) s2.2 h2.holds
        (keeps_on base r (r + 2) values values1 values2 (omega arith) h1.keeps h2.keeps)
        (subst (λ u. Behind u r end values after) typed.0 next)))
    expr_runs (plain.port_in port) ty r l pc end after env values frame le typed ready s h next =
        wants codes n (action.In port) (λ x. after (pos x) env) _ (λ x. here (pc + 1) (put values r x) frame) (does codes f rest pc values frame (In r port) s.0)
        (λ x lt. at_end codes f rest n (after (pos x) env) (pc + 1) end (put values r x) frame s.1
        (subst (λ u. Behind u r end values after) typed.0 next (pos x) env (put values r x) frame (record {
          holds = holds_put base p types spots env values frame r x le h;
          keeps = keeps_put base r r x values values (omega arith) (keeps_refl base r values);
          is = narrow_at codes f rest labelled n p types spots base U16 (pos x) r x values refl (word_number x lt) (low_word x lt);
        })))
    expr_runs (plain.port_out port e) ty r l pc end after env values frame le typed ready s h next =
        let s1 = split code pc end (expr_code p types checks spots e r l) _ s in
        expr_runs e (int U16) r l pc s1.0 (λ v. λ env1. Does (action.Out port (residue 16 v)) (after v env1)) env values frame le typed.2 ready s1.1 h
        (λ v env1 values1 frame1 h1.
        let is : values1 r ≡ low v = h1.is.low_half in
        subst (λ z. Runs codes n (Does (action.Out port z) (after v env1)) (here s1.0 values1 frame1)) is
        (acts_on codes n (action.Out port (values1 r)) (after v env1) _ (here (s1.0 + 1) values1 frame1) (does codes f rest s1.0 values1 frame1 (Out port r) s1.2.0)
        (at_end codes f rest n (after v env1) (s1.0 + 1) end values1 frame1 s1.2.1
        (subst (λ u. Behind u r end values after) typed.0 next v env1 values1 frame1 (record { holds = h1.holds; keeps = h1.keeps; is = tt })))))
    expr_runs (plain.comma a b) ty r l pc end after env values frame le typed ready s h next =
        let c = two_ready (expr_derefs a) (expr_derefs b) (expr_calls a) (expr_calls b) ready in
        let s1 = split code pc end (expr_code p types checks spots a r l) (expr_code p types checks spots b r (l + labels a)) s in
        expr_runs a typed.0.0 r l pc s1.0 (λ x. value p types calls b after) env values frame le typed.0.1 c.0 s1.1 h
        (λ x env1 values1 frame1 h1. expr_runs b ty r (l + labels a) s1.0 end after env1 values1 frame1 le typed.1 c.1 s1.2 h1.holds
        (λ y env2 values2 frame2 h2. next y env2 values2 frame2 (record {
          holds = h2.holds;
          keeps = keeps_on base r r values values1 values2 (omega arith) h1.keeps h2.keeps;
          is = h2.is;
        })))
    expr_runs (plain.un un.IsZero t e) ty r l pc end after env values frame le typed ready s h next =
        let s1 = split code pc end (expr_code p types checks spots e r (l + 2)) _ s in
        expr_runs e (int t) r (l + 2) pc s1.0 (λ x. after (truth (is_zero x))) env values frame le typed.2 ready s1.1 h
        (λ x env1 values1 frame1 h1. zero_truth_runs codes f rest labelled n p types spots base (is_wide t) t x r l s1.0 end after env1 values values1 frame1 le refl h1.is s1.2 h1.holds h1.keeps
        (subst (λ u. Behind u r end values after) typed.0 next))
    expr_runs (plain.un un.Neg t e) ty r l pc end after env values frame le typed ready s h next =
        let s1 = split code pc end (expr_code p types checks spots e r (l + 2)) _ s in
        expr_runs e (int t) r (l + 2) pc s1.0 (λ x. after (unary un.Neg t x)) env values frame le typed.2 ready s1.1 h
        (λ x env1 values1 frame1 h1. negated_runs codes f rest labelled n p types spots base t x r l s1.0 end after env1 values values1 frame1 typed.1 le h1.is s1.2 h1.holds h1.keeps
        (subst (λ u. Behind u r end values after) typed.0 next))
    expr_runs (plain.un un.Not t e) ty r l pc end after env values frame le typed ready s h next =
        let s1 = split code pc end (expr_code p types checks spots e r (l + 2)) _ s in
        expr_runs e (int t) r (l + 2) pc s1.0 (λ x. after (unary un.Not t x)) env values frame le typed.2 ready s1.1 h
        (λ x env1 values1 frame1 h1. turned_runs codes f rest labelled n p types spots base t x r l s1.0 end after env1 values values1 frame1 typed.1 le h1.is s1.2 h1.holds h1.keeps
        (subst (λ u. Behind u r end values after) typed.0 next))
    expr_runs (plain.post k) ty r l pc end after env values frame le typed ready s h next =
        wants codes n (action.Post k) (λ x. after (wrapped U8 (pos x)) env) _ (λ x. here (pc + 1) (put values r x) frame) (does codes f rest pc values frame (Post k r) s.0)
        (λ x lt. byte_runs codes f rest labelled n p types spots base (pos x) x r (pc + 1) end after env values (put values r x) frame le (put_same values r x) (low_byte x) s.1
        (holds_put base p types spots env values frame r x le h) (keeps_put base r r x values values (omega arith) (keeps_refl base r values))
        (subst (λ u. Behind u r end values after) typed.0 next))
    expr_runs (plain.both a b) ty r l pc end after env values frame le typed ready s h next =
        let c = two_ready (expr_derefs a) (expr_derefs b) (expr_calls a) (expr_calls b) ready in
        let next_int : Behind (int I16) r end values after = subst (λ u. Behind u r end values after) typed.0 next in
        let s1 = split code pc end (expr_code p types checks spots a r (l + 2)) _ s in
        let s2 = split code s1.0 end (zero_code test.Eq (is_wide (held p types a)) r l) _ s1.2 in
        let s3 = split code s2.0 end (expr_code p types checks spots b r (l + 2 + labels a)) _ s2.2 in
        let s4 = split code s3.0 end (zero_code test.Eq (is_wide (held p types b)) r l) (Set r 1 ∷ Jump (l + 1) ∷ Label l ∷ Set r 0 ∷ Label (l + 1) ∷ []) s3.2 in
        let to : ℕ = s4.0 + 1 + 1 in
        let tail = s4.2.1.1 in
        let ta = typed.1 in
        let tb = typed.2 in
        let second : Work ℤ = λ k. value p types calls b (λ y. k (truth (not (is_zero y)))) in
        expr_runs a ta.0 r (l + 2) pc s1.0 (λ x. (if is_zero x then give (pos 0) else second) after) env values frame le ta.2 c.0 s1.1 h
        (λ x env1 values1 frame1 h1.
        let ha = as_number ta.0 x values1 r ta.1 h1.is in
        let na = width_is a ta.0 ta.2 in
        let wa : Bool = is_wide (held p types a) in
        by_zero (is_zero x) x (give (pos 0)) second after env1 _ refl
        (λ e. zero_test_runs codes f rest labelled n p types spots base wa true (number_of ta.0) x (after (pos 0) env1) r l s1.0 s2.0 to values1 frame1 na ha e s2.1 tail.0
        (λ _. let sp = spare wa ta.0 r values x env1 values1 frame1 le h1 in
        last_runs codes f rest labelled n p types spots base 0 l to end r (pos 0) after env1 values (tested wa values1 r) frame1 le refl refl tail sp.0 sp.1 next_int)
        (λ q. absurd (cc)))
        (λ e. zero_test_runs codes f rest labelled n p types spots base wa false (number_of ta.0) x (second after env1) r l s1.0 s2.0 to values1 frame1 na ha e s2.1 tail.0
        (λ q. absurd (cc))
        (λ _. let sp = spare wa ta.0 r values x env1 values1 frame1 le h1 in
        expr_runs b tb.0 r (l + 2 + labels a) s2.0 s3.0 (λ y. after (truth (not (is_zero y)))) env1 (tested wa values1 r) frame1 le tb.2 c.1 s3.1 sp.0
        (λ y env2 values2 frame2 h2.
        let hb = as_number tb.0 y values2 r tb.1 h2.is in
        let nb = width_is b tb.0 tb.2 in
        let wb : Bool = is_wide (held p types b) in
        let sq = spare wb tb.0 r (tested wa values1 r) y env2 values2 frame2 le h2 in
        let kept = keeps_on base r r values (tested wa values1 r) (tested wb values2 r) (omega arith) sp.1 sq.1 in
        by_truth (is_zero y) y after env2 _ refl
        (λ e2. zero_test_runs codes f rest labelled n p types spots base wb true (number_of tb.0) y (after (pos 0) env2) r l s3.0 s4.0 to values2 frame2 nb hb e2 s4.1 tail.0
        (λ _. last_runs codes f rest labelled n p types spots base 0 l to end r (pos 0) after env2 values (tested wb values2 r) frame2 le refl refl tail sq.0 kept next_int)
        (λ q. absurd (cc)))
        (λ e2. zero_test_runs codes f rest labelled n p types spots base wb false (number_of tb.0) y (after (pos 1) env2) r l s3.0 s4.0 to values2 frame2 nb hb e2 s4.1 tail.0
        (λ q. absurd (cc))
        (λ _. first_runs codes f rest labelled n p types spots base 1 0 l s4.0 end r (pos 1) after env2 values (tested wb values2 r) frame2 le refl refl s4.2 sq.0 kept next_int))))))
    expr_runs (plain.convert t e) ty r l pc end after env values frame le typed ready s h next =
        let s1 = split code pc end (expr_code p types checks spots e r (l + 1)) (convert_code (held p types e) t r l) s in
        let from = typed.1 in
        expr_runs e from.0 r (l + 1) pc s1.0 (λ x. after (wrapped t x)) env values frame le from.1.1 ready s1.1 h
        (λ x env1 values1 frame1 h1.
        let held1 = as_number from.0 x values1 r (converted_scalar t from.0 from.1.0) h1.is in
        converted_runs codes f rest labelled n p types spots base t (held p types e) x r l s1.0 end after env1 values values1 frame1 le
        (subst (λ u. IsHeld u x values1 r) (sym (held_is e from.0 from.1.1)) held1) s1.2 h1.holds h1.keeps
        (subst (λ u. Behind u r end values after) typed.0 next))
    expr_runs (plain.choice question a b) ty r l pc end after env values frame le typed ready s h next =
        let c = two_ready (expr_derefs question ++ expr_derefs a) (expr_derefs b) (expr_calls question ++ expr_calls a) (expr_calls b) ready in
        let d = two_ready (expr_derefs question) (expr_derefs a) (expr_calls question) (expr_calls a) c.0 in
        let s1 = split code pc end (expr_code p types checks spots question r (l + 2)) _ s in
        let s2 = split code s1.0 end (zero_code test.Eq (is_wide (held p types question)) r l) _ s1.2 in
        let s3 = split code s2.0 end (expr_code p types checks spots a r (l + 2 + labels question)) (Jump (l + 1) ∷ Label l ∷ (expr_code p types checks spots b r (l + 2 + labels question + labels a) ++ Label (l + 1) ∷ [])) s2.2 in
        let s4 = split code (s3.0 + 1 + 1) end (expr_code p types checks spots b r (l + 2 + labels question + labels a)) (Label (l + 1) ∷ []) s3.2.1.1 in
        let tt0 = typed.0 in
        expr_runs question tt0.0 r (l + 2) pc s1.0 (λ x. (if is_zero x then value p types calls b else value p types calls a) after) env values frame le tt0.2 d.0 s1.1 h
        (λ x env1 values1 frame1 h1.
        let ht = as_number tt0.0 x values1 r tt0.1 h1.is in
        let nt = width_is question tt0.0 tt0.2 in
        let wt : Bool = is_wide (held p types question) in
        let sp = spare wt tt0.0 r values x env1 values1 frame1 le h1 in
        let joined : (v : ℤ) (env2 : Locals) (values2 frame2 : ℕ → ℕ) → Stood ty r (tested wt values1 r) v env2 values2 frame2 → Runs codes n (after v env2) (here s4.0 values2 frame2) =
        λ v env2 values2 frame2 h2. label_runs codes f rest labelled n p types spots base (after v env2) (l + 1) s4.0 values2 frame2 s4.2.0
        (at_end codes f rest n (after v env2) (s4.0 + 1) end values2 frame2 s4.2.1
        (next v env2 values2 frame2 (record { holds = h2.holds; keeps = keeps_on base r r values (tested wt values1 r) values2 (omega arith) sp.1 h2.keeps; is = h2.is }))) in
        by_zero (is_zero x) x (value p types calls b) (value p types calls a) after env1 _ refl
        (λ e. zero_test_runs codes f rest labelled n p types spots base wt true (number_of tt0.0) x (value p types calls b after env1) r l s1.0 s2.0 (s3.0 + 1) values1 frame1 nt ht e s2.1 s3.2.1.0
        (λ _. label_runs codes f rest labelled n p types spots base (value p types calls b after env1) l (s3.0 + 1) (tested wt values1 r) frame1 s3.2.1.0
        (expr_runs b ty r (l + 2 + labels question + labels a) (s3.0 + 1 + 1) s4.0 after env1 (tested wt values1 r) frame1 le typed.2 c.1 s4.1 sp.0 joined))
        (λ q. absurd (cc)))
        (λ e. zero_test_runs codes f rest labelled n p types spots base wt false (number_of tt0.0) x (value p types calls a after env1) r l s1.0 s2.0 (s3.0 + 1) values1 frame1 nt ht e s2.1 s3.2.1.0
        (λ q. absurd (cc))
        (λ _. expr_runs a ty r (l + 2 + labels question) s2.0 s3.0 after env1 (tested wt values1 r) frame1 le typed.1 d.1 s3.1 sp.0
        (λ v env2 values2 frame2 h2. jump_runs codes f rest labelled n (after v env2) (l + 1) s3.0 s4.0 values2 frame2 s3.2.0 s4.2.0 (joined v env2 values2 frame2 h2)))))
    expr_runs (plain.either a b) ty r l pc end after env values frame le typed ready s h next =
        let c = two_ready (expr_derefs a) (expr_derefs b) (expr_calls a) (expr_calls b) ready in
        let next_int : Behind (int I16) r end values after = subst (λ u. Behind u r end values after) typed.0 next in
        let s1 = split code pc end (expr_code p types checks spots a r (l + 2)) _ s in
        let s2 = split code s1.0 end (zero_code test.Ne (is_wide (held p types a)) r l) _ s1.2 in
        let s3 = split code s2.0 end (expr_code p types checks spots b r (l + 2 + labels a)) _ s2.2 in
        let s4 = split code s3.0 end (zero_code test.Ne (is_wide (held p types b)) r l) (truth_code r l) s3.2 in
        let to : ℕ = s4.0 + 1 + 1 in
        let tail = s4.2.1.1 in
        let ta = typed.1 in
        let tb = typed.2 in
        let second : Work ℤ = λ k. value p types calls b (λ y. k (truth (not (is_zero y)))) in
        expr_runs a ta.0 r (l + 2) pc s1.0 (λ x. (if is_zero x then second else give (pos 1)) after) env values frame le ta.2 c.0 s1.1 h
        (λ x env1 values1 frame1 h1.
        let ha = as_number ta.0 x values1 r ta.1 h1.is in
        let na = width_is a ta.0 ta.2 in
        let wa : Bool = is_wide (held p types a) in
        let sp = spare wa ta.0 r values x env1 values1 frame1 le h1 in
        by_zero (is_zero x) x second (give (pos 1)) after env1 _ refl
        (λ e. non_zero_test_runs codes f rest labelled n p types spots base wa false (number_of ta.0) x (second after env1) r l s1.0 s2.0 to values1 frame1 na ha (ap not e) s2.1 tail.0
        (λ q. absurd (cc))
        (λ _. expr_runs b tb.0 r (l + 2 + labels a) s2.0 s3.0 (λ y. after (truth (not (is_zero y)))) env1 (tested wa values1 r) frame1 le tb.2 c.1 s3.1 sp.0
        (λ y env2 values2 frame2 h2.
        let hb = as_number tb.0 y values2 r tb.1 h2.is in
        let nb = width_is b tb.0 tb.2 in
        let wb : Bool = is_wide (held p types b) in
        let sq = spare wb tb.0 r (tested wa values1 r) y env2 values2 frame2 le h2 in
        let kept = keeps_on base r r values (tested wa values1 r) (tested wb values2 r) (omega arith) sp.1 sq.1 in
        by_truth (is_zero y) y after env2 _ refl
        (λ e2. non_zero_test_runs codes f rest labelled n p types spots base wb false (number_of tb.0) y (after (pos 0) env2) r l s3.0 s4.0 to values2 frame2 nb hb (ap not e2) s4.1 tail.0
        (λ q. absurd (cc))
        (λ _. first_runs codes f rest labelled n p types spots base 0 1 l s4.0 end r (pos 0) after env2 values (tested wb values2 r) frame2 le refl refl s4.2 sq.0 kept next_int))
        (λ e2. non_zero_test_runs codes f rest labelled n p types spots base wb true (number_of tb.0) y (after (pos 1) env2) r l s3.0 s4.0 to values2 frame2 nb hb (ap not e2) s4.1 tail.0
        (λ _. last_runs codes f rest labelled n p types spots base 1 l to end r (pos 1) after env2 values (tested wb values2 r) frame2 le refl refl tail sq.0 kept next_int)
        (λ q. absurd (cc))))))
        (λ e. non_zero_test_runs codes f rest labelled n p types spots base wa true (number_of ta.0) x (after (pos 1) env1) r l s1.0 s2.0 to values1 frame1 na ha (ap not e) s2.1 tail.0
        (λ _. last_runs codes f rest labelled n p types spots base 1 l to end r (pos 1) after env1 values (tested wa values1 r) frame1 le refl refl tail sp.0 sp.1 next_int)
        (λ q. absurd (cc))))
    expr_runs (plain.read place at) ty r l pc end after env values frame le typed ready s h next =
        let of : Ty = place_type p types place in
        let s1 = split code pc end (place_code p types checks spots place r l) (fetch_code (kind_at place) (number_of of) r r) s in
        place_runs place r l pc s1.0 (λ w. load of w after) env values frame le typed.2 ready s1.1 h
        (λ w env1 values1 frame1 h1. fetched_runs codes f rest labelled n p types spots base (kind_at place) of w r r s1.0 end after env1 values values1 frame1
        (subst IsScalar typed.0 typed.1) fits.lie le (omega arith) h1.found s1.2 h1.holds h1.keeps (subst (λ u. Behind u r end values after) typed.0 next))
    expr_runs (plain.addr place) ty r l pc end after env values frame le typed ready s h next =
        let of : Ty = place_type p types place in
        let s1 = split code pc end (place_code p types checks spots place r l) (address_code (kind_at place) r) s in
        place_runs place r l pc s1.0 (λ w. after (pos (address_of w))) env values frame le typed.2 ready s1.1 h
        (λ w env1 values1 frame1 h1. address_runs codes f rest labelled n p types spots base (kind_at place) of w of r s1.0 end after env1 values values1 frame1 le h1.found s1.2 h1.holds h1.keeps
        (subst (λ u. Behind u r end values after) typed.0 next))
    expr_runs (plain.offset a b size) ty r l pc end after env values frame le typed ready s h next =
        let c = two_ready (expr_derefs a) (expr_derefs b) (expr_calls a) (expr_calls b) ready in
        let t = typed.2 in
        let s1 = split code pc end (expr_code p types checks spots a r l) _ s in
        let s2 = split code s1.0 end (expr_code p types checks spots b (r + 2) (l + labels a)) (offset_code size r) s1.2 in
        let z : ℤ → ℤ → ℤ = λ x y. wrapped U16 (x +ℤ y *ℤ pos size) in
        expr_runs a ty r l pc s1.0 (λ x. value p types calls b (λ y. after (z x y))) env values frame le typed.1 c.0 s1.1 h
        (λ x env1 values1 frame1 h1. expr_runs b (int t.0) (r + 2) (l + labels a) s1.0 s2.0 (λ y. after (z x y)) env1 values1 frame1 (omega arith) t.1 c.1 s2.1 h1.holds
        (λ y env2 values2 frame2 h2.
        offset_runs codes f rest labelled n p types spots base x y t.0 size r s2.0 end (after (z x y) env2) env2 values values2 frame2 le
        (still base U16 x r (r + 2) values1 values2 le (omega arith) h2.keeps (stepped_held p.structs size ty x values1 r typed.0 h1.is)) h2.is s2.2 h2.holds
        (keeps_on base r (r + 2) values values1 values2 (omega arith) h1.keeps h2.keeps)
        (λ values3 frame3 h3 k3 held3. next (z x y) env2 values3 frame3 (record { holds = h3; keeps = k3; is = stepped_result p.structs size ty (z x y) values3 r typed.0 held3 }))))
    expr_runs (plain.distance a b size) ty r l pc end after env values frame le typed ready s h next =
        let c = two_ready (expr_derefs a) (expr_derefs b) (expr_calls a) (expr_calls b) ready in
        let of = typed.1 in
        let few = step_small p.structs size of.0 of.1.0 in
        let s1 = split code pc end (expr_code p types checks spots a r l) _ s in
        let s2 = split code s1.0 end (expr_code p types checks spots b (r + 2) (l + labels a)) (distance_code size r) s1.2 in
        let z : ℤ → ℤ → ℤ = λ x y. int_div (wrapped I16 (x -ℤ y)) (pos size) in
        let next_int : Behind (int I16) r end values after = subst (λ u. Behind u r end values after) typed.0 next in
        expr_runs a of.0 r l pc s1.0 (λ x. value p types calls b (λ y. after (z x y))) env values frame le of.1.1 c.0 s1.1 h
        (λ x env1 values1 frame1 h1. expr_runs b of.0 (r + 2) (l + labels a) s1.0 s2.0 (λ y. after (z x y)) env1 values1 frame1 (omega arith) of.1.2 c.1 s2.1 h1.holds
        (λ y env2 values2 frame2 h2.
        distance_runs codes f rest labelled n p types spots base x y size r s2.0 end (after (z x y) env2) env2 values values2 frame2 le few.0 few.1
        (still base U16 x r (r + 2) values1 values2 le (omega arith) h2.keeps (stepped_held p.structs size of.0 x values1 r of.1.0 h1.is))
        (stepped_held p.structs size of.0 y values2 (r + 2) of.1.0 h2.is) s2.2 h2.holds
        (keeps_on base r (r + 2) values values1 values2 (omega arith) h1.keeps h2.keeps)
        (λ values3 frame3 h3 k3 held3. next_int (z x y) env2 values3 frame3 (record { holds = h3; keeps = k3; is = held3 }))))
    expr_runs (plain.assign place e at) ty r l pc end after env values frame le typed ready s h next =
        let of : Ty = place_type p types place in
        let t : IntType = number_of of in
        let scalar = subst IsScalar typed.0 typed.1 in
        let c = two_ready (place_derefs place) (expr_derefs e) (place_calls place) (expr_calls e) ready in
        let s1 = split code pc end (place_code p types checks spots place r l) _ s in
        let s2 = split code s1.0 end (expr_code p types checks spots e (r + 2) (l + place_labels place)) _ s1.2 in
        let s3 = split code s2.0 end (put_code (kind_at place) t (r + 2) r) (move_code (is_wide t) r (r + 2)) s2.2 in
        place_runs place r l pc s1.0 (λ w. value p types calls e (λ v. store of w v (λ _. after v))) env values frame le typed.2 c.0 s1.1 h
        (λ w env1 values1 frame1 h1. expr_runs e of (r + 2) (l + place_labels place) s1.0 s2.0 (λ v. store of w v (λ _. after v)) env1 values1 frame1 (omega arith)
        (subst (λ u. Has p types e u) typed.0 typed.3) c.1 s2.1 h1.holds
        (λ v env2 values2 frame2 h2.
        let number = as_number of v values2 (r + 2) scalar h2.is in
        written_runs codes f rest labelled n p types spots base (kind_at place) of w v (r + 2) r s2.0 s3.0 (after v) env2 values values2 frame2 scalar fits.lie le (omega arith)
        (found_still p types spots (kind_at place) of w values1 values2 r (h2.keeps.at r le (omega arith)) h1.found) number s3.1 h2.holds
        (keeps_on base r (r + 2) values values1 values2 (omega arith) h1.keeps h2.keeps)
        (λ env3 values3 frame3 h3 k3 far.
        moved_runs codes f rest labelled n p types spots base (is_wide t) t v r (r + 2) s3.0 end (after v env3) env3 values values3 frame3 refl le (λ e. omega (arith, e))
        (held_there t v values2 values3 (r + 2) (far (r + 2) (omega arith)) (far (r + 2 + 1) (omega arith)) number) s3.2 h3 k3
        (λ values4 h4 k4 held4 _. subst (λ u. Behind u r end values after) typed.0 next v env3 values4 frame3 (record { holds = h4; keeps = k4; is = as_result of v values4 r scalar held4 })))))
    expr_runs (plain.update place op t e gives_old at) ty r l pc end after env values frame le typed ready s h next =
        let of : Ty = place_type p types place in
        let nt : IntType = number_of of in
        let updated = subst (IsUpdated op t) typed.0 typed.1 in
        let scalar = updated_scalar op t of updated in
        let promoted = updated_promoted op t of updated in
        let second = second_of op t e typed.3 in
        let se : IntType = held p types e in
        let same : se ≡ second.0 = held_is e (int second.0) second.1 in
        let c = two_ready (place_derefs place) (expr_derefs e) (place_calls place) (expr_calls e) ready in
        let s1 = split code pc end (place_code p types checks spots place r (l + 5)) _ s in
        let s2 = split code s1.0 end (fetch_code (kind_at place) nt (r + 2) r) _ s1.2 in
        let s3 = split code s2.0 end (expr_code p types checks spots e (r + 4) (l + 5 + place_labels place)) _ s2.2 in
        let s4 = split code s3.0 end (move_code (is_wide nt) (r + 6) (r + 2)) _ s3.2 in
        let s5 = split code s4.0 end (convert_code nt t (r + 6) l) _ s4.2 in
        let s6 = split code s5.0 end (move_code (is_wide se) (r + 8) (r + 4)) _ s5.2 in
        let s7 = split code s6.0 end (binary_code op t se (r + 6) (l + 1)) _ s6.2 in
        let s8 = split code s7.0 end (convert_code t nt (r + 6) (l + 4)) _ s7.2 in
        let s9 = split code s8.0 end (put_code (kind_at place) nt (r + 6) r) (move_code (is_wide nt) r (if gives_old then r + 2 else r + 6)) s8.2 in
        let last : ℤ → ℤ → Locals → Behaviour = λ old z. after (if gives_old then old else wrapped nt z) in
        let kept : Where → ℤ → ℤ → Locals → Behaviour = λ w old z. store of w (wrapped nt z) (λ _. last old z) in
        let operated : Where → ℤ → ℤ → ℤ → Locals → Behaviour = λ w old y x. or_fault 3 (binary op t x y) (kept w old) in
        place_runs place r (l + 5) pc s1.0 (λ w. load of w (λ old. value p types calls e (λ y. operated w old y (wrapped t old)))) env values frame le typed.2 c.0 s1.1 h
        (λ w env1 values1 frame1 h1.
        fetched_runs codes f rest labelled n p types spots base (kind_at place) of w (r + 2) r s1.0 s2.0 (λ old. value p types calls e (λ y. operated w old y (wrapped t old))) env1 values1 values1 frame1
        scalar fits.lie (omega arith) (omega arith) h1.found s2.1 h1.holds (keeps_refl base (r + 2) values1)
        (λ old env2 values2 frame2 h2.
        let old2 = as_number of old values2 (r + 2) scalar h2.is in
        expr_runs e (int second.0) (r + 4) (l + 5 + place_labels place) s2.0 s3.0 (λ y. operated w old y (wrapped t old)) env2 values2 frame2 (omega arith) second.1 c.1 s3.1 h2.holds
        (λ y env3 values3 frame3 h3.
        let old3 = still base nt old (r + 2) (r + 4) values2 values3 (omega arith) (omega arith) h3.keeps old2 in
        moved_runs codes f rest labelled n p types spots base (is_wide nt) nt old (r + 6) (r + 2) s3.0 s4.0 (operated w old y (wrapped t old) env3) env3 values3 values3 frame3 refl (omega arith) (λ e. omega (arith, e)) old3 s4.1
        h3.holds (keeps_refl base (r + 6) values3)
        (λ values4 h4 k4 old4 _.
        converted_runs codes f rest labelled n p types spots base t nt old (r + 6) l s4.0 s5.0 (operated w old y) env3 values3 values4 frame3 (omega arith) old4 s5.1 h4 k4
        (λ x env5 values5 frame5 h5.
        let y5 : IsHeld se y values5 (r + 4) = still base se y (r + 4) (r + 6) values3 values5 (omega arith) (omega arith) h5.keeps (subst (λ u. IsHeld u y values3 (r + 4)) (sym same) h3.is) in
        moved_runs codes f rest labelled n p types spots base (is_wide se) se y (r + 8) (r + 4) s5.0 s6.0 (operated w old y x env5) env5 values5 values5 frame5 refl (omega arith) (λ e. omega (arith, e)) y5 s6.1
        h5.holds (keeps_refl base (r + 8) values5)
        (λ values6 h6 k6 y6 _.
        let eight : r + 8 ≡ r + 6 + 2 = omega arith in
        let y6_second : IsHeld second.0 y values6 (r + 6 + 2) = subst (λ u. IsHeld second.0 y values6 u) eight (subst (λ u. IsHeld u y values6 (r + 8)) same y6) in
        binary_runs codes f rest labelled n p types spots base op t se x y (r + 6) (l + 1) s6.0 s7.0 (kept w old) env5 values6 values6 frame5 promoted (omega arith)
        (still base t x (r + 6) (r + 8) values5 values6 (omega arith) (omega arith) k6 h5.is) (second.2 y values6 (r + 6 + 2) y6_second) s7.1 h6 (keeps_refl base (r + 6) values6)
        (λ z env7 values7 frame7 h7.
        let z7 : IsHeld t z values7 (r + 6) = subst (λ u. IsHeld u z values7 (r + 6)) (updated_type op t (updates_of op t of updated)) h7.is in
        converted_runs codes f rest labelled n p types spots base nt t z (r + 6) (l + 4) s7.0 s8.0 (λ v. store of w v (λ _. after (if gives_old then old else v))) env7 values7 values7 frame7 (omega arith) z7 s8.1 h7.holds (keeps_refl base (r + 6) values7)
        (λ v env8 values8 frame8 h8.
        let after_place : Keeps base (r + 2) values1 values8 =
        keeps_on base (r + 2) (r + 6) values1 values7 values8 (omega arith) (keeps_on base (r + 2) (r + 6) values1 values6 values7 (omega arith) (keeps_on base (r + 2) (r + 8) values1 values5 values6 (omega arith)
        (keeps_on base (r + 2) (r + 6) values1 values3 values5 (omega arith) (keeps_on base (r + 2) (r + 4) values1 values2 values3 (omega arith) h2.keeps h3.keeps) h5.keeps) k6) h7.keeps) h8.keeps in
        let after_old : Keeps base (r + 4) values3 values8 =
        keeps_on base (r + 4) (r + 6) values3 values7 values8 (omega arith) (keeps_on base (r + 4) (r + 6) values3 values6 values7 (omega arith) (keeps_on base (r + 4) (r + 8) values3 values5 values6 (omega arith)
        (keeps_on base (r + 4) (r + 6) values3 values3 values5 (omega arith) (keeps_refl base (r + 4) values3) h5.keeps) k6) h7.keeps) h8.keeps in
        let old8 = still base nt old (r + 2) (r + 4) values3 values8 (omega arith) (omega arith) after_old old3 in
        written_runs codes f rest labelled n p types spots base (kind_at place) of w v (r + 6) r s8.0 s9.0 (after (if gives_old then old else v)) env8 values values8 frame8 scalar fits.lie le (omega arith)
        (found_still p types spots (kind_at place) of w values1 values8 r (after_place.at r le (omega arith)) h1.found) h8.is s9.1 h8.holds
        (keeps_on base r (r + 2) values values1 values8 (omega arith) h1.keeps after_place)
        (λ env9 values9 frame9 h9 k9 far.
        update_gives gives_old of old v r s9.0 end after env9 values values9 frame9 le scalar
        (held_there nt old values8 values9 (r + 2) (far (r + 2) (omega arith)) (far (r + 2 + 1) (omega arith)) old8)
        (held_there nt v values8 values9 (r + 6) (far (r + 6) (omega arith)) (far (r + 6 + 1) (omega arith)) h8.is) s9.2 h9 k9
        (subst (λ u. Behind u r end values after) typed.0 next))))))))))
    expr_runs (plain.call g arguments at) ty r l pc end after env values frame le typed ready s h next =
        let b = callable_body (slice_get p.bodies g) (AllHave p types arguments) ty typed in
        let formed = body_formed p g b.0 fits.formed b.1 in
        let lower = All-head (λ k. rank k < below) g (exprs_calls arguments) ready.lower in
        let inner : Ready (exprs_derefs arguments) (exprs_calls arguments) = record { checked = ready.checked; lower = All-tail (λ k. rank k < below) g (exprs_calls arguments) ready.lower } in
        let ins : List ℕ = passed_at p types checks spots arguments r in
        let s1 = split code pc end (args_code p types checks spots arguments r l) (Tick ∷ Call g ins (taken_at (result_of (slice_get p.bodies g)) r) ∷ Tick ∷ []) s in
        let s2 = subst (λ o. Stands code s1.0 (Tick ∷ Call g ins (taken_at (result_of o) r) ∷ Tick ∷ []) end) b.1 s1.2 in
        args_runs arguments (take b.0.params b.0.locals) r l pc s1.0 (λ vs env1. Does action.Tick (calls g vs (λ v. Does action.Tick (after v env1)))) env values frame le b.3 formed.passed inner s1.1 h
        (λ vs env1 values1 frame1 h1.
        call_runs codes f rest labelled n p types spots base rank below calls calls_run g b.0 vs ins r s1.0 end after env1 values values1 frame1 le b.1 formed lower h1.of h1.pass s2 h1.holds h1.keeps
        (subst (λ u. Behind u r end values after) b.2 next))
