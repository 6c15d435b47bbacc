-- What middle code that keeps the rules of form lets selection rely on.
use Rattle.std.proofs.Common.{◌≡◌, ◌⊎◌, ℕ, ◌+◌, ◌/◌, ◌%◌, ◌<◌, ◌≤◌, Bool, true, false, nat_lt, cond, List, [], ◌∷◌, length, Option, Some, None, All, refl, subst, arith}
use mathlib.Core.Logic.{inl, inr}
use Rattle.std.specs.Prelude.{slice_index_or}
use Rattle.std.proofs.lemmas.Bool.{cases_lt, ne_eqb}
use Rattle.std.proofs.lemmas.List.Elements.{All-get_or, All-head, All-tail}
use Rattle.nm_base.specs.declared.int_type.IntType.{IntType}
use Rattle.nm_base.specs.declared.int_type.IntType.TheVariants.{I8, U8, I16, U16, I32, U32}
use Rattle.mid_code.specs.declared.help.HelpOp.{HelpOp}
use Rattle.mid_code.specs.declared.code.MidCode.{MidCode}
use Rattle.mid_code.specs.declared.code.MidFn.{MidFn}
use Rattle.mid_code.specs.declared.instr.Mid.{Mid}
use Rattle.mid_code.specs.declared.instr.Mid.TheVariants.{Set, Move, Bin, Carry, Load, Store, Peek, Poke, In, Out, Label, Jump, Branch, Call, Help, Ret, Begin, End, Post, Tick, Fault}
use Rattle.mid_code.specs.Form.{AreBelow, FitsProgram, IsMidFn, KindFits, NamesOwn, OperationFits, passed_to}
use Rattle.mid_code.specs.Help.{first_check, is_shift, operation_at, places, type_at}
use Rattle.mid_code.specs.Machine.{fn_of, no_fn}
use Rattle.select_emitter.specs.Code.{CanBeSelected, IsSmall}
use Rattle.select_emitter.specs.Scoped.{Fits, HasPlace}

module _ (c : MidCode) (can : CanBeSelected c) (f : ℕ) (lt : f < length c.fns) where
  own_form : IsMidFn (fn_of c f)
  own_form = All-get_or IsMidFn c.fns f no_fn lt can.form.fns

  pub own_params : AreBelow (fn_of c f).values (fn_of c f).params
  own_params = own_form.params

  pub own_small : IsSmall (fn_of c f)
  own_small = All-get_or IsSmall c.fns f no_fn lt can.small

-- ---- instructions

no_type : (n : ℕ) → 6 ≤ n → type_at n ≡ None
no_type n le = rw (ne_eqb n 0 (λ e. omega (arith, e, le)), ne_eqb n 1 (λ e. omega (arith, e, le)), ne_eqb n 2 (λ e. omega (arith, e, le)), ne_eqb n 3 (λ e. omega (arith, e, le)), ne_eqb n 4 (λ e. omega (arith, e, le)), ne_eqb n 5 (λ e. omega (arith, e, le))) refl

places_few : (t : IntType) → places t ≤ 2
places_few I8 = omega arith
places_few U8 = omega arith
places_few I16 = omega arith
places_few U16 = omega arith
places_few I32 = omega arith
places_few U32 = omega arith

passed_few : (o : HelpOp) (t : IntType) → passed_to o t ≤ 4
passed_few o t = by (is_shift o) (places_few t)
  where
    by : (b : Bool) → places t ≤ 2 → places t + cond b 1 (places t) ≤ 4
    by true h = omega (arith, h)
    by false h = omega (arith, h)

operation_few : (t : Option IntType) (o : Option HelpOp) (ins outs : ℕ) → OperationFits t o ins outs → (ins ≤ 4) × (outs ≤ 4)
operation_few None o ins outs h = absurd h
operation_few (Some t) None ins outs h = absurd h
operation_few (Some t) (Some o) ins outs h =
    let a = passed_few o t in let b = places_few t in let i = h.0 in let j = h.1 in (omega (arith, a, i), omega (arith, b, j))

kind_fits : (is_operation : Bool) (checks h ins outs : ℕ) → KindFits is_operation checks h ins outs → HasPlace is_operation checks h × (ins ≤ 4) × (outs ≤ 4)
kind_fits true checks h ins outs k =
    let few = operation_few (type_at (h / 8)) (operation_at (h % 8)) ins outs k in (by (cases_lt (h / 8) 6), few.0, few.1)
  where
    by : (h / 8 < 6) ⊎ (6 ≤ h / 8) → h < 48
    by (inl l) = omega (arith, l)
    by (inr l) = absurd (none (subst (λ t. OperationFits t (operation_at (h % 8)) ins outs) (no_type (h / 8) l) k))
      where
        none : OperationFits None (operation_at (h % 8)) ins outs → ⊥
        none z = z
kind_fits false checks h ins outs k = let i = k.1 in let j = k.2 in (k.0, omega (arith, i), omega (arith, j))

module _ (c : MidCode) (gives : ℕ → ℕ) (few : (f : ℕ) → gives f ≤ 2) (f : ℕ) (fn : MidFn) where
  first : (v : ℕ) (vs : List ℕ) → AreBelow fn.values (v ∷ vs) → v < fn.values
  first v vs all = All-head (λ (x : ℕ). x < fn.values) v vs all

  second : (v w : ℕ) (vs : List ℕ) → AreBelow fn.values (v ∷ w ∷ vs) → w < fn.values
  second v w vs all = first w vs (All-tail (λ (x : ℕ). x < fn.values) v (w ∷ vs) all)

  instruction_fits : (i : Mid) → NamesOwn fn i → FitsProgram c gives f i → Fits c fn.values i
  instruction_fits (Set v n) own fit = first v [] own.written
  instruction_fits (Move v x) own fit = (first v [] own.written, first x [] own.read)
  instruction_fits (Bin op v x y) own fit = (first v [] own.written, first x (y ∷ []) own.read, second x y [] own.read)
  instruction_fits (Carry op v x y) own fit = (first v [] own.written, first x (y ∷ []) own.read, second x y [] own.read)
  instruction_fits (Load w v x) own fit = (first v [] own.written, first x [] own.read)
  instruction_fits (Store w v x) own fit = (first v (x ∷ []) own.read, second v x [] own.read)
  instruction_fits (Peek w v x) own fit = (first v [] own.written, first x [] own.read)
  instruction_fits (Poke w v x) own fit = (first v (x ∷ []) own.read, second v x [] own.read)
  instruction_fits (In v port) own fit = first v [] own.written
  instruction_fits (Out port v) own fit = first v [] own.read
  instruction_fits (Label l) own fit = _
  instruction_fits (Jump l) own fit = _
  instruction_fits (Branch t x y l) own fit = (first x (y ∷ []) own.read, second x y [] own.read)
  instruction_fits (Call g ins outs) own fit = let a = fit.2 in let b = few g in (fit.0, own.read, own.written, omega (arith, a, b))
  instruction_fits (Help h ins outs) own fit = let k = kind_fits (nat_lt h first_check) (length c.checks) h (length ins) (length outs) fit in (k.0, own.read, own.written, k.1, k.2)
  instruction_fits (Ret vs) own fit = let a = fit in let b = few f in (own.read, omega (arith, a, b))
  instruction_fits (Begin o) own fit = _
  instruction_fits (End o) own fit = _
  instruction_fits (Post k v) own fit = _
  instruction_fits Tick own fit = _
  instruction_fits (Fault code) own fit = _

pub code_fits : (c : MidCode) → CanBeSelected c → (f : ℕ) → f < length c.fns → All (Fits c (fn_of c f).values) (fn_of c f).code
code_fits c can f lt =
    λ k d l. instruction_fits c can.form.gives can.form.at_most_two f (fn_of c f) (slice_index_or (fn_of c f).code k d) ((own_form c can f lt).names k d l) (can.form.fits f k d l)
