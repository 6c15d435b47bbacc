-- The code of a call passes the arguments, does what the called body does, and takes its result back.
use Rattle.std.proofs.Common.{◌≡◌, ℕ, zero, suc, ◌+◌, ◌<◌, ◌≤◌, Bool, true, false, List, [], ◌∷◌, map, take, Some, All, refl, sym, ap, ◌∙◌, subst, arith}
use Rattle.std.specs.Prelude.{ℤ, slice_get, if◌then◌else◌}
use Rattle.std.proofs.lemmas.List.Elements.{All-head, All-tail}
use Rattle.nm_base.specs.declared.int_type.IntType.{IntType}
use Rattle.nm_base.specs.IntType.{wrapped}
use Rattle.nm_base.specs.declared.action.Action.TheVariants as action
use Rattle.nm_base.specs.Behaviour.{Behaviour, Does}
use Rattle.nesc_core.specs.Plain.{Ty, void, int, pointer, array, struct, Body, Program}
use Rattle.nesc_core.specs.Typing.{IsOf}
use Rattle.nesc_core.specs.Typing as typing
use Rattle.nesc_core.specs.WellFormed.{IsBody, IsWellFormed}
use Rattle.core_meaning.specs.Work.{Locals, number_of}
use Rattle.core_meaning.specs.Act.{Calls}
use Rattle.mid_code.specs.declared.instr.Mid.{Mid}
use Rattle.mid_code.specs.declared.instr.Mid.TheVariants.{Call, Tick}
use Rattle.mid_code.specs.declared.code.MidCode.{MidCode}
use Rattle.mid_code.specs.Machine.{Activation, Goes, entry, fn_of, give_back, put, put_all, take_back}
use Rattle.mid_code.specs.Help.{is_wide}
use Rattle.mid_code.specs.Runs.{IsLabelled, Runs, Stands}
use Rattle.mid_code.proofs.Runs.{goes, acts_on}
use Rattle.mid_code.proofs.Stands.{does, at_end}
use Rattle.mid_code.proofs.Written.{put_same, put_other}
use Rattle.lower_expr.specs.declared.spot.Spot.{Spot}
use Rattle.lower_expr.specs.Held.{IsHeld, IsHighHeld, halves_of, high, low}
use Rattle.lower_expr.specs.Runs.{CallsRun, AreOf, Keeps, given, passed}
use Rattle.lower_expr.specs.Locals.{Holds, IsResult}
use Rattle.lower_expr.specs.Pieces.{values_at}
use Rattle.lower_expr.specs.Code.{is_void, taken_at}
use Rattle.lower_expr.proofs.Values.{keeps_put, holds_put}
use Rattle.lower_expr.proofs.Pieces.{Next, at_here}

-- ---- bodies of a well-formed program

All-get : {A : Type 0} (P : A → Type 0) (xs : List A) (k : ℕ) (x : A) → slice_get xs k ≡ Some x → All P xs → P x
All-get P [] k x at all = absurd (cc)
All-get P (y ∷ ys) zero x at all = let e : y ≡ x = cc in subst P e (All-head P y ys all)
All-get P (y ∷ ys) (suc k) x at all = All-get P ys k x at (All-tail P y ys all)

pub body_formed : (p : Program) (g : ℕ) (b : Body) → IsWellFormed p → slice_get p.bodies g ≡ Some b → IsBody p b
body_formed p g b formed is = All-get (IsBody p) p.bodies g b is formed.bodies

-- ---- what a call leaves

-- the values of a result that is taken back
taken : (wide : Bool) (t : IntType) (v : ℤ) (old : ℕ → ℕ) (r : ℕ) → is_wide t ≡ wide → wrapped t v ≡ v → IsHeld t v (put_all old (values_at wide r) (halves_of wide v)) r
taken false t v old r narrow number = record {
  number = number;
  low_half = put_same old r (low v);
  high_half = subst (λ b. IsHighHeld b v (put old r (low v)) (r + 1)) (sym narrow) tt;
}
taken true t v old r wide number = record {
  number = number;
  low_half = put_other (put old r (low v)) (r + 1) (high v) r (λ e. omega arith) ∙ put_same old r (low v);
  high_half = subst (λ b. IsHighHeld b v (put (put old r (low v)) (r + 1) (high v)) (r + 1)) (sym wide) (put_same (put old r (low v)) (r + 1) (high v));
}

taken_result : (ty : Ty) (v : ℤ) (old : ℕ → ℕ) (r : ℕ) → typing.IsResult ty → IsOf (number_of ty) v → IsResult ty v (put_all old (taken_at ty r) (given ty v)) r
taken_result void v old r ok number = tt
taken_result (int t) v old r ok number = taken (is_wide t) t v old r refl number
taken_result (pointer t) v old r ok number = taken false _ v old r refl number
taken_result (array t n) v old r ok number = absurd ok
taken_result (struct k) v old r ok number = absurd ok

-- a list of values from r on, each written
module _ (p : Program) (types : List Ty) (spots : List Spot) (base r : ℕ) (le : base ≤ r) (env : Locals) (first frame : ℕ → ℕ) where
  abbrev Beyond : (ℕ → ℕ) → Type 0
  Beyond values = Holds p types spots base env values frame × Keeps base r first values

  beyond_put : (s x : ℕ) (values : ℕ → ℕ) → r ≤ s → Beyond values → Beyond (put values s x)
  beyond_put s x values from h = (holds_put base p types spots env values frame s x (omega arith) h.0, keeps_put base r s x first values from h.1)

  beyond_all : (void wide : Bool) (v : ℤ) (values : ℕ → ℕ) → Beyond values →
      Beyond (put_all values (if void then [] else values_at wide r) (if void then [] else halves_of wide v))
  beyond_all true wide v values h = h
  beyond_all false true v values h = beyond_put (r + 1) (high v) (put values r (low v)) (omega arith) (beyond_put r (low v) values (omega arith) h)
  beyond_all false false v values h = beyond_put r (low v) values (omega arith) h

module _ (codes : MidCode) (f : ℕ) (rest : List Activation) (labels : IsLabelled (fn_of codes f).code) (n : ℕ)
    (p : Program) (types : List Ty) (spots : List Spot) (base : ℕ) where
  abbrev code : List Mid
  code = (fn_of codes f).code

  abbrev here : ℕ → (ℕ → ℕ) → (ℕ → ℕ) → List Activation
  here pc values frame = at_here codes f rest labels n p types spots base pc values frame

  abbrev Behind : Ty → (r end : ℕ) → (ℕ → ℕ) → (ℤ → Locals → Behaviour) → Type 0
  Behind ty r end old after = Next codes f rest labels n p types spots base ty r end old after

  -- a called body gives its result back to the call
  given_back : (g pc : ℕ) (ins outs xs : List ℕ) (values frame : ℕ → ℕ) → slice_get code pc ≡ Some (Call g ins outs) →
      give_back codes (here pc values frame) xs ≡ Goes (here (pc + 1) (put_all values outs xs) frame)
  given_back g pc ins outs xs values frame at =
      ap (λ o. Goes (take_back o (record { f = f; at = pc; values = values; frame = frame }) xs ∷ rest)) at

  pub call_runs : (rank : ℕ → ℕ) (below : ℕ) (calls : Calls) (calls_run : CallsRun codes n p rank below calls) (g : ℕ) (b : Body) (vs : List ℤ) (ins : List ℕ) (r pc end : ℕ)
      (after : ℤ → Locals → Behaviour) (env : Locals) (first values frame : ℕ → ℕ) →
      base ≤ r → slice_get p.bodies g ≡ Some b → IsBody p b → rank g < below → AreOf (take b.params b.locals) vs → map values ins ≡ passed (take b.params b.locals) vs →
      Stands code pc (Tick ∷ Call g ins (taken_at b.result r) ∷ Tick ∷ []) end → Holds p types spots base env values frame → Keeps base r first values →
      Behind b.result r end first after →
      Runs codes n (Does action.Tick (calls g vs (λ v. Does action.Tick (after v env)))) (here pc values frame)
  call_runs rank below calls calls_run g b vs ins r pc end after env first values frame le is formed lower of pass s h k next =
      let a : Activation = record { f = f; at = pc + 1; values = values; frame = frame } in
      acts_on codes n action.Tick (calls g vs (λ v. Does action.Tick (after v env))) _ (here (pc + 1) values frame) (does codes f rest pc values frame Tick s.0)
      (goes codes n (calls g vs (λ v. Does action.Tick (after v env))) _ (entry codes g (map values ins) ∷ a ∷ rest) (does codes f rest (pc + 1) values frame (Call g ins (taken_at b.result r)) s.1.0)
      (subst (λ xs. Runs codes n (calls g vs (λ v. Does action.Tick (after v env))) (entry codes g xs ∷ a ∷ rest)) (sym pass)
      (calls_run.by g b vs (λ v. Does action.Tick (after v env)) (a ∷ rest) is lower of
      (λ v t number back.
      let new : ℕ → ℕ = put_all values (taken_at b.result r) (given b.result v) in
      let kept = beyond_all p types spots base r le env first frame (is_void b.result) (is_wide (number_of b.result)) v values (h, k) in
      goes codes n (Does action.Tick (after v env)) t (here (pc + 1 + 1) new frame) (back ∙ given_back g (pc + 1) ins (taken_at b.result r) (given b.result v) values frame s.1.0)
      (acts_on codes n action.Tick (after v env) _ (here (pc + 1 + 1 + 1) new frame) (does codes f rest (pc + 1 + 1) new frame Tick s.1.1.0)
      (at_end codes f rest n (after v env) (pc + 1 + 1 + 1) end new frame s.1.1.1
      (next v env new frame (record { holds = kept.0; keeps = kept.1; is = taken_result b.result v values r formed.given number }))))))))
