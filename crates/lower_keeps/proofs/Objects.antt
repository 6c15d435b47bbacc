-- What bodies access is data, and what bodies without parameters load and store lies where objects do.
use Rattle.std.proofs.Common.{◌≡◌, ⊎_elim, ℕ, ◌+◌, ◌≤◌, Bool, true, false, List, [], ◌∷◌, Option, Some, None, refl, sym, subst, arith}
use Rattle.std.specs.Prelude.{slice_get}
use Rattle.nm_base.specs.declared.action.Action.{Action}
use Rattle.nm_base.specs.declared.action.Action.TheVariants as action
use Rattle.nm_base.specs.Behaviour.{play}
use Rattle.nesc_core.specs.Plain.{Body, Program}
use Rattle.nesc_core.specs.Calls.{HasNoCycle}
use Rattle.nesc_core.specs.WellFormed.{IsWellFormed}
use Rattle.nesc_core.specs.Weights.{objects_end}
use Rattle.mid_code.specs.declared.instr.Mid.{Mid}
use Rattle.mid_code.specs.declared.instr.Mid.TheVariants.{Load, Store}
use Rattle.mid_code.specs.Machine.{Activation, fn_of, instruction, perform, shown, step}
use Rattle.mid_code.specs.Reached.{IsAligned, IsData, innermost_instruction, state_at}
use Rattle.mid_code.specs.Reached as reached
use Rattle.lower_stmt.specs.Bodies.{lowered}
use Rattle.lower_reached.specs.Laws.{AccessesAreOfData, ActionsAreDone, Among, AreOfData, IsDoneBy, IsOfData, done}
use Rattle.msp_select.specs.Sound.{IsOfObjects, TouchesObjects}
use Rattle.source_accesses.specs.Accesses.{AccessesAreOfObjects, AreOfObjects, IsInObject, IsOfObject, ObjectsLieInData}
use Rattle.source_accesses.specs.Accesses as source

module _ (lie : ObjectsLieInData) (of : AccessesAreOfObjects) (p : Program) (formed : IsWellFormed p) where
  same_aligned : (w : Bool) (x : ℕ) → source.IsAligned w x → IsAligned w x
  same_aligned true x h = h
  same_aligned false x h = tt

  same_bytes : (w : Bool) → source.bytes w ≡ reached.bytes w
  same_bytes true = refl
  same_bytes false = refl

  is_data : (x : ℕ) (w : Bool) → IsInObject p x w → IsData w x
  is_data x w h =
      let o = lie p formed h.which h.object h.is in
      let start = o.from in
      let from = h.from in
      (omega (arith, start, from), same_aligned w x h.aligned)

  of_data : (a : Action) → IsOfObject p a → IsOfData a
  of_data (action.Load x w) h = is_data x w h
  of_data (action.Store x w v) h = is_data x w h
  of_data a h = tt

  are_of_data : (xs : List Action) → AreOfObjects p xs → AreOfData xs
  are_of_data [] h = tt
  are_of_data (a ∷ xs) h = (of_data a h.0, are_of_data xs h.1)

  pub accesses_are_of_data : (f : ℕ) → AccessesAreOfData p f
  accesses_are_of_data f = record { each = λ told answers words turns. are_of_data (play (done p f told turns) answers).actions (of p formed f told turns answers) }

  -- ---- objects

  among_objects : (a : Action) (xs : List Action) → AreOfObjects p xs → Among a xs → IsOfObject p a
  among_objects a [] h m = absurd m
  among_objects a (x ∷ xs) h m = ⊎_elim (λ e. subst (IsOfObject p) e h.0) (λ r. among_objects a xs h.1 r) m

  done_of_object : (f : ℕ) (a : Action) → IsDoneBy p f a → IsOfObject p a
  done_of_object f a d = among_objects a (play (done p f d.told d.turns) d.answers).actions (of p formed f d.told d.turns d.answers) d.among

  module _ (data_end : ℕ) (end : objects_end p ≤ data_end) where
    inside : (x : ℕ) (w : Bool) → IsInObject p x w → x + reached.bytes w ≤ data_end
    inside x w h =
        let o = lie p formed h.which h.object h.is in
        let to = h.to in
        let last = o.to in
        let same = same_bytes w in
        omega (arith, to, last, same, end)

    of_state : (s : List Activation) → ((a : Action) → shown (step (lowered p) s) ≡ Some a → IsOfObject p a) → IsOfObjects data_end s (innermost_instruction (lowered p) s)
    of_state [] h = tt
    of_state (x ∷ rest) h = by (instruction (lowered p) x) refl
      where
        shows : (i : Mid) (a : Action) → instruction (lowered p) x ≡ Some i → shown (perform (Some i) (lowered p) (fn_of (lowered p) x.f) x rest) ≡ Some a → IsOfObject p a
        shows i a at e = h a (subst (λ o. shown (perform o (lowered p) (fn_of (lowered p) x.f) x rest) ≡ Some a) (sym at) e)

        by_one : (i : Mid) → instruction (lowered p) x ≡ Some i → IsOfObjects data_end (x ∷ rest) (Some i)
        by_one (Load w v y) at = inside (x.values y) w (shows (Load w v y) (action.Load (x.values y) w) at refl)
        by_one (Store w v y) at = inside (x.values y) w (shows (Store w v y) _ at refl)
        by_one i at = tt

        by : (o : Option Mid) → instruction (lowered p) x ≡ o → IsOfObjects data_end (x ∷ rest) o
        by None at = tt
        by (Some i) at = by_one i at

    pub touches : ActionsAreDone → HasNoCycle p → (f : ℕ) (b : Body) → slice_get p.bodies f ≡ Some b → b.params ≡ 0 → TouchesObjects (lowered p) f data_end
    touches acts ranked f b is none = record {
      always = λ answers small n.
          of_state (state_at (lowered p) f answers n) (λ a e. done_of_object f a (acts p ranked formed f b is none answers small n a e));
    }
