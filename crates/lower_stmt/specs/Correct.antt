-- That the functions of a program do what its bodies do, in both directions (own).
use Rattle.std.specs.Prelude.{⊤, ◌≡◌, ◌⊎◌, ℕ, ◌≤◌, List, ◌++◌, Some, slice_get}
use Rattle.nm_base.specs.declared.action.Action.{Action}
use Rattle.nm_base.specs.declared.int_type.IntType.TheVariants.{I8, I16}
use Rattle.nm_base.specs.Behaviour.{Trace, Unfinished, play}
use Rattle.nesc_core.specs.Plain.{Ty, void, int, pointer, array, struct, Body, Program}
use Rattle.nesc_core.specs.WellFormed.{IsWellFormed}
use Rattle.nesc_core.specs.Calls.{HasNoCycle}
use Rattle.core_meaning.specs.Act.{calls_of, root}
use Rattle.mid_code.specs.declared.code.MidCode.{MidCode}
use Rattle.mid_code.specs.Machine.{fn_of, started, steps}
use Rattle.mid_code.specs.Runs.{AreWords, IsLabelled}
use Rattle.lower_expr.specs.Runs.{CallsRun}
use Rattle.lower_stmt.specs.Bodies.{lowered}

-- what something does, for a list of answers and a bound: of the turns of loops, or of steps
abbrev pub Doing : Type 0
Doing = List ℕ → ℕ → Trace

abbrev pub source : Program → ℕ → Doing
source p f answers turns = play (root p f turns) answers

abbrev pub target : MidCode → ℕ → Doing
target c f answers m = play (steps c m (started c f)) answers

-- the second is the first, or goes on where the first's bound was used up
abbrev pub GoesOn : Trace → Trace → Type 0
GoesOn t u = (t ≡ u) ⊎ ((t.why ≡ Unfinished) × ((rest : List Action) × (u.actions ≡ t.actions ++ rest)))

-- the second does exactly what the first does: each trace of the first is one of the second, and each of the second is one of the
-- first, or the beginning of one
pub record Behaves (above below : Doing) : Type 0 where
  pub covers : (answers : List ℕ) → AreWords answers → (n : ℕ) → (m : ℕ) × (below answers m ≡ above answers n)
  pub only : (answers : List ℕ) → AreWords answers → (m : ℕ) → (n : ℕ) × GoesOn (below answers m) (above answers n)

-- one translation behind another
abbrev pub BehavesOn : Type 0
BehavesOn = (a b c : Doing) → Behaves a b → Behaves b c → Behaves a c

-- a result that its values tell whole; of a negative number of at most 16 bits they give back the low half alone
abbrev pub IsTold : Ty → Type 0
IsTold void = ⊤
IsTold (int I8) = ⊥
IsTold (int I16) = ⊥
IsTold (int _) = ⊤
IsTold (pointer t) = ⊤
IsTold (array t n) = ⊥
IsTold (struct k) = ⊥

abbrev pub AreLabelled : MidCode → Type 0
AreLabelled c = (f : ℕ) → IsLabelled (fn_of c f).code

-- each label of a lowered program is found where it stands
abbrev pub EachIsLabelled : Type 0
EachIsLabelled = (p : Program) → AreLabelled (lowered p)

-- calls of bodies with ranks below one do what the bodies do, where each loop makes at most so many turns
abbrev pub AllCallsRun : Type 0
AllCallsRun =
    (p : Program) (ranked : HasNoCycle p) → IsWellFormed p → (below turns n : ℕ) → n ≤ turns →
    CallsRun (lowered p) n p ranked.rank below (calls_of p below turns)

-- and so do bodies without parameters, from the start of their functions
abbrev pub EachRootBehaves : Type 0
EachRootBehaves =
    (p : Program) → HasNoCycle p → IsWellFormed p → (f : ℕ) (b : Body) → slice_get p.bodies f ≡ Some b → b.params ≡ 0 → IsTold b.result →
    Behaves (source p f) (target (lowered p) f)
