-- The rules of reached states that lowered programs keep (own).
use Rattle.std.specs.Prelude.{◌≡◌, ◌⊎◌, ℕ, ℤ, ◌<◌, ◌^◌, Bool, true, false, List, [], ◌∷◌, length, Some, slice_get}
use Rattle.nm_base.specs.declared.action.Action.{Action}
use Rattle.nm_base.specs.declared.action.Action.TheVariants as action
use Rattle.nm_base.specs.Behaviour.{Behaviour, Returns, play}
use Rattle.nesc_core.specs.Plain.{Body, Program}
use Rattle.nesc_core.specs.Calls.{HasNoCycle}
use Rattle.nesc_core.specs.WellFormed.{IsWellFormed}
use Rattle.core_meaning.specs.Act.{calls_of}
use Rattle.mid_code.specs.declared.instr.Mid.{Mid}
use Rattle.mid_code.specs.declared.instr.Mid.TheVariants.{Load, Store, Peek, Poke, Help}
use Rattle.mid_code.specs.declared.code.MidCode.{MidCode}
use Rattle.mid_code.specs.Machine.{Activation, fn_of, instruction, shown, step}
use Rattle.mid_code.specs.Reached.{IsData, KeepsForm, MayGoOn, opens_at, state_at}
use Rattle.mid_code.specs.Runs.{AreWords}
use Rattle.lower_stmt.specs.Bodies.{lowered}

-- an instruction whose rule asks nothing of values
abbrev pub is_of_place : Mid → Bool
is_of_place (Load is_word v x) = false
is_of_place (Store is_word v x) = false
is_of_place (Peek is_word v x) = false
is_of_place (Poke is_word v x) = false
is_of_place (Help h ins outs) = false
is_of_place _ = true

abbrev pub is_help : Mid → Bool
is_help (Help h ins outs) = true
is_help _ = false

abbrev pub is_access : Mid → Bool
is_access (Load is_word v x) = true
is_access (Store is_word v x) = true
is_access _ = false

abbrev pub is_of_frame : Mid → Bool
is_of_frame (Peek is_word v x) = true
is_of_frame (Poke is_word v x) = true
is_of_frame _ = false

-- each call has its open Begins, and the innermost may go on where its instruction is one of these
abbrev pub InnermostMayGoOn : (Mid → Bool) → MidCode → List Activation → List (List ℕ) → Type 0
InnermostMayGoOn chosen c [] all = Unit {0}
InnermostMayGoOn chosen c (a ∷ rest) [] = ⊥
InnermostMayGoOn chosen c (a ∷ rest) (opens ∷ outer) = (i : Mid) → instruction c a ≡ Some i → chosen i ≡ true → MayGoOn c a opens (Some i)

-- in each state that is reached from the start of a function
abbrev pub AlwaysMayGoOn : (Mid → Bool) → MidCode → Type 0
AlwaysMayGoOn chosen c = (f : ℕ) (answers : ℕ → ℕ) (n : ℕ) → InnermostMayGoOn chosen c (state_at c f answers n) (opens_at c f answers n)

-- Begins and Ends nest, and ports are there
abbrev pub StatementsNest : Type 0
StatementsNest = (p : Program) → IsWellFormed p → AlwaysMayGoOn is_of_place (lowered p)

-- a Help that divides has a divisor other than 0
abbrev pub DivisorsAreOther : Type 0
DivisorsAreOther = (p : Program) → IsWellFormed p → AlwaysMayGoOn is_help (lowered p)

-- ---- accesses to memory

abbrev pub IsOfData : Action → Type 0
IsOfData (action.Load address is_word) = IsData is_word address
IsOfData (action.Store address is_word v) = IsData is_word address
IsOfData _ = Unit {0}

abbrev pub AreOfData : List Action → Type 0
AreOfData [] = Unit {0}
AreOfData (a ∷ rest) = IsOfData a × AreOfData rest

-- what a body without parameters does, where loops make so many turns and this is told of what it gives back
abbrev pub done : Program → ℕ → (told : ℤ → ℕ) → (turns : ℕ) → Behaviour
done p f told turns = calls_of p (length p.bodies) turns f [] (λ v. Returns (told v))

abbrev pub Among : Action → List Action → Type 0
Among a [] = ⊥
Among a (b ∷ rest) = (b ≡ a) ⊎ Among a rest

-- it does this action, for some answers and turns
pub record IsDoneBy (p : Program) (f : ℕ) (a : Action) : Type 0 where
  pub told : ℤ → ℕ
  pub answers : List ℕ
  pub words : AreWords answers
  pub turns : ℕ
  pub among : Among a (play (done p f told turns) answers).actions

-- what its function does in a state that is reached, the body does
abbrev pub ActionsAreDone : Type 0
ActionsAreDone =
    (p : Program) → HasNoCycle p → IsWellFormed p → (f : ℕ) (b : Body) → slice_get p.bodies f ≡ Some b → b.params ≡ 0 →
    (answers : ℕ → ℕ) → ((i : ℕ) → answers i < 2 ^ 16) → (n : ℕ) (a : Action) → shown (step (lowered p) (state_at (lowered p) f answers n)) ≡ Some a →
    IsDoneBy p f a

-- each access that it does is to data
pub record AccessesAreOfData (p : Program) (f : ℕ) : Type 0 where
  pub each : (told : ℤ → ℕ) (answers : List ℕ) → AreWords answers → (turns : ℕ) → AreOfData (play (done p f told turns) answers).actions

-- where the body's accesses are to data, so are those of its function
abbrev pub AccessesStay : Type 0
AccessesStay =
    (p : Program) → HasNoCycle p → IsWellFormed p → (f : ℕ) (b : Body) → slice_get p.bodies f ≡ Some b → b.params ≡ 0 → AccessesAreOfData p f →
    (answers : ℕ → ℕ) → ((i : ℕ) → answers i < 2 ^ 16) → (n : ℕ) →
    InnermostMayGoOn is_access (lowered p) (state_at (lowered p) f answers n) (opens_at (lowered p) f answers n)

-- ---- all rules

-- in each state that is reached from the start of a function without parameters
abbrev pub MayGoOnWhere : (Mid → Bool) → MidCode → Type 0
MayGoOnWhere chosen c =
    (f : ℕ) → f < length c.fns → (fn_of c f).params ≡ [] → (answers : ℕ → ℕ) → ((i : ℕ) → answers i < 2 ^ 16) → (n : ℕ) →
    InnermostMayGoOn chosen c (state_at c f answers n) (opens_at c f answers n)

-- what is left of the rules: that bodies access data, and functions their frames
abbrev pub AccessesAreLeft : Type 0
AccessesAreLeft =
    (p : Program) → HasNoCycle p → IsWellFormed p → ((f : ℕ) → AccessesAreOfData p f) → MayGoOnWhere is_of_frame (lowered p) →
    KeepsForm (lowered p)
