-- What lowered code of a well-formed program keeps of the rules of middle code (own).
use Rattle.std.specs.Prelude.{◌≡◌, ℕ, ◌<◌, ◌≤◌, length, Some, slice_get}
use Rattle.nesc_core.specs.Plain.{Body, Program}
use Rattle.nesc_core.specs.Calls.{HasNoCycle}
use Rattle.nesc_core.specs.Weights.{objects_end}
use Rattle.nesc_core.specs.WellFormed.{IsWellFormed}
use Rattle.mid_code.specs.declared.instr.Mid.TheVariants.{Post}
use Rattle.mid_code.specs.Machine.{fn_of}
use Rattle.mid_code.specs.Reached.{KeepsForm}
use Rattle.lower_stmt.specs.Bodies.{lowered}
use Rattle.lower_reached.specs.Laws.{AccessesAreOfData, AlwaysMayGoOn, is_of_frame}
use Rattle.msp_select.specs.Sound.{TouchesObjects}

-- what bodies load and store is data
abbrev pub EachAccessIsOfData : Type 0
EachAccessIsOfData = (p : Program) → IsWellFormed p → (f : ℕ) → AccessesAreOfData p f

-- in each state that is reached, Peeks and Pokes are of the function's frame, which no Begin uses there
abbrev pub FramesAreKept : Type 0
FramesAreKept = (p : Program) → IsWellFormed p → AlwaysMayGoOn is_of_frame (lowered p)

abbrev pub AllRulesAreKept : Type 0
AllRulesAreKept = (p : Program) → HasNoCycle p → IsWellFormed p → KeepsForm (lowered p)

-- a program without tasks posts nothing
abbrev pub PostsNameTasks : Type 0
PostsNameTasks =
    (p : Program) → IsWellFormed p → (f at k v : ℕ) → slice_get (fn_of (lowered p) f).code at ≡ Some (Post k v) → k < length p.tasks

-- what a body without parameters loads and stores lies where objects do
abbrev pub ObjectsAreTouched : Type 0
ObjectsAreTouched =
    (p : Program) → HasNoCycle p → IsWellFormed p → (f : ℕ) (b : Body) → slice_get p.bodies f ≡ Some b → b.params ≡ 0 → (data_end : ℕ) → objects_end p ≤ data_end →
    TouchesObjects (lowered p) f data_end
