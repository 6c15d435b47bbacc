-- What is promised of an image of bodies, on boards whose registers hold words (own).
use Rattle.std.specs.Prelude.{◌≡◌, ℕ, ◌+◌, ◌≤◌, false, List, ◌∷◌, ◌++◌, Option, IsNone}
use Rattle.nm_base.specs.declared.memory_map.TheConstants.{RAM_END, RAM_START}
use Rattle.nm_base.specs.declared.action.Action.{Action}
use Rattle.nm_base.specs.Behaviour.{Performed}
use Rattle.mote_devices.specs.declared.state.BoardState.{BoardState}
use Rattle.mote_devices.specs.WordBoards.{AreWordRows, IsWordBoard, IsWordGiven}
use Rattle.mote_devices.specs.declared.shown.Due.{Due}
use Rattle.core_meaning.specs.Source.{Source}
use Rattle.run_meaning.specs.declared.Move.{Move}
use Rattle.run_meaning.specs.declared.Move.TheVariants.{Enter}
use Rattle.run_meaning.specs.State.{is_inside}
use Rattle.run_meaning.specs.Runs.{IsRun}
use Rattle.mote_bus.specs.Mote.{mote}
use Rattle.preempt_core.specs.Allowed.{Allowed, state_after}
use Rattle.preempt_bodies.specs.Bodies.{Sizes, IsBuilt, IsHandlerLaw, IsLine, Serves, stack_of}

-- Survival: entry, a body or nothing, and exit leave what they interrupt as it was. They take 26 bytes of stack and 28 instructions more
-- than the body
abbrev pub Survives : Type 0
Survives =
    (image : ℕ → ℕ) (data_end : ℕ) (marks : ℕ → List Action) (act : List ℕ → ℕ → Performed) (start depth bound : ℕ) (body : Option ℕ) →
    RAM_START ≤ data_end → 1 ≤ bound → IsLine image marks start body → Serves image data_end marks act depth bound body →
    IsHandlerLaw image data_end marks act start (26 + depth) (bound + 28)

-- A mote with the image does what the source allows, on every such board, with every schedule of words, after every number of slots;
-- and its stack stays within the sum of the depths
abbrev pub RunsAsSource : Type 0
RunsAsSource =
    (P : Source) (image : ℕ → ℕ) (marks : ℕ → List Action) (z : Sizes) (b : BoardState) (rows : List Due) (pace n : ℕ) →
    IsWordBoard b → AreWordRows IsWordGiven rows → IsBuilt P image marks z → z.bound + 3 ≤ pace →
    Allowed P pace b (mote image b rows) n × (RAM_END ≤ (mote image b rows n).least + stack_of z)

-- In a run a handler is entered where no atomic statement of the base is open and no handler runs
abbrev pub EntriesFallOutside : Type 0
EntriesFallOutside =
    (P : Source) (b : BoardState) (front back : List Move) (v : ℕ) → IsRun P b (front ++ Enter v ∷ back) →
    (is_inside (state_after P b front).base ≡ false) × IsNone (state_after P b front).handler
