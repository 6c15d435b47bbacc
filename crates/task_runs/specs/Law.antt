-- That a mote whose image has the loop of tasks does what the source's program does, at its pace (own).
use Rattle.std.specs.Prelude.{ℕ, ◌+◌, ◌*◌, ◌≤◌, List}
use Rattle.nm_base.specs.declared.memory_map.TheConstants.{RAM_END}
use Rattle.nm_base.specs.declared.action.Action.{Action}
use Rattle.mote_devices.specs.declared.state.BoardState.{BoardState}
use Rattle.mote_devices.specs.WordBoards.{AreWordRows, IsWordBoard, IsWordGiven}
use Rattle.mote_devices.specs.declared.shown.Due.{Due}
use Rattle.mote_bus.specs.Mote.{mote}
use Rattle.preempt_core.specs.Allowed.{Allowed}
use Rattle.loop_runs.specs.Bodies.{Bodies, source}
use Rattle.loop_runs.specs.Kernel.{Queue, IsKernel}
use Rattle.loop_runs.specs.Steps.{most}
use Rattle.preempt_tasks.specs.Bodies.{Sizes, IsTaskImage, stack_of}
use Rattle.preempt_tasks.specs.Steps.{gap, turn}

-- the instructions that one move of a loop run takes at most
abbrev pub step_of : Sizes → ℕ
step_of z = gap z + turn z

-- those of a move of the source, with all moves behind it that are the kernel's alone
abbrev pub stretch_of : Queue → Sizes → ℕ
stretch_of Q z = step_of z * (most Q + 1)

-- the pace that holds them
abbrev pub needed : Queue → Sizes → ℕ
needed Q z = stretch_of Q z + step_of z + turn z + 1

-- The image of a kernel of the source, with the loop of tasks, does what the source does, on every such board, with every schedule of words, after every number of slots; and its
-- stack stays within the sum of the depths
abbrev pub LoopsRunAsSource : Type 0
LoopsRunAsSource =
    (P K : Bodies) (pop : ℕ) (Q : Queue) (image : ℕ → ℕ) (marks : ℕ → List Action) (z : Sizes) (pace : ℕ) (b : BoardState) (rows : List Due) (n : ℕ) →
    IsWordBoard b → AreWordRows IsWordGiven rows → IsKernel P K pop Q → IsTaskImage K pop image marks z → needed Q z ≤ pace →
    Allowed (source P) pace b (mote image b rows) n × (RAM_END ≤ (mote image b rows n).least + stack_of z)
