-- The image of a lean program with tasks: how many instructions come between two actions is known (own).
use Rattle.std.specs.Prelude.{ℕ, ◌+◌, ◌≤◌, List}
use Rattle.nm_base.specs.declared.memory_map.TheConstants.{RAM_END}
use Rattle.mote_devices.specs.declared.state.BoardState.{BoardState}
use Rattle.mote_devices.specs.WordBoards.{AreWordRows, IsWordBoard, IsWordGiven}
use Rattle.mote_devices.specs.declared.shown.Due.{Due}
use Rattle.nesc_core.specs.Plain.{Program}
use Rattle.nesc_core.specs.Calls.{HasNoCycle}
use Rattle.nesc_core.specs.Weights.{pace_of_program}
use Rattle.nesc_core.specs.WellFormed.{IsWellFormed}
use Rattle.core_meaning.specs.SourceOf.{source_of}
use Rattle.task_queue.specs.Kernel.{Fits, kernel}
use Rattle.msp_isa.specs.declared.code.CodeFn.{CodeFn}
use Rattle.msp_isa.specs.Stands.{IsLaid}
use Rattle.msp_layout.specs.Order.{AreInOrder}
use Rattle.mote_bus.specs.Mote.{mote}
use Rattle.lower_form.specs.Short.{IsShort}
use Rattle.lean_pace.specs.Lean.{IsLean}
use Rattle.lean_pace.specs.Pace.{longest_gap}
use Rattle.preempt_core.specs.Allowed.{Allowed}
use Rattle.preempt_tasks.specs.Bodies.{stack_of}
use Rattle.task_image.specs.Image.{IsTaskProgramImage, Limits, sizes_of}

-- those of the kernel's functions, and of the code of a line, which saves and restores registers
abbrev pub limits_of : Program → (base_depth handler_depth : ℕ) → Limits
limits_of p base_depth handler_depth = record { base_depth = base_depth; handler_depth = handler_depth; instructions = longest_gap (kernel p).program + 28 }

-- a well-formed lean program without cycles of calls that has a kernel, whose program is well formed and short, and its image
pub record IsLeanBuiltOf (p : Program) (base_depth handler_depth : ℕ) (deep : ℕ → ℕ) (image : ℕ → ℕ) (data_end none : ℕ) (code : List CodeFn) (entries : ℕ → ℕ) : Type 0 where
  pub well : IsWellFormed p
  pub ranked : HasNoCycle p
  pub fits : Fits p
  pub lean : IsLean p
  pub kernel_well : IsWellFormed (kernel p).program
  pub short : IsShort (kernel p).program
  pub laid : IsLaid image code entries
  pub order : AreInOrder code laid.places
  pub stands : IsTaskProgramImage p (limits_of p base_depth handler_depth) deep image data_end none code entries

-- The mote did what the program does, at its pace, and its stack stays within the sum of the depths
abbrev pub LeanImagesRun : Type 0
LeanImagesRun =
    (p : Program) (base_depth handler_depth : ℕ) (deep : ℕ → ℕ) (image : ℕ → ℕ) (data_end none : ℕ) (code : List CodeFn) (entries : ℕ → ℕ) (b : BoardState) (rows : List Due) (n : ℕ) →
    IsLeanBuiltOf p base_depth handler_depth deep image data_end none code entries → IsWordBoard b → AreWordRows IsWordGiven rows →
    Allowed (source_of p) (pace_of_program p) b (mote image b rows) n × (RAM_END ≤ (mote image b rows n).least + stack_of (sizes_of p (limits_of p base_depth handler_depth) data_end none entries))
