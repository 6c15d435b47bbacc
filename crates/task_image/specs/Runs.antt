-- What is promised of the image of a program with tasks (own).
use Rattle.std.specs.Prelude.{◌≡◌, ℕ, ◌+◌, ◌≤◌, List}
use Rattle.nm_base.specs.declared.memory_map.TheConstants.{RAM_END}
use Rattle.mote_devices.specs.declared.state.BoardState.{BoardState}
use Rattle.mote_devices.specs.WordBoards.{AreWordRows, IsWordBoard, IsWordGiven}
use Rattle.mote_devices.specs.declared.shown.Due.{Due}
use Rattle.nesc_core.specs.Plain.{Program}
use Rattle.nesc_core.specs.Calls.{HasNoCycle}
use Rattle.nesc_core.specs.Weights.{pace_of_program}
use Rattle.nesc_core.specs.WellFormed.{BeginsContext, IsWellFormed}
use Rattle.core_meaning.specs.SourceOf.{source_of}
use Rattle.task_queue.specs.Kernel.{Fits, kernel}
use Rattle.msp_isa.specs.declared.code.CodeFn.{CodeFn}
use Rattle.msp_isa.specs.Stands.{IsLaid}
use Rattle.msp_layout.specs.Order.{AreInOrder}
use Rattle.mote_bus.specs.Mote.{mote}
use Rattle.lower_stmt.specs.Bodies.{lowered}
use Rattle.lower_form.specs.Short.{IsShort}
use Rattle.lower_pace.specs.Pace.{IsMeasured}
use Rattle.open_law.specs.Body.{IsOpenFunction}
use Rattle.msp_select.specs.Sound.{body_of}
use Rattle.kernel_contract.specs.Bytes.{queue_of}
use Rattle.preempt_core.specs.Allowed.{Allowed}
use Rattle.preempt_tasks.specs.Bodies.{stack_of}
use Rattle.task_runs.specs.Law.{needed}
use Rattle.program_image.specs.Image.{marks_of}
use Rattle.program_image.specs.Runs.{IsSelectedRoot}
use Rattle.task_image.specs.Image.{Limits, IsTaskProgramImage, sizes_of}

-- what the loop and the lines call: the bodies that begin a context, and `pop`
pub data IsCalled (p : Program) (f : ℕ) : Type 0 where
  begins : BeginsContext (kernel p).program f → IsCalled p f
  takes : f ≡ (kernel p).pop → IsCalled p f

-- selected code of each function meets the open law with a number of instructions between two actions of its own, which for those that are called leaves room for a line's code
pub record HasPace (p : Program) (z : Limits) (deep : ℕ → ℕ) (image : ℕ → ℕ) (data_end : ℕ) (entries : ℕ → ℕ) (places : ℕ → ℕ → ℕ) : Type 0 where
  pub longest : ℕ → ℕ
  pub laws : (f gives : ℕ) → IsSelectedRoot (kernel p).program deep image data_end entries places f gives →
      IsOpenFunction image data_end (marks_of (kernel p).program places) gives (body_of (lowered (kernel p).program) f) (entries f) (deep f) (longest f)
  pub within : (f : ℕ) → IsCalled p f → longest f + 28 ≤ z.instructions

-- a well-formed program without cycles of calls that has a kernel, whose program is well formed, short and measured, and its image, which keeps to the program's pace
pub record IsTaskBuiltOf (p : Program) (z : Limits) (deep : ℕ → ℕ) (image : ℕ → ℕ) (data_end none : ℕ) (code : List CodeFn) (entries : ℕ → ℕ) : Type 0 where
  pub well : IsWellFormed p
  pub ranked : HasNoCycle p
  pub fits : Fits p
  pub kernel_well : IsWellFormed (kernel p).program
  pub short : IsShort (kernel p).program
  pub measured : IsMeasured (kernel p).program
  pub laid : IsLaid image code entries
  pub order : AreInOrder code laid.places
  pub stands : IsTaskProgramImage p z deep image data_end none code entries
  pub paced : HasPace p z deep image data_end entries laid.places
  pub some : 29 ≤ z.instructions
  pub pace : needed (queue_of p) (sizes_of p z data_end none entries) ≤ pace_of_program p

-- On every board and every schedule of words, after every number of slots, the mote did what the program does, at its pace; and its
-- stack stays within the sum of the depths
abbrev pub TaskImagesRun : Type 0
TaskImagesRun =
    (p : Program) (z : Limits) (deep : ℕ → ℕ) (image : ℕ → ℕ) (data_end none : ℕ) (code : List CodeFn) (entries : ℕ → ℕ) (b : BoardState) (rows : List Due) (n : ℕ) →
    IsTaskBuiltOf p z deep image data_end none code entries → IsWordBoard b → AreWordRows IsWordGiven rows →
    Allowed (source_of p) (pace_of_program p) b (mote image b rows) n × (RAM_END ≤ (mote image b rows n).least + stack_of (sizes_of p z data_end none entries))
