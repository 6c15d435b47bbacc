-- What is promised of the code of programs (own).
use Rattle.std.specs.Prelude.{◌≡◌, ℕ, ◌+◌, ◌≤◌, List, []}
use Rattle.nm_base.specs.declared.memory_map.TheConstants.{RAM_END}
use Rattle.mote_devices.specs.declared.state.BoardState.{BoardState}
use Rattle.mote_devices.specs.WordBoards.{AreWordRows, IsWordBoard, IsWordGiven}
use Rattle.mote_devices.specs.declared.shown.Due.{Due}
use Rattle.nesc_core.specs.Plain.{Program}
use Rattle.nesc_core.specs.Calls.{HasNoCycle}
use Rattle.nesc_core.specs.Weights.{pace_of_program}
use Rattle.nesc_core.specs.WellFormed.{IsWellFormed}
use Rattle.core_meaning.specs.SourceOf.{source_of}
use Rattle.msp_isa.specs.Image.{image_map}
use Rattle.mote_bus.specs.Mote.{mote}
use Rattle.mid_code.specs.declared.code.Check.{Check}
use Rattle.lower_stmt.specs.Bodies.{lowered}
use Rattle.lower_form.specs.Short.{IsShort}
use Rattle.lower_pace.specs.Pace.{IsMeasured}
use Rattle.msp_layout.specs.Laid.{FitsRam, IsGoodCode, IsPlaced}
use Rattle.msp_checks.specs.Written.{AreOfWords, HaveFewRuns}
use Rattle.preempt_core.specs.Allowed.{Allowed}
use Rattle.program_image.specs.Order.{lines_of, reset_place}
use Rattle.image_code.specs.Code.{IsCountable, code_of, data_bytes}

-- What is asked of a program that is compiled
pub record IsCompilable (p : Program) : Type 0 where
  pub well : IsWellFormed p
  pub ranked : HasNoCycle p
  pub short : IsShort p
  pub measured : IsMeasured p
  pub no_tasks : p.tasks ≡ []

-- Its checks have routines: their sizes and addresses are words, and they have no more runs than the mote's memory has room for
pub record CanBeChecked (checks : List Check) : Type 0 where
  pub few : HaveFewRuns checks
  pub words : AreOfWords checks

-- Its code can be laid out
abbrev pub CodeCanBeLaid : Type 0
CodeCanBeLaid = (p : Program) → IsCompilable p → IsCountable (code_of p) → CanBeChecked (lowered p).checks → IsGoodCode (code_of p) (lines_of p) (reset_place p)

-- The mote with an image and a bound of the stack does what the program does, at its pace and within that stack: on every board and
-- every schedule of words, after every number of slots
abbrev pub RunsProgram : Program → (words vectors : List ℕ) → (stack : ℕ) → Type 0
RunsProgram p words vectors stack =
    (b : BoardState) (rows : List Due) (n : ℕ) → IsWordBoard b → AreWordRows IsWordGiven rows →
    Allowed (source_of p) (pace_of_program p) b (mote (image_map words vectors) b rows) n × (RAM_END ≤ (mote (image_map words vectors) b rows n).least + stack)

-- Where the code is laid out and data and stack fit the memory, the mote does what the program does
abbrev pub LaidCodeRuns : Type 0
LaidCodeRuns =
    (p : Program) (words vectors : List ℕ) (stack : ℕ) → IsCompilable p → IsCountable (code_of p) → CanBeChecked (lowered p).checks → IsPlaced (code_of p) (lines_of p) (reset_place p) words vectors →
    FitsRam (code_of p) (lines_of p) (reset_place p) (data_bytes p) stack → RunsProgram p words vectors stack
