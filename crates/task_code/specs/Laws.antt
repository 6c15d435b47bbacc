-- What is promised of the code of programs with tasks (own).
use Rattle.std.specs.Prelude.{◌≢◌, ℕ, List}
use Rattle.std.specs.List.{AllPairs}
use Rattle.nesc_core.specs.Plain.{Program}
use Rattle.nesc_core.specs.Calls.{HasNoCycle}
use Rattle.nesc_core.specs.WellFormed.{IsWellFormed}
use Rattle.task_queue.specs.Kernel.{Fits, kernel}
use Rattle.lower_stmt.specs.Bodies.{lowered}
use Rattle.lower_form.specs.Short.{IsShort}
use Rattle.lean_pace.specs.Lean.{IsLean}
use Rattle.msp_layout.specs.Laid.{FitsRam, IsGoodCode, IsPlaced}
use Rattle.image_code.specs.Code.{IsCountable}
use Rattle.image_code.specs.Laws.{CanBeChecked, RunsProgram}
use Rattle.task_image.specs.Order.{lines_of, loop_place}
use Rattle.task_code.specs.Code.{code_of, data_bytes}

-- What is asked of a program with tasks that is compiled: they have bodies of their own, and it has a kernel, whose program is well formed and short
pub record IsCompilable (p : Program) : Type 0 where
  pub well : IsWellFormed p
  pub ranked : HasNoCycle p
  pub fits : Fits p
  pub lean : IsLean p
  pub apart : AllPairs (λ f g. f ≢ g) p.tasks
  pub kernel_well : IsWellFormed (kernel p).program
  pub short : IsShort (kernel p).program

-- Its code can be laid out
abbrev pub CodeCanBeLaid : Type 0
CodeCanBeLaid = (p : Program) → IsCompilable p → IsCountable (code_of p) → CanBeChecked (lowered (kernel p).program).checks → IsGoodCode (code_of p) (lines_of p) (loop_place p)

-- Where the code is laid out and data and stack fit the memory, the mote does what the program does
abbrev pub LaidCodeRuns : Type 0
LaidCodeRuns =
    (p : Program) (words vectors : List ℕ) (stack : ℕ) → IsCompilable p → IsCountable (code_of p) → CanBeChecked (lowered (kernel p).program).checks → IsPlaced (code_of p) (lines_of p) (loop_place p) words vectors →
    FitsRam (code_of p) (lines_of p) (loop_place p) (data_bytes p) stack → RunsProgram p words vectors stack
