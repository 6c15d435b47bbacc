-- The code of a program's image and the bytes of its data, whether the program has tasks or not: where it has, the code is that of its kernel, with the loop of tasks (own).
use Rattle.std.specs.Prelude.{◌≤◌, ℕ, List, [], ◌∷◌}
use Rattle.nm_base.specs.declared.fault.Fault.{Fault}
use Rattle.nesc_core.specs.Plain.{Program}
use Rattle.nesc_core.specs.Weights.{code_weight}
use Rattle.task_queue.specs.Kernel.{kernel}
use Rattle.mid_code.specs.declared.code.MidCode.{MidCode}
use Rattle.lower_stmt.specs.Bodies.{lowered}
use Rattle.lean_pace.specs.Lean.{IsLean}
use Rattle.msp_isa.specs.declared.code.CodeFn.{CodeFn}
use Rattle.msp_layout.specs.Bytes.{HasBytes}
use Rattle.msp_layout.specs.Depth.{IsStack}
use Rattle.msp_layout.specs.Laid.{HasCause, PassesRam}
use Rattle.program_image.specs.Order as plain_order
use Rattle.image_code.specs.Code as plain
use Rattle.image_code.specs.Laws.{CanBeChecked}
use Rattle.image_code.specs.Laws as plain_laws
use Rattle.image_sizes.specs.Laws.{IsNeedOfWeights}
use Rattle.image_sizes.specs.StackWeight.{IsStackWeight}
use Rattle.task_image.specs.Order as task_order
use Rattle.task_code.specs.Code as task
use Rattle.task_code.specs.Laws as task_laws

-- the first where there are no tasks, and else the second
abbrev pub by_tasks : {X : Type 0} → List ℕ → X → X → X
by_tasks [] plain tasks = plain
by_tasks (f ∷ fs) plain tasks = tasks

abbrev pub code_of : Program → List CodeFn
code_of p = by_tasks p.tasks (plain.code_of p) (task.code_of p)

abbrev pub lines_of : Program → List ℕ
lines_of p = by_tasks p.tasks (plain_order.lines_of p) (task_order.lines_of p)

abbrev pub reset_place : Program → ℕ
reset_place p = by_tasks p.tasks (plain_order.reset_place p) (task_order.loop_place p)

abbrev pub data_bytes : Program → ℕ
data_bytes p = by_tasks p.tasks (plain.data_bytes p) (task.data_bytes p)

-- the middle code of the program, or of its kernel
abbrev pub middle_of : Program → MidCode
middle_of p = lowered (by_tasks p.tasks p (kernel p).program)

abbrev pub IsCompilableWith : List ℕ → Program → Type 0
IsCompilableWith [] p = plain_laws.IsCompilable p × IsLean p
IsCompilableWith (f ∷ fs) p = task_laws.IsCompilable p

-- What is asked of a program that is compiled
abbrev pub IsCompilable : Program → Type 0
IsCompilable p = IsCompilableWith p.tasks p

-- the image's causes of an answer: its code, or else its data and stack, are more than the mote's memory holds, or memory is wanting
abbrev pub IsCause : Program → Fault → Type 0
IsCause p e = HasCause (code_of p) (lines_of p) (reset_place p) (data_bytes p) e

-- ---- the weights

abbrev pub CodeIsWithinWeight : Type 0
CodeIsWithinWeight = (p : Program) (bytes : ℕ) → IsCompilable p → HasBytes (code_of p) bytes → bytes ≤ code_weight p

abbrev pub StackIsWithinWeight : Type 0
StackIsWithinWeight =
    (p : Program) (stack weight : ℕ) → IsCompilable p → CanBeChecked (middle_of p).checks → IsStack (code_of p) (lines_of p) (reset_place p) stack → IsStackWeight p weight → stack ≤ weight

abbrev pub MemoryIsWithinWeights : Type 0
MemoryIsWithinWeights =
    (p : Program) (weight need : ℕ) → IsCompilable p → CanBeChecked (middle_of p).checks → IsStackWeight p weight → PassesRam (code_of p) (lines_of p) (reset_place p) (data_bytes p) need → IsNeedOfWeights p weight need
