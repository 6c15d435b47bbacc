-- All code of the image of a program with tasks, and the bytes of its data: those of its kernel's program, and round it the loop of tasks (own).
use Rattle.std.specs.Prelude.{ℕ, List}
use Rattle.nesc_core.specs.Plain.{Program}
use Rattle.task_queue.specs.Kernel.{kernel}
use Rattle.msp_isa.specs.declared.code.CodeFn.{CodeFn}
use Rattle.lower_stmt.specs.Bodies.{lowered}
use Rattle.msp_routines.specs.Routines.{routine_fns}
use Rattle.select_emitter.specs.Code.{all_code}
use Rattle.image_code.specs.Code as plain
use Rattle.task_image.specs.Order.{task_image_code}

-- functions of the kernel's bodies, routines, a lone RET, the loop, and the code of the lines
abbrev pub code_of : Program → List CodeFn
code_of p = task_image_code p (all_code (lowered (kernel p).program)) (routine_fns (lowered (kernel p).program).checks)

-- up to where the kernel's bytes end, an even number
abbrev pub data_bytes : Program → ℕ
data_bytes p = plain.data_bytes (kernel p).program
