-- All code of a program's image, and the bytes of its data (own).
use Rattle.std.specs.Prelude.{ℕ, ◌-◌, ◌^◌, ◌<◌, List, length}
use Rattle.nesc_core.specs.Plain.{Program}
use Rattle.nesc_core.specs.Weights.{objects_end, objects_start}
use Rattle.msp_isa.specs.declared.code.CodeFn.{CodeFn}
use Rattle.msp_isa.specs.Stands.{items_of}
use Rattle.lower_stmt.specs.Bodies.{lowered}
use Rattle.msp_select.specs.Frames.{rounded}
use Rattle.msp_routines.specs.Routines.{routine_fns}
use Rattle.select_emitter.specs.Code.{all_code}
use Rattle.program_image.specs.Order.{image_code}

-- functions of bodies, routines, and the code of reset and of the lines
abbrev pub code_of : Program → List CodeFn
code_of p = image_code p (all_code (lowered p)) (routine_fns (lowered p).checks)

-- up to where the last object ends, an even number
abbrev pub data_bytes : Program → ℕ
data_bytes p = rounded (objects_end p - objects_start)

-- no function has so many items that 32 bits do not count its bytes
abbrev pub IsCountable : List CodeFn → Type 0
IsCountable code = (f : ℕ) → f < length code → length (items_of code f) < 2 ^ 28
