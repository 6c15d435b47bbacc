-- The functions of routines (own).
use Rattle.std.specs.Prelude.{ℕ, ◌-◌, List, [], map}
use Rattle.std.specs.List.{range_with_len}
use Rattle.msp_isa.specs.declared.code.CodeFn.{CodeFn}
use Rattle.msp_isa.specs.declared.code.Item.{Item}
use Rattle.msp_select.specs.Routine.{routine_stack}
use Rattle.msp_runtime.specs.Code.{Code, routine_items}
use Rattle.msp_runtime.specs.Routines.{code_at}

-- Selected code sets so much aside for any routine, below the return address, whatever the routine needs of it
abbrev pub routine_frame : ℕ
routine_frame = routine_stack - 2

-- a function that calls none
abbrev pub routine_fn : List Item → CodeFn
routine_fn items = record { frame = routine_frame; items = items; calls = [] }

abbrev pub code_fn : Code → CodeFn
code_fn c = routine_fn (routine_items c)

-- one for each number below 48
abbrev pub operation_fns : List CodeFn
operation_fns = map (λ h. code_fn (code_at h)) (range_with_len 0 48)
