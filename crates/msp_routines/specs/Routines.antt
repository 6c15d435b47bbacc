-- All routines of compiled code, in the order of their places: those of 48 operations, and behind them those of checks (own).
use Rattle.std.specs.Prelude.{ℕ, ◌+◌, ◌-◌, ◌<◌, ◌≤◌, ◌⊎◌, nat_lt, List, ◌++◌, Option, None, Some, slice_get, if◌then◌else◌}
use Rattle.msp_isa.specs.declared.code.CodeFn.{CodeFn}
use Rattle.mid_code.specs.declared.code.Check.{Check}
use Rattle.mid_code.specs.Help.{first_check}
use Rattle.msp_runtime.specs.Code.{weight}
use Rattle.msp_runtime.specs.Emitted.{operation_fns}
use Rattle.msp_runtime.specs.Routines.{code_at}
use Rattle.msp_checks.specs.Checks.{check_fns, check_most}

abbrev pub routine_fns : List Check → List CodeFn
routine_fns checks = operation_fns ++ check_fns checks

-- the code of a program: its functions, the routines, and what stands behind them
abbrev pub with_routines : (functions : List CodeFn) → List Check → (behind : List CodeFn) → List CodeFn
with_routines functions checks behind = functions ++ (operation_fns ++ (check_fns checks ++ behind))

-- the numbers of helpers that have a routine
abbrev pub HasRoutine : (checks : ℕ) → ℕ → Type 0
HasRoutine checks h = (h < 48) ⊎ ((first_check ≤ h) × (h < first_check + checks))

-- a routine takes fewer instructions
abbrev pub check_bound : Option Check → ℕ
check_bound None = 0
check_bound (Some check) = check_most check

abbrev pub routine_bound : List Check → ℕ → ℕ
routine_bound checks h = if nat_lt h first_check then weight (code_at h) + 2 else check_bound (slice_get checks (h - first_check))
