-- What the routine of a check takes of the code (own).
use Rattle.std.specs.Prelude.{◌≤◌, ◌+◌, ◌*◌, ℕ, List, length, sum}
use Rattle.mid_code.specs.declared.code.Check.{Check}
use Rattle.msp_layout.specs.Sizes.{IsShortest}
use Rattle.msp_checks.specs.Checks.{check_items}

-- The bytes of a check's routine: at most 24 for each run, and 62
abbrev pub ChecksAreSmall : Type 0
ChecksAreSmall = (check : Check) (sizes : List ℕ) → IsShortest (check_items check) sizes → sum sizes ≤ 24 * length check.runs + 62
