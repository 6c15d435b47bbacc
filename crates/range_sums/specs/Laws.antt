-- How many checks a program has, and how many runs they have together (own).
use Rattle.std.specs.Prelude.{◌≤◌, length, sum_by}
use Rattle.nesc_core.specs.Plain.{Program}
use Rattle.nesc_core.specs.Derefs.{derefs, ranges_of}
use Rattle.nesc_core.specs.Parts.{runs_of}
use Rattle.lower_stmt.specs.Bodies.{checks_of}

-- each type that bodies dereference has one check, and all of them have as many runs as the program has ranges
abbrev pub RunsAreRanges : Type 0
RunsAreRanges = (p : Program) → sum_by (λ t. length (runs_of p t)) (checks_of p) ≤ ranges_of p

-- no more checks than dereferences
abbrev pub ChecksAreFew : Type 0
ChecksAreFew = (p : Program) → length (checks_of p) ≤ length (derefs p)
