-- The limit of a report's length (own).
use Rattle.std.specs.Prelude.{⊤, ◌≡◌, ℕ, ◌<◌, ◌≤◌, List, length}
use Rattle.nm_base.specs.declared.limit.Which.TheVariants.{Rows}
use Rattle.nm_base.specs.declared.fault.Fault.{Fault}
use Rattle.nm_base.specs.declared.fault.Fault.TheVariants as fault
use Rattle.nesc_core.specs.Plain.{Program}
use Rattle.race_checker.specs.declared.row.Row.{Row}
use Rattle.race_checker.specs.Computed.{report_of}

-- the greatest number of rows
abbrev pub most : ℕ
most = 10000

-- no more rows than these, and exactly these up to the limit
pub record IsUpToLimit (whole rows : List Row) : Type 0 where
  pub no_more : length rows ≤ length whole
  pub these : length rows ≤ most → rows ≡ whole

-- why there is no report
abbrev pub IsWhy : Program → Fault → Type 0
IsWhy p (fault.Limit l) = (l ≡ record { which = Rows; have = 10001 }) × (most < length (report_of p))
IsWhy p fault.NoMemory = ⊤
IsWhy p _ = ⊥
