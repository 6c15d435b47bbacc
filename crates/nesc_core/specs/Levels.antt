-- Levels that are counted up to a bound (own).
use Rattle.std.specs.Prelude.{ℕ, min}
use Rattle.nesc_core.specs.declared.levels.TheConstants.{MOST_LEVELS}

abbrev pub counted : ℕ → ℕ
counted levels = min levels MOST_LEVELS
