-- The numbers of the answers (own).
use Rattle.std.specs.Prelude.{ℕ}
use Rattle.nm_driver.specs.declared.status.Status.{Status}
use Rattle.nm_driver.specs.declared.status.Status.TheVariants.{Done, Refused, Usage, Missing, ReadFault, WriteFault, BadSchedule, Limit, TooLarge, NoMemory, BadImage}

abbrev pub status_code : Status → ℕ
status_code Done = 0
status_code (Refused refusal) = 1
status_code Usage = 2
status_code (Missing name) = 3
status_code ReadFault = 4
status_code WriteFault = 5
status_code (BadSchedule line) = 6
status_code (Limit limit) = 7
status_code (TooLarge room need) = 8
status_code NoMemory = 9
status_code (BadImage line) = 10
