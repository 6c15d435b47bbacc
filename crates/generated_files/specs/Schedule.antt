-- The rows of the generated application's schedule: ten values for the serial device in slot 2 of the board (own).
use Rattle.std.specs.Prelude.{ℕ, ◌+◌, ◌*◌, List, map}
use Rattle.std.specs.List.{range_with_len}
use Rattle.mote_devices.specs.declared.shown.Due.{Due}
use Rattle.mote_devices.specs.declared.shown.Given.TheVariants.{Arrive}

abbrev pub arrival : ℕ → Due
arrival i = record { slot = 900000 + 1000 * i; given = Arrive 2 i }

abbrev pub generated_rows : List Due
generated_rows = map arrival (range_with_len 0 10)
