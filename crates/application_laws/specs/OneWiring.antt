-- Files that are told give one application (own).
use Rattle.std.specs.Prelude.{◌≡◌, Ok, Err}
use Rattle.wire_reading.specs.Order.{Name}
use Rattle.wire_reading.specs.Told.{IsOfFiles, Told}
use Rattle.wire_loading.specs.declared.stopped.Stopped.{Stopped}
use Rattle.unit_parsing.specs.Parsing.{Declares, Parses}
use Rattle.nesc_wiring.specs.Loads.{Loads, Wiring}

pub record OneWiring : Type 0 where
  -- files that give an application give the same each time
  pub one : (told : Told) (app : Name) (w v : Wiring) → Loads Declares Parses told app (Ok w) → Loads Declares Parses told app (Ok v) → w ≡ v
  -- they are not refused
  pub no_fault : (told : Told) (app : Name) (w : Wiring) (s : Stopped) → Loads Declares Parses told app (Ok w) → Loads Declares Parses told app (Err s) → IsOfFiles s.fault → ⊥
