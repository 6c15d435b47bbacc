-- Boards whose registers hold words, as those of devices do, and schedules of words (own).
use Rattle.std.specs.Prelude.{◌<◌, ◌≤◌, length, List, Option, Some, None}
use Rattle.std.specs.List.{AllByRecursion}
use Rattle.mote_devices.specs.declared.state.BoardState.{BoardState}
use Rattle.mote_devices.specs.declared.state.DevState.{DevState}
use Rattle.mote_devices.specs.declared.state.DevState.TheVariants.{Leds, Timer, Serial, Radio, Sensor}
use Rattle.mote_devices.specs.declared.shown.Due.{Due}
use Rattle.mote_devices.specs.declared.shown.Given.{Given}
use Rattle.mote_devices.specs.declared.shown.Given.TheVariants.{Arrive, Unplug}

abbrev pub IsWordDevice : DevState → Type 0
IsWordDevice (Leds value) = value < 0x10000
IsWordDevice (Timer on period left flag) = (period < 0x10000) × (left < 0x10000)
IsWordDevice (Serial rx full over flag) = rx < 0x10000
IsWordDevice (Radio on addr rx full lost flag) = (addr < 0x10000) × (rx < 0x10000)
IsWordDevice (Sensor value asked flag) = value < 0x10000

abbrev pub IsWordSlot : Option DevState → Type 0
IsWordSlot None = Unit {0}
IsWordSlot (Some d) = IsWordDevice d

pub record IsWordBoard (b : BoardState) : Type 0 where
  pub mask : b.mask < 0x10000
  pub slots : AllByRecursion IsWordSlot b.slots
  pub eight : length b.slots ≤ 8

abbrev pub IsWordGiven : Given → Type 0
IsWordGiven (Arrive k v) = v < 0x10000
IsWordGiven (Unplug k) = Unit {0}

-- rows whose given events are words
abbrev pub AreWordRows : (Given → Type 0) → List Due → Type 0
AreWordRows IsWord rows = AllByRecursion (λ (row : Due). IsWord row.given) rows
