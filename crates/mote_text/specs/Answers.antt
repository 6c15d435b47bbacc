-- What the readers answer in place of what a text says (own). Memory may be wanting at any text.
use Rattle.std.specs.Prelude.{◌≡◌, ◌<◌, ℕ, List, length, Ok, Err}
use Rattle.mote_devices.specs.declared.shown.Due.{Due}
use Rattle.nm_base.specs.declared.limit.Which.TheVariants.{Schedule}
use Rattle.mote_text.specs.declared.text_fault.TextFault.{TextFault}
use Rattle.mote_text.specs.declared.text_fault.TextFault.TheVariants.{BadImage, BadSchedule, Limit, NoMemory}
use Rattle.mote_text.specs.ImageLines.{image_of}
use Rattle.mote_text.specs.ScheduleText.{schedule_of}

-- the first line that is refused
abbrev pub IsImageFault : List ℕ → TextFault → Type 0
IsImageFault text (BadImage line) = image_of text ≡ Err line
IsImageFault text NoMemory = Unit {0}
IsImageFault text _ = ⊥

-- the first line that is refused, or more than 100,000 rows
abbrev pub IsScheduleFault : List ℕ → TextFault → Type 0
IsScheduleFault text (BadSchedule line) = schedule_of text ≡ Err line
IsScheduleFault text (Limit limit) = (limit ≡ record { which = Schedule; have = 100001 }) × ((rows : List Due) × (schedule_of text ≡ Ok rows) × (100000 < length rows))
IsScheduleFault text NoMemory = Unit {0}
IsScheduleFault text _ = ⊥
