-- The devices of the program's board, and what the process ends with (own).
use Rattle.std.specs.Prelude.{◌≡◌, ℕ, false, List, [], ◌∷◌, Result, Ok, Err}
use Rattle.nm_base.specs.Outside.{FilesSeen, SinkSeen}
use Rattle.mote_devices.specs.declared.state.DevState.{DevState}
use Rattle.mote_devices.specs.declared.state.DevState.TheVariants.{Leds, Timer, Serial, Radio, Sensor}
use Rattle.mote_bus.specs.Slots.{board_of}
use Rattle.nm_driver.specs.Output.{IsAnswer}
use Rattle.nm_driver.specs.Status.{status_code}
use Rattle.nm_driver.specs.declared.status.Status.{Status}

-- in slots 0 to 4; all numbers are 0, and all flags false
abbrev pub new_devices : List DevState
new_devices = Leds 0 ∷ Timer false 0 0 false ∷ Serial 0 false false false ∷ Radio false 0 0 false false false ∷ Sensor 0 false false ∷ []

-- words that are no text are none
abbrev pub words_or_none : {W E : Type 0} → (W → List (List ℕ)) → Result W E → List (List ℕ)
words_or_none words (Ok w) = words w
words_or_none words (Err e) = []

-- the process ends with the number of an answer to the words on the board of these devices
abbrev pub IsAnswered : List (List ℕ) → FilesSeen → FilesSeen → SinkSeen → SinkSeen → (number : ℕ) → Type 0
IsAnswered words files files' out out' number = (status : Status) × IsAnswer words (board_of new_devices) status files files' out out' × (number ≡ status_code status)
