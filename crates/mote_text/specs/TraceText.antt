-- The lines of a trace (own).
use Rattle.std.specs.Prelude.{ℕ, Bool, List, [], ◌∷◌, ◌++◌, codes, decimal}
use Rattle.std.specs.List.{flat_map}
use Rattle.mote_devices.specs.declared.shown.Given.TheVariants.{Arrive, Unplug}
use Rattle.mote_devices.specs.declared.shown.Shown.{Shown}
use Rattle.mote_devices.specs.declared.shown.Shown.TheVariants.{Given, In, Out, Enter, Fault}
use Rattle.nm_base.specs.Lists.{number_of}
use Rattle.mote_text.specs.Hex.{hex_word}

-- a space and a number
abbrev pub and_number : ℕ → List ℕ
and_number n = codes " " ++ decimal n

-- what was shown: numbers in decimal, ports as four hexadecimal digits
abbrev pub shown_text : Shown → List ℕ
shown_text (Given (Arrive k v)) = codes " arrive" ++ and_number k ++ and_number v
shown_text (Given (Unplug k)) = codes " unplug" ++ and_number k
shown_text (In p v) = codes " in " ++ hex_word p ++ and_number v
shown_text (Out p v) = codes " out " ++ hex_word p ++ and_number v
shown_text (Enter k) = codes " enter" ++ and_number k
shown_text (Fault c) = codes " fault" ++ and_number c

-- the slot stands first
abbrev pub event_text : ℕ → Shown → List ℕ
event_text slot shown = decimal slot ++ shown_text shown

abbrev pub event_line : ℕ × Shown → List ℕ
event_line e = event_text e.0 e.1 ++ 10 ∷ []

-- the last line: slots, instructions, the least SP, and whether the processor is off
abbrev pub end_text : ℕ → ℕ → ℕ → Bool → List ℕ
end_text slots ran least off =
    codes "end slots " ++ (decimal slots ++ (codes " ran " ++ (decimal ran ++ (codes " sp " ++ (hex_word least ++ (codes " off " ++ decimal (number_of off)))))))

abbrev pub trace_lines : List (ℕ × Shown) → List ℕ
trace_lines events = flat_map event_line events
