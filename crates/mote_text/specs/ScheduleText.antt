-- The text of a schedule: a row a line, `SLOT arrive DEVICE VALUE` (own).
use Rattle.std.specs.Prelude.{◌≡◌, ◌<◌, ◌≤◌, ℕ, ◌==◌, Bool, true, ◌&&◌, nat_le, nat_eq, if◌then◌else◌, List, [], ◌∷◌, ◌++◌, length, Option, Some, None, Result, Ok, codes, decimal}
use Rattle.std.specs.Cmp.Lexicographic.{pointwise}
use Rattle.std.specs.List.{flat_map}
use Rattle.std.specs.Option.{option_map, option_and_then}
use Rattle.std.specs.Str.Lines.{lines}
use Rattle.mote_devices.specs.WordBoards.{AreWordRows, IsWordGiven}
use Rattle.mote_devices.specs.declared.shown.Due.{Due}
use Rattle.mote_devices.specs.declared.shown.Given.{Given}
use Rattle.mote_devices.specs.declared.shown.Given.TheVariants.{Arrive, Unplug}
use Rattle.mote_text.specs.Lines.{words, numeral, read_lines}

-- ---- reading

-- a slot has ten digits at most; all numbers are decimal, of 32 bits, 0 to 7, and of 16 bits
abbrev pub due_of_words : List (List ℕ) → Option Due
due_of_words (slot ∷ verb ∷ device ∷ value ∷ []) =
    if nat_le (length slot) 10 && pointwise nat_eq verb (codes "arrive") then
    option_and_then (λ s. option_and_then (λ k. option_map (λ v. record { slot = s; given = Arrive k v }) (numeral 10 65535 value)) (numeral 10 7 device)) (numeral 10 0xFFFFFFFF slot)
    else None
due_of_words _ = None

-- a blank line, or one that begins with `#`
abbrev pub is_comment : List ℕ → Bool
is_comment [] = true
is_comment (c ∷ cs) = c == 35

-- the rows so far, and the slot of the last one, or 0
pub record Rows : Type 0 where
  pub last : ℕ
  pub rows : List Due

abbrev pub no_rows : Rows
no_rows = record { last = 0; rows = [] }

-- slots do not fall
abbrev pub next_due : ℕ → List ℕ → Option Due
next_due last line = option_and_then (λ due. if nat_le last due.slot then Some due else None) (due_of_words (words line))

abbrev pub with_row : Rows → Due → Rows
with_row r due = record { last = due.slot; rows = r.rows ++ due ∷ [] }

abbrev pub schedule_step : Rows → List ℕ → Option Rows
schedule_step r line = if is_comment line then Some r else option_map (with_row r) (next_due r.last line)

-- the rows of the text, or the number of the first line that is refused
unfoldable pub schedule_of : List ℕ → Result (List Due) ℕ
schedule_of text = read_lines schedule_step (λ r. Some r.rows) 1 no_rows (lines text)

-- ---- printing

-- a row without the end of its line
abbrev pub row_text : ℕ → Given → List ℕ
row_text slot (Arrive k v) = decimal slot ++ (codes " arrive " ++ (decimal k ++ (codes " " ++ decimal v)))
row_text slot (Unplug k) = decimal slot ++ (codes " unplug " ++ decimal k)

abbrev pub due_line : Due → List ℕ
due_line due = row_text due.slot due.given ++ 10 ∷ []

abbrev pub schedule_text : List Due → List ℕ
schedule_text rows = flat_map due_line rows

-- ---- rows that have a text

abbrev pub IsArrival : Given → Type 0
IsArrival (Arrive k v) = (k < 8) × (v < 0x10000)
IsArrival (Unplug k) = ⊥

-- slots do not fall, from this one on
abbrev pub RowsFrom : ℕ → List Due → Type 0
RowsFrom least [] = Unit {0}
RowsFrom least (due ∷ rows) = (least ≤ due.slot) × (due.slot < 0x100000000) × IsArrival due.given × RowsFrom due.slot rows

pub record IsSchedule (rows : List Due) : Type 0 where
  pub few : length rows ≤ 100000
  pub ordered : RowsFrom 0 rows

-- what is printed reads back
abbrev pub ScheduleReadsBack : Type 0
ScheduleReadsBack = (rows : List Due) → IsSchedule rows → schedule_of (schedule_text rows) ≡ Ok rows

-- what is read are words
abbrev pub SchedulesAreOfWords : Type 0
SchedulesAreOfWords = (text : List ℕ) (rows : List Due) → schedule_of text ≡ Ok rows → AreWordRows IsWordGiven rows
