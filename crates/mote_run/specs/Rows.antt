-- The rows of a schedule, and what happens when they are due (own).
use Rattle.std.specs.Prelude.{◌≤◌, ◌==◌, ℕ, suc, if◌then◌else◌, List, [], ◌∷◌, map}
use Rattle.mote_devices.specs.declared.state.BoardState.{BoardState}
use Rattle.mote_devices.specs.declared.shown.Due.{Due}
use Rattle.mote_devices.specs.declared.shown.Shown.{Shown}
use Rattle.mote_devices.specs.declared.shown.Shown.TheVariants as shown
use Rattle.mote_devices.specs.Board.{board_given}
use Rattle.mote_devices.specs.Outside.{Outside, outside_given}

-- the slots of the rows do not fall, and none is below n
abbrev pub DoNotFallFrom : ℕ → List Due → Type 0
DoNotFallFrom n [] = Unit {0}
DoNotFallFrom n (row ∷ rows) = (n ≤ row.slot) × DoNotFallFrom row.slot rows

abbrev pub DoNotFall : List Due → Type 0
DoNotFall rows = DoNotFallFrom 0 rows

-- how many of the first rows are those of slot s
abbrev pub due_count : List Due → ℕ → ℕ
due_count [] s = 0
due_count (row ∷ rows) s = if row.slot == s then suc (due_count rows s) else 0

-- the rows happen, in order
abbrev pub happen : List Due → Outside → Outside
happen [] o = o
happen (row ∷ rows) o = happen rows (outside_given o row.given)

-- a board after these rows
abbrev pub board_after : BoardState → List Due → BoardState
board_after b [] = b
board_after b (row ∷ rows) = board_after (board_given b row.given) rows

-- what the rows show
abbrev pub arrivals : List Due → List Shown
arrivals rows = map (λ row. shown.Given row.given) rows
