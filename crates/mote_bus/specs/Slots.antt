-- A board by the list of its devices, and what a processor does to it.
use Rattle.std.specs.Prelude.{ℕ, ◌-◌, ◌%◌, ◌==◌, if◌then◌else◌, List, ◌++◌, map, length, replicate, Option, Some, None}
use Rattle.std.specs.Option.{option_map}
use Rattle.nm_base.specs.declared.memory_map.TheConstants.{FAULT}
use Rattle.nm_base.specs.Ports.{Ports}
use Rattle.mote_devices.specs.declared.state.DevState.{DevState}
use Rattle.mote_devices.specs.declared.state.BoardState.{BoardState}
use Rattle.mote_devices.specs.Board.{board_answer, board_read, board_write, board_ack, line_of}
use Rattle.mote_devices.specs.Outside.{first_code}

-- the board with this mask and these slots, given what the state of a device is
abbrev pub board_with : {D : Type 0} → (D → DevState) → ℕ → List (Option D) → BoardState
board_with state mask slots = record { mask = mask; slots = map (option_map state) slots }

-- the board at reset, with these devices in its first slots
abbrev pub board_of : List DevState → BoardState
board_of devices = record { mask = 0; slots = map Some devices ++ replicate (8 - length devices) None }

-- a board, and the first code that was written to FAULT
pub record Bare : Type 0 where
  pub board : BoardState
  pub stopped : Option ℕ

abbrev pub bare_put : Bare → ℕ → ℕ → Bare
bare_put b p v =
    if p == FAULT
    then record { board = b.board; stopped = first_code b.stopped (v % 256) }
    else record { board = board_write b.board p v; stopped = b.stopped }

-- the board as a processor's ports, with no list of what it showed
abbrev pub bare_ports : Ports Bare
bare_ports = record {
  get = λ b p. (board_answer b.board p, record { board = board_read b.board p; stopped = b.stopped });
  put = bare_put;
  line = λ b. line_of b.board;
  accept = λ b v. record { board = board_ack b.board v; stopped = b.stopped };
  stopped = λ b. b.stopped;
  illegal = λ b. record { board = b.board; stopped = first_code b.stopped 256 };
}
