-- A board with another device in a slot.
use Rattle.std.specs.Prelude.{ℕ, Option, slice_set}
use Rattle.mote_devices.specs.declared.state.BoardState.{BoardState}
use Rattle.mote_devices.specs.declared.state.DevState.{DevState}

abbrev pub with_slot : BoardState → (k : ℕ) → Option DevState → BoardState
with_slot b k slot = record b { slots = slice_set b.slots k slot }
