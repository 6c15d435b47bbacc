use Rattle.std.proofs.Common.{◌≡◌, drop}
use Rattle.mote_text.specs.Cells.{cells_map}
use Rattle.mote_text.specs.ImageLines.{stored}
use Rattle.mote_text.proofs.reader.store.Given as goal

-- the bytes that are left go where all of them lead
abbrev pub invariant-loop-byte : goal.invariant-loop-byte
invariant-loop-byte l =
    stored (cells_map l.cells.bytes.items) l.address (drop l.byte-index l.bytes)
    ≡ stored (cells_map l.fn.cells.bytes.items) l.fn.address l.bytes
