-- What is written and what is left are the whole piece.
use Rattle.std.proofs.Common.{◌≡◌, ◌++◌, drop, map}
use Rattle.msp_runtime.specs.Pieces.{shifted}
use Rattle.msp_runtime.proofs.pieces.put.Given as goal

abbrev pub invariant-loop-item : goal.invariant-loop-item
invariant-loop-item l = l.items.items ++ map (shifted l.first) (drop l.item-index l.piece) ≡ l.fn.items.items ++ map (shifted l.first) l.piece
