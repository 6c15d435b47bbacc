-- The calls so far, and those of what is left.
use Rattle.std.proofs.Common.{◌≡◌, ◌++◌, drop}
use Rattle.select_emitter.specs.Code.{called}
use Rattle.select_emitter.proofs.selection.called.Given as goal

abbrev pub invariant-loop-item : goal.invariant-loop-item
invariant-loop-item l = l.calls.items ++ called (drop l.item-index l.items) ≡ called l.items
