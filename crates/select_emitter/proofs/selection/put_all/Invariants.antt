-- What is written and what is left are the items of all instructions.
use Rattle.std.proofs.Common.{◌≡◌, ◌++◌, drop}
use Rattle.select_emitter.specs.Scoped.{all_items_in}
use Rattle.select_emitter.proofs.selection.put_all.Given as goal

abbrev pub invariant-loop-instr : goal.invariant-loop-instr
invariant-loop-instr l = l.items.items ++ all_items_in l.scope (drop l.instr-index l.instr-items) ≡ l.fn.items.items ++ all_items_in l.scope l.instr-items
