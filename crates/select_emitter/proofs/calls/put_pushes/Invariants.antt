-- What is written and what is left are the pushes of all values whose flag is set.
use Rattle.std.proofs.Common.{◌≡◌, ◌++◌, ◌+◌, ◌≤◌, length}
use Rattle.mid_code.specs.Form.{AreBelow}
use Rattle.msp_select.specs.Frames.{frame_home, own_bytes}
use Rattle.msp_select.specs.Select.{items_of, pushes}
use Rattle.select_emitter.specs.Pushes.{chosen}
use Rattle.select_emitter.proofs.calls.put_pushes.Given as goal

abbrev pub invariant-loop-flag : goal.invariant-loop-flag
invariant-loop-flag l = record {
  items : l.items.items ++ items_of (pushes l.scope.code.now (frame_home l.scope.function.now) (own_bytes l.scope.function.now) l.deeper (chosen l.flags l.vs)) ≡ l.fn.items.items ++ items_of (pushes l.scope.code.now (frame_home l.scope.function.now) (own_bytes l.scope.function.now) 0 (chosen l.fn.flags l.fn.vs));
  few : l.deeper + length (chosen l.flags l.vs) ≤ 5120;
  below : AreBelow l.scope.function.now.values l.vs;
}

abbrev pub decreases-loop-flag : goal.decreases-loop-flag
decreases-loop-flag l = length l.flags
