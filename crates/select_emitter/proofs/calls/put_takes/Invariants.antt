-- What is written and what is left are the moves of all values.
use Rattle.std.proofs.Common.{◌≡◌, ◌++◌, ◌+◌, drop}
use Rattle.msp_select.specs.Frames.{frame_home, own_bytes}
use Rattle.msp_select.specs.Select.{takes, items_of}
use Rattle.select_emitter.proofs.calls.put_takes.Given as goal

abbrev pub invariant-loop-x : goal.invariant-loop-x
invariant-loop-x l = record {
  items : l.items.items ++ items_of (takes l.scope.code.now (frame_home l.scope.function.now) (own_bytes l.scope.function.now) l.r (drop l.x-index l.vs)) ≡ l.fn.items.items ++ items_of (takes l.scope.code.now (frame_home l.scope.function.now) (own_bytes l.scope.function.now) 12 l.vs);
  register : l.r ≡ 12 + l.x-index;
}
