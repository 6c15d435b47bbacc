use Rattle.std.proofs.Common.{◌≡◌, ◌+◌, ◌*◌, ◌<◌, ◌++◌, ◌^◌}
use Rattle.stmt_emitter.specs.Located.{clears_in}
use Rattle.stmt_emitter.proofs.locals.put_clears.Given as goal

abbrev pub invariant-loop-left : goal.invariant-loop-left
invariant-loop-left l = record {
  code : l.code.items ++ clears_in l.scope l.r l.left l.at l.label ≡ l.fn.code.items ++ clears_in l.scope l.r l.fn.count l.x l.l;
  locals : l.at + l.left < 2 ^ 40;
  labels : l.label + 2 * l.left < 2 ^ 32;
}

abbrev pub decreases-loop-left : goal.decreases-loop-left
decreases-loop-left l = l.left
