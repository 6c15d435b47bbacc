use Rattle.std.proofs.Common.{◌≡◌, ◌+◌, ◌≤◌, take}
use Rattle.mote_bus.specs.Accesses.{events_of}
use Rattle.mote_run.specs.Totals.{all_counted}
use Rattle.mote_run.proofs.totals.with_step.Given as goal

-- the events of the accesses so far
abbrev pub invariant-loop-access : goal.invariant-loop-access
invariant-loop-access l = record {
  counts : l.sum ≡ all_counted l.fn.totals (events_of (take l.access-index l.accesses));
  few : l.sum.outs + l.sum.enters ≤ l.fn.totals.outs + l.fn.totals.enters + l.access-index;
}
