use Rattle.std.proofs.Common.{◌≡◌, ◌+◌, drop}
use Rattle.mote_run.specs.Rows.{due_count}
use Rattle.mote_run.proofs.mote.count_due.Given as goal

-- the rows so far, and the count of the rest
abbrev pub invariant-loop-row : goal.invariant-loop-row
invariant-loop-row l = record {
  all : due_count l.rows l.slot ≡ l.count + due_count (drop l.row-index l.rows) l.slot;
  each : l.count ≡ l.row-index;
}
