use Rattle.std.proofs.Common.{◌≡◌, ℕ, ◌+◌, ◌<◌, ◌≤◌, length, drop, get_or, unwrap_or}
use Rattle.indexmap.specs.IndexMap.{get}
use Rattle.wire_targets.specs.declared.end.Wire.{Wire}
use Rattle.wire_targets.specs.Next.{Place, place_of, same_place, next_at}
use Rattle.wire_targets.proofs.table.Table.new.Given as goal

abbrev pub invariant-loop-at : goal.invariant-loop-at
invariant-loop-at l = record {
  within : l.at ≤ length l.wires;
  size : length l.after.items ≡ length l.wires;
  first : (p : Place) → unwrap_or (get same_place l.first p) (length l.wires) ≡ next_at p l.at (drop l.at l.wires);
  after : (k : ℕ) (d : Wire) → l.at ≤ k → k < length l.wires → get_or l.after.items k 0 ≡ next_at (place_of (get_or l.wires k d)) (k + 1) (drop (k + 1) l.wires);
}

abbrev pub decreases-loop-at : goal.decreases-loop-at
decreases-loop-at l = l.at
