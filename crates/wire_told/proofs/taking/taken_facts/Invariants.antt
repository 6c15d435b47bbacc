use Rattle.std.proofs.Common.{◌≡◌, ◌-◌, ◌++◌, length, drop, map}
use Rattle.wire_facts.specs.Seen.{facts_in}
use Rattle.wire_elements.specs.View.{seen_of}
use Rattle.wire_told.specs.View.{scopes_of}
use Rattle.wire_told.proofs.taking.taken_facts.Given as goal

abbrev pub invariant-loop-at : goal.invariant-loop-at
invariant-loop-at l = record {
  facts : l.facts.items ++ map facts_in (map seen_of (drop l.at l.seen.items)) ≡ map facts_in (map seen_of l.fn.seen.items);
  scopes : scopes_of (map seen_of l.seen.items) ≡ scopes_of (map seen_of l.fn.seen.items);
}

abbrev pub decreases-loop-at : goal.decreases-loop-at
decreases-loop-at l = length l.seen.items - l.at
