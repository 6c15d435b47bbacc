use Rattle.std.proofs.Common.{◌≡◌, ◌≤◌, ℕ, length, drop}
use Rattle.std.specs.List.{position_from}
use Rattle.indexmap.specs.IndexMap.{get}
use Rattle.wire_instances.specs.declared.plan.Made.{Made}
use Rattle.wire_pairs.specs.Application.{is_maker}
use Rattle.wire_pairs.specs.Makers.{same_line}
use Rattle.wire_pairs.proofs.makers.makers_of.Given as goal

-- the instances from place `at` on have their numbers
abbrev pub invariant-loop-at : goal.invariant-loop-at
invariant-loop-at l = record {
  within : l.at ≤ length l.made;
  placed : (instance line : ℕ) → get same_line l.makers (instance, line) ≡ position_from (λ (m : Made). is_maker instance line m.maker) l.at (drop l.at l.made);
}

abbrev pub decreases-loop-at : goal.decreases-loop-at
decreases-loop-at l = l.at
