use Rattle.std.proofs.Common.{◌≡◌, ◌≤◌, ℕ, List, length, drop}
use Rattle.std.specs.List.{position_from}
use Rattle.wire_names.specs.Places.{place_of}
use Rattle.wire_pairs.specs.Application.{is_instance_of}
use Rattle.wire_pairs.proofs.tables.singles_of.Given as goal

-- the instances from place `at` on have their numbers
abbrev pub invariant-loop-at : goal.invariant-loop-at
invariant-loop-at l = record {
  within : l.at ≤ length l.made;
  placed : (name : List ℕ) → place_of l.places name ≡ position_from (is_instance_of l.units name) l.at (drop l.at l.made);
}

abbrev pub decreases-loop-at : goal.decreases-loop-at
decreases-loop-at l = l.at
