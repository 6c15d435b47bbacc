use Rattle.std.proofs.Common.{◌≡◌, ◌≤◌, ℕ, List, length, drop}
use Rattle.std.specs.List.{position_from}
use Rattle.wire_names.specs.Places.{place_of}
use Rattle.wire_units.specs.declared.loaded.Loaded.{Loaded}
use Rattle.wire_units.specs.Units.{is_named, name_of}
use Rattle.elab_application.proofs.interfaces.numbers_of.Given as goal

-- the files from place `at` on have their numbers
abbrev pub invariant-loop-at : goal.invariant-loop-at
invariant-loop-at l = record {
  within : l.at ≤ length l.units;
  placed : (name : List ℕ) → place_of l.places name ≡ position_from (λ (u : Loaded). is_named name (name_of u.unit.part)) l.at (drop l.at l.units);
}

abbrev pub decreases-loop-at : goal.decreases-loop-at
decreases-loop-at l = l.at
