use Rattle.std.proofs.Common.{◌≡◌, ◌≤◌, ℕ, List, length, drop}
use Rattle.std.specs.Prelude.{bytes_eq}
use Rattle.std.specs.List.{position_from}
use Rattle.nesc_tree.specs.declared.components.Elem.{Elem}
use Rattle.wire_names.specs.Places.{place_of}
use Rattle.wire_pairs.proofs.tables.places_of.Given as goal

-- the elements from place `at` on have their places
abbrev pub invariant-loop-at : goal.invariant-loop-at
invariant-loop-at l = record {
  within : l.at ≤ length l.elems;
  placed : (name : List ℕ) → place_of l.places name ≡ position_from (λ (e : Elem). bytes_eq name e.name) l.at (drop l.at l.elems);
}

abbrev pub decreases-loop-at : goal.decreases-loop-at
decreases-loop-at l = l.at
