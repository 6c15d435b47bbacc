use Rattle.std.proofs.Common.{◌≡◌, ◌+◌, length}
use Rattle.std.specs.Prelude.{codes}
use Rattle.std.specs.List.{position_from}
use Rattle.wire_units.specs.declared.loaded.Loaded.{Loaded}
use Rattle.wire_units.specs.Units.{number_of, name_of, is_named}
use Rattle.wire_phases.proofs.creation.main_of.Given as goal

-- the files before have other names
abbrev pub invariant-loop-loaded : goal.invariant-loop-loaded
invariant-loop-loaded l = record {
  found : position_from (λ (u : Loaded). is_named (codes "MainC") (name_of u.unit.part)) l.at l.rest ≡ number_of l.units (codes "MainC");
  within : l.at + length l.rest ≡ length l.units;
}

abbrev pub decreases-loop-loaded : goal.decreases-loop-loaded
decreases-loop-loaded l = length l.rest
