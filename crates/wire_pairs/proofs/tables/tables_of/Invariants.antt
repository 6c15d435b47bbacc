use Rattle.std.proofs.Common.{◌≡◌, ◌++◌, length, map}
use Rattle.wire_names.specs.Places.{place_of}
use Rattle.wire_pairs.specs.Application.{places_in}
use Rattle.wire_pairs.proofs.tables.tables_of.Given as goal

abbrev pub invariant-loop-loaded : goal.invariant-loop-loaded
invariant-loop-loaded l = map place_of l.tables.items ++ map places_in l.rest ≡ map places_in l.units

abbrev pub decreases-loop-loaded : goal.decreases-loop-loaded
decreases-loop-loaded l = length l.rest
