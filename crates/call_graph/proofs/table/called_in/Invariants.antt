use Rattle.std.proofs.Common.{◌≡◌, ◌++◌, map, drop}
use Rattle.std.specs.List.{flat_map}
use Rattle.call_graph.specs.Graph.{called}
use Rattle.call_graph.specs.View.{use_of}
use Rattle.call_graph.proofs.table.called_in.Given as goal

abbrev pub invariant-loop-u : goal.invariant-loop-u
invariant-loop-u l = l.bodies.items ++ flat_map (called l.is_bare) (map use_of (drop l.u-index l.uses)) ≡ flat_map (called l.is_bare) (map use_of l.uses)
