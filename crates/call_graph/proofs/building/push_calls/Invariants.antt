use Rattle.std.proofs.Common.{◌≡◌, ◌++◌, map, drop}
use Rattle.std.specs.List.{flat_map}
use Rattle.call_graph.specs.Graph.{call_of}
use Rattle.call_graph.specs.View.{use_of}
use Rattle.call_graph.proofs.building.push_calls.Given as goal

abbrev pub invariant-loop-u : goal.invariant-loop-u
invariant-loop-u l =
    l.calls.items ++ flat_map (call_of l.from) (map use_of (drop l.u-index l.uses)) ≡ l.fn.calls.items ++ flat_map (call_of l.from) (map use_of l.uses)
