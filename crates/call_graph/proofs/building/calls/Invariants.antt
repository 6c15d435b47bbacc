use Rattle.std.proofs.Common.{◌≡◌}
use Rattle.std.specs.List.{flat_map}
use Rattle.nesc_core.specs.View.{program_of}
use Rattle.call_graph.specs.Paths.{below}
use Rattle.call_graph.specs.Graph.{calls_from}
use Rattle.call_graph.proofs.building.calls.Given as goal

abbrev pub invariant-loop-f : goal.invariant-loop-f
invariant-loop-f l = l.calls.items ≡ flat_map (calls_from (program_of l.p)) (below l.f)
