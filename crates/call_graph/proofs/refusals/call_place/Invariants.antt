use Rattle.std.proofs.Common.{◌≡◌, map, drop}
use Rattle.call_graph.specs.View.{use_of}
use Rattle.call_graph.specs.Refusals.{call_place}
use Rattle.call_graph.proofs.refusals.call_place.Given as goal

abbrev pub invariant-loop-u : goal.invariant-loop-u
invariant-loop-u l = call_place (map use_of (drop l.u-index l.uses)) l.to ≡ call_place (map use_of l.uses) l.to
