use Rattle.std.proofs.Common.{◌≡◌, map, take}
use Rattle.call_graph.specs.Search.{at_end}
use Rattle.call_graph.proofs.search.far_at_first.Given as goal

abbrev pub invariant-loop-is_end : goal.invariant-loop-is_end
invariant-loop-is_end l = l.far.items ≡ map at_end (take l.is_end-index l.ends)
