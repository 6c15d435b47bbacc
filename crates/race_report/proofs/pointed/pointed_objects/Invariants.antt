use Rattle.std.proofs.Common.{◌≡◌, filter}
use Rattle.nesc_core.specs.View.{program_of, type_of}
use Rattle.call_graph.specs.Paths.{below}
use Rattle.race_report.specs.Starts.{is_pointed}
use Rattle.race_report.proofs.pointed.pointed_objects.Given as goal

abbrev pub invariant-loop-x : goal.invariant-loop-x
invariant-loop-x l = l.objects.items ≡ filter (is_pointed (program_of l.p) (type_of l.t)) (below l.x)
