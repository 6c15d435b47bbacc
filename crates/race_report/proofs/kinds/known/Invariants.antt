use Rattle.std.proofs.Common.{◌≡◌, drop}
use Rattle.nesc_core.specs.View.{type_of}
use Rattle.race_report.specs.Kinds.{objects_in}
use Rattle.race_report.proofs.kinds.known.Given as goal

abbrev pub invariant-loop-kind : goal.invariant-loop-kind
invariant-loop-kind l = objects_in (drop l.kind-index l.kinds) (type_of l.t) ≡ objects_in l.kinds (type_of l.t)
