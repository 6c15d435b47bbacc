use Rattle.std.proofs.Common.{◌≡◌, map, take}
use Rattle.nesc_core.specs.View.{body_of}
use Rattle.call_graph.specs.View.{use_of}
use Rattle.race_report.specs.Known.{body_uses}
use Rattle.race_report.proofs.bodies.all_uses.Given as goal

abbrev pub invariant-loop-body : goal.invariant-loop-body
invariant-loop-body l = map (map use_of) l.uses.items ≡ map body_uses (map body_of (take l.body-index l.body-items))
