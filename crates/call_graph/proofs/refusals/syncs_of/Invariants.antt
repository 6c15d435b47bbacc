use Rattle.std.proofs.Common.{◌≡◌, map, take}
use Rattle.nesc_core.specs.View.{body_of}
use Rattle.call_graph.specs.Refusals.{is_sync_body}
use Rattle.call_graph.proofs.refusals.syncs_of.Given as goal

abbrev pub invariant-loop-body : goal.invariant-loop-body
invariant-loop-body l = l.syncs.items ≡ map is_sync_body (map body_of (take l.body-index l.body-items))
