use Rattle.std.proofs.Common.{◌≡◌, ◌<◌, ◌^◌, false, map, sym, subst, arith}
use Rattle.nesc_core.specs.Nodes.{stmt_nodes_of}
use Rattle.nesc_core.specs.View.{stmt_of}
use Rattle.call_graph.specs.Uses.{stmt_uses}
use Rattle.call_graph.specs.View.{use_of}
use Rattle.call_graph.proofs.Graphs.{calls_more}
use Rattle.call_graph.proofs.Tables.{counted_body}
use Rattle.call_graph.proofs.building.calls.Goals as goal

pub uses_in-requires : goal.uses_in-requires
uses_in-requires c =
    subst (λ b. stmt_nodes_of (stmt_of b.code) < 2 ^ 32) c.index-bodies-f.is
    (counted_body c.args.p.now c.as_slice-bodies.result.now c.loop-f.f c.index-bodies-f.result c.requires c.as_slice-bodies.ensures (omega arith) c.index-bodies-f.is)

pub loop-f-preserved : goal.loop-f-preserved
loop-f-preserved c =
    calls_more c.args.p.now c.as_slice-bodies.result.now c.loop-f.f c.index-bodies-f.result c.loop-f.calls.items c.push_calls.new.calls.items c.in_ok-uses.uses.items c.deref.result.now
    c.as_slice-bodies.ensures (omega arith) c.index-bodies-f.is c.loop-f.invariant c.deref.ensures.value
    (subst (λ b. map use_of c.in_ok-uses.uses.items ≡ stmt_uses 0 false (stmt_of b.code)) (sym c.index-bodies-f.is) c.in_ok-uses.ensures) c.in_ok-push_calls.ensures
