use Rattle.std.proofs.Common.{length, map}
use Rattle.nesc_core.specs.View.{expr_of}
use Rattle.program_meaning.specs.Dispatch.{own_parameter}
use Rattle.elab_dispatch.proofs.Ranges.{other-pushed}
use Rattle.elab_dispatch.proofs.arguments.push_others.Goals as goal

pub loop-k-preserved : goal.loop-k-preserved
loop-k-preserved c =
    other-pushed c.args.i.at (length (own_parameter c.args.i.own)) c.own_count-first.result c.loop-k.k (map expr_of c.args.arguments.now.items) c.loop-k.arguments.items c.push.new.self.items c.local.result
    c.own_count-first.ensures.count c.loop-k.invariant c.in_ok-push.ensures.items c.local.ensures
