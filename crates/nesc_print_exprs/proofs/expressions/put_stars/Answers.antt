use Rattle.std.proofs.Common.{arith}
use Rattle.nesc_print_exprs.proofs.Stars.{star_more}
use Rattle.nesc_print_exprs.proofs.expressions.put_stars.Goals as goal

pub loop-preserved : goal.loop-preserved
loop-preserved c = rw c.in_ok-sign.ensures (star_more c.loop.words _ c.args.count c.loop.counter (omega (arith, c.loop-test.true)) c.loop.invariant)
