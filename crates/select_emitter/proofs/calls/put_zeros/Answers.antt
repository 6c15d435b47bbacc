use Rattle.std.proofs.Common.{arith}
use Rattle.select_emitter.proofs.Zeros.{zero_more}
use Rattle.select_emitter.proofs.calls.put_zeros.Goals as goal

pub loop-preserved : goal.loop-preserved
loop-preserved c = rw c.in_ok-put_zero.ensures (zero_more c.loop.items.items _ c.args.n c.loop.counter (omega (arith, c.loop-test.true)) c.loop.invariant)
