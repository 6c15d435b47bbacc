use Rattle.std.proofs.Common.{ap, arith, length, refl}
use Rattle.counted_programs.proofs.Counted.{counted}
use Rattle.counted_programs.proofs.counting.is_counted.Goals as goal

pub returns-then-are_few-clause-counted : goal.returns-then-are_few-clause-counted
returns-then-are_few-clause-counted c = λ e well.
    let bodies = ap length c.as_slice.ensures in
    let few = c.if-are_few.ensures refl in
    counted c.args.p.now (c.if-not-has_few_nodes.ensures refl) (omega (arith, bodies, few)) well
