use Rattle.std.proofs.Common.{arith}
use Rattle.kernel_code.proofs.fitting.fitting_end.Goals as goal

pub returns-clause-fits : goal.returns-clause-fits
returns-clause-fits c =
    let end = c.in_ok-end.ensures in
    let low = c.is_within.ensures.held c.if-not-is_within.false in
    record {
      tasks = c.few_tasks.ensures.held c.if-not-few_tasks.false;
      room = omega (arith, end, low);
      objects = c.few_objects.ensures.held c.if-not-few_objects.false;
      bodies = c.few_bodies.ensures.held c.if-not-few_bodies.false;
    }

pub returns-clause-end : goal.returns-clause-end
returns-clause-end c =
    let end = c.in_ok-end.ensures in
    let low = c.is_within.ensures.held c.if-not-is_within.false in
    omega (arith, end, low)

pub returns-then-not-is_within-clause-due : goal.returns-then-not-is_within-clause-due
returns-then-not-is_within-clause-due c =
    let end = c.in_ok-end.ensures in
    let high = c.is_within.ensures.missed c.if-not-is_within.true in
    omega (arith, end, high)
