use Rattle.std.proofs.Common.{w64, ap, Some}
use Rattle.std.proofs.lemmas.Int.{wrapping_add_is, wrapping_sub_is}
use Rattle.nesc_conditions.proofs.arithmetic.computed.Goals as goal

pub returns-in-Add : goal.returns-in-Add
returns-in-Add c = rw c.in-Add.is (ap Some (wrapping_add_is w64 c.args.a c.args.b c.ranges.a c.ranges.b))

pub returns-in-Subtract : goal.returns-in-Subtract
returns-in-Subtract c = rw c.in-Subtract.is (ap Some (wrapping_sub_is w64 c.args.a c.args.b c.ranges.a c.ranges.b))
