use Rattle.std.proofs.Common.{◌∙◌, ap, w64, rules, FitsSigned, Some}
use Rattle.std.specs.Prelude.{◌-ℤ◌, ◌*ℤ◌}
use Rattle.std.proofs.lemmas.Int.{to_z-of_z, wrapping_sub_is, wrapping_mul_is}
use Rattle.nm_base.specs.IntType.{wrapped}
use Rattle.core_numbers.proofs.Wrapping.{wrapped-int_wrap}
use Rattle.core_numbers.proofs.arithmetic.binary.Goals as goal

pub returns-in-Sub : goal.returns-in-Sub
returns-in-Sub c =
    let fits : FitsSigned w64 c.wrap-in-Sub.result = search rules in
    rw c.in-Sub.is (ap Some (to_z-of_z w64 c.wrap-in-Sub.result fits ∙ c.wrap-in-Sub.ensures.value
    ∙ ap (wrapped c.args.t) (wrapping_sub_is w64 c.args.x c.args.y c.ranges.x c.ranges.y) ∙ wrapped-int_wrap c.args.t (c.args.x -ℤ c.args.y)))

pub returns-in-Mul : goal.returns-in-Mul
returns-in-Mul c =
    let fits : FitsSigned w64 c.wrap-in-Mul.result = search rules in
    rw c.in-Mul.is (ap Some (to_z-of_z w64 c.wrap-in-Mul.result fits ∙ c.wrap-in-Mul.ensures.value
    ∙ ap (wrapped c.args.t) (wrapping_mul_is w64 c.args.x c.args.y c.ranges.x c.ranges.y) ∙ wrapped-int_wrap c.args.t (c.args.x *ℤ c.args.y)))
