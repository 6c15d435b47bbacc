use Rattle.std.proofs.Common.{◌∙◌, ◌<◌, ◌^◌, ap, w64, rules, arith, FitsSigned}
use Rattle.std.specs.Prelude.{◌*ℤ◌, pos}
use Rattle.std.specs.Int.{int_wrap}
use Rattle.std.proofs.lemmas.Int.{to_z-of_z, to_z_pos, wrapping_mul-bits}
use mir.Val.{of_z, to_z}
use Rattle.nm_base.specs.IntType.{wrapped}
use Rattle.core_numbers.proofs.Wrapping.{wrapped-int_wrap, small_power, of_z_below}
use Rattle.core_numbers.proofs.arithmetic.shifted_by.Goals as goal

pub returns : goal.returns
returns c =
    let fits : FitsSigned w64 c.wrap.result = search rules in
    let n = 2 ^ c.args.count in
    let small : n < 2 ^ 63 = small_power c.args.count c.requires in
    to_z-of_z w64 c.wrap.result fits ∙ c.wrap.ensures.value
    ∙ ap (wrapped c.args.t) (wrapping_mul-bits w64 (of_z w64 c.args.x) n (of_z_below c.args.x c.ranges.x) (omega arith)
    ∙ ap (λ z. int_wrap w64 (z *ℤ to_z w64 n)) (to_z-of_z w64 c.args.x c.ranges.x) ∙ ap (λ z. int_wrap w64 (c.args.x *ℤ z)) (to_z_pos w64 n small))
    ∙ wrapped-int_wrap c.args.t (c.args.x *ℤ pos n)
