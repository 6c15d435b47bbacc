use Rattle.std.proofs.Common.{◌≡◌, ◌∙◌, ap, w64, rules, arith, FitsSigned}
use Rattle.std.specs.Prelude.{◌-ℤ◌, int_div, pos, ◌<ℤ◌}
use Rattle.std.proofs.lemmas.Int.{ints, wrapping_sub_is, quot_is, quot_fits}
use Rattle.nm_base.specs.IntType.{wrapped}
use Rattle.nm_base.specs.declared.int_type.IntType.TheVariants.{I16}
use Rattle.core_numbers.proofs.Wrapping.{wrapped-int_wrap}
use Rattle.core_numbers.proofs.arithmetic.distance.Goals as goal

pub returns : goal.returns
returns c =
    let difference : c.wrap.result ≡ wrapped I16 (c.args.x -ℤ c.args.y) =
    c.wrap.ensures.value ∙ ap (wrapped I16) (wrapping_sub_is w64 c.args.x c.args.y c.ranges.x c.ranges.y) ∙ wrapped-int_wrap I16 (c.args.x -ℤ c.args.y) in
    let fits : FitsSigned w64 c.wrap.result = search rules in
    let small : FitsSigned w64 c.from.result = search rules in
    let positive : pos 0 <ℤ c.from.result = omega (arith, ints, c.from.ensures) in
    quot_is w64 c.wrap.result c.from.result fits small (quot_fits w64 c.wrap.result c.from.result fits positive)
    ∙ ap (λ d. int_div d c.from.result) difference ∙ ap (int_div (wrapped I16 (c.args.x -ℤ c.args.y))) c.from.ensures
