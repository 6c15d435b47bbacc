use Rattle.std.proofs.Common.{w64, sym, ap, ◌∙◌, FitsSigned, rules}
use Rattle.std.specs.Int.{int_wrapping_neg}
use Rattle.std.proofs.lemmas.Int.{to_z-of_z, wrapping_neg_is}
use Rattle.nesc_conditions.specs.Arithmetic.{prefix_computed}
use Rattle.nesc_conditions.proofs.arithmetic.prefix_computed.Goals as goal

pub returns-in-Minus : goal.returns-in-Minus
returns-in-Minus c =
    let fits : FitsSigned w64 c.wrapping_neg.result = search rules in
    to_z-of_z w64 c.wrapping_neg.result fits
    ∙ c.wrapping_neg.ensures
    ∙ ap (int_wrapping_neg w64) (to_z-of_z w64 c.args.x c.ranges.x)
    ∙ wrapping_neg_is w64 c.args.x c.ranges.x
    ∙ ap (λ o. prefix_computed o c.args.x) (sym c.in-Minus.is)
