use Rattle.std.proofs.Common.{◌∙◌, w64, FitsSigned, rules}
use Rattle.std.specs.Int.{int_wrap}
use Rattle.std.proofs.lemmas.Int.{to_z-of_z}
use Rattle.nesc_conditions.proofs.literals.wrapped.Goals as goal

pub returns : goal.returns
unfolding int_wrap
returns c =
    let fits : FitsSigned w64 c.cast_signed.result = search rules in
    to_z-of_z w64 c.cast_signed.result fits ∙ c.cast_signed.ensures
