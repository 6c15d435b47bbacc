use Rattle.std.proofs.Common.{◌∙◌, sym, arith}
use Rattle.nesc_core.specs.View.{type_of}
use Rattle.core_act.specs.Scopes.{program_in}
use Rattle.core_act.proofs.PartBounds.{part_low}
use Rattle.core_act.proofs.places.pointed.Goals as goal

pub overflow_cast-result : goal.overflow_cast-result
overflow_cast-result c =
    let low = part_low (program_in c.args.scope.now) (type_of c.args.t.now) c.unsigned_abs-address.result c.requires.held.objects (sym c.in_ok-is_part.ensures ∙ c.if-branch.true) in
    record { fits = omega (arith, low) }
