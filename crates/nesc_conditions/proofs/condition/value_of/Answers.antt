use Rattle.std.proofs.Common.{refl, sym, subst}
use Rattle.nesc_conditions.specs.Frames.{StateEndsIn}
use Rattle.nesc_conditions.proofs.Steps.{line_has}
use Rattle.nesc_conditions.proofs.condition.value_of.Goals as goal

pub returns-in-Ended : goal.returns-in-Ended
returns-in-Ended c =
    line_has c.args.tokens.now c.in-Ended.value
    (c.loop-state.invariant c.in-Ended.value (subst (λ s. StateEndsIn c.loop-state.frames s c.in-Ended.value) (sym c.in-Ended.is) refl))
