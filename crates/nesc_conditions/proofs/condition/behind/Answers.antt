use Rattle.std.proofs.Common.{◌∙◌, sym, ap, Some}
use Rattle.nesc_conditions.specs.Conditions.{following_at}
use Rattle.nesc_conditions.proofs.Steps.{infix_read, condition_read}
use Rattle.nesc_conditions.proofs.condition.behind.Goals as goal

pub returns-in_ok-push-in-Some-Infix-clause-steps :
    goal.returns-in_ok-push-in-Some-Infix-clause-steps
returns-in_ok-push-in-Some-Infix-clause-steps c =
    λ v e.
    infix_read c.in-Some-Infix.operator _ _ _ c.in-Some.token.now _ _ v c.in-Some.ensures.cases.0
    (ap (λ l. following_at l c.in-Some.token.now) (sym c.level.ensures) ∙ sym c.following_at.ensures ∙ c.in-Some-Infix.is ∙ ap Some c.in-Some-Infix.field-0-is)
    c.in_ok-push-in-Some-Infix.ensures e

pub returns-in_ok-push-in-Some-Conditional-clause-steps :
    goal.returns-in_ok-push-in-Some-Conditional-clause-steps
returns-in_ok-push-in-Some-Conditional-clause-steps c =
    λ v e.
    condition_read _ _ _ c.in-Some.token.now _ _ v c.in-Some.ensures.cases.0
    (ap (λ l. following_at l c.in-Some.token.now) (sym c.level.ensures) ∙ sym c.following_at.ensures ∙ c.in-Some-Conditional.is ∙ ap Some c.in-Some-Conditional.field-0-is)
    c.in_ok-push-in-Some-Conditional.ensures e
