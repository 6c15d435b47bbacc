use Rattle.std.proofs.Common.{◌∙◌, sym, ap, subst, Some, w64, FitsSigned, rules}
use Rattle.std.proofs.lemmas.Int.{to_z-of_z}
use Rattle.nesc_conditions.proofs.Steps.{no_operand, no_opening, literal_read, group_opened, prefix_opened}
use Rattle.nesc_conditions.specs.Conditions.{Behind}
use Rattle.nesc_conditions.specs.Frames.{EndsIn, level}
use Rattle.nesc_conditions.proofs.condition.operand.Goals as goal

pub returns-in_default-clause-steps : goal.returns-in_default-clause-steps
returns-in_default-clause-steps c = λ v none. no_operand _ _ _ v c.in_default.ensures.cases none

pub returns-in-None-clause-steps : goal.returns-in-None-clause-steps
returns-in-None-clause-steps c = λ v none. no_opening _ _ _ _ _ v c.in-Some.ensures.cases.0 (sym c.in-None.ensures) none

pub returns-in-Some-Literal-clause-steps : goal.returns-in-Some-Literal-clause-steps
returns-in-Some-Literal-clause-steps c =
    λ v e.
    let fits : FitsSigned w64 c.in-Some-Literal.value = search rules in
    literal_read c.args.frames.now (level c.args.frames.now) c.in-Some-Literal.value c.in-Some.token.now c.in-Some.rest.now _ v c.in-Some.ensures.cases.0 (sym c.opening_of.ensures ∙ c.in-Some-Literal.is ∙ ap Some c.in-Some-Literal.field-0-is)
    (subst (λ x. EndsIn c.args.frames.now (Behind (level c.args.frames.now) (Some x)) c.in-Some.rest.now v) (to_z-of_z w64 c.in-Some-Literal.value fits) e)

pub returns-in_ok-push-in-Some-Group-clause-steps :
    goal.returns-in_ok-push-in-Some-Group-clause-steps
returns-in_ok-push-in-Some-Group-clause-steps c =
    λ v e. group_opened _ _ _ _ _ v c.in-Some.ensures.cases.0 (sym c.opening_of.ensures ∙ c.in-Some-Group.is ∙ ap Some c.in-Some-Group.field-0-is) c.in_ok-push-in-Some-Group.ensures e

pub returns-in_ok-push-in-Some-Prefix-clause-steps :
    goal.returns-in_ok-push-in-Some-Prefix-clause-steps
returns-in_ok-push-in-Some-Prefix-clause-steps c =
    λ v e. prefix_opened _ _ _ _ _ _ v c.in-Some.ensures.cases.0 (sym c.opening_of.ensures ∙ c.in-Some-Prefix.is ∙ ap Some c.in-Some-Prefix.field-0-is) c.in_ok-push-in-Some-Prefix.ensures e
