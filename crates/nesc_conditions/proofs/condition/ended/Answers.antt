use Rattle.std.proofs.Common.{◌∷◌, ◌∙◌, sym, ap}
use Rattle.nesc_conditions.specs.declared.frames.Frame.TheVariants.{Prefix, Infix, Otherwise}
use Rattle.nesc_conditions.specs.Conditions.{Behind, parsed}
use Rattle.nesc_conditions.specs.Frames.{level}
use Rattle.nesc_conditions.proofs.Steps.{line_ended, operand_ended, group_closed, group_open, no_colon, colon_read}
use Rattle.nesc_conditions.proofs.condition.ended.Goals as goal

pub returns-in_default-clause-steps : goal.returns-in_default-clause-steps
returns-in_default-clause-steps c = λ v is. line_ended _ _ _ v c.in_default.ensures.0 c.requires (is ∙ c.if_nothing_left.ensures)

pub returns-in-Prefix-clause-steps : goal.returns-in-Prefix-clause-steps
returns-in-Prefix-clause-steps c =
    λ v e.
    operand_ended (Prefix c.in-Prefix.operator) c.args.frames.now c.pop.new.self c.args.value c.args.rest.now (Behind (level c.pop.new.self) c.prefixed.result) c.args.rest.now v
    (c.in-Some.ensures ∙ ap (λ f. f ∷ c.pop.new.self) c.in-Prefix.is)
    c.requires (λ n. ap (λ y. parsed n (Behind (level c.pop.new.self) y) c.args.rest.now) (sym c.prefixed.ensures)) e

pub returns-in-Infix-clause-steps : goal.returns-in-Infix-clause-steps
returns-in-Infix-clause-steps c =
    λ v e.
    operand_ended (Infix c.in-Infix.operator c.in-Infix.left) c.args.frames.now c.pop.new.self c.args.value c.args.rest.now (Behind (level c.pop.new.self) c.applied.result) c.args.rest.now v
    (c.in-Some.ensures ∙ ap (λ f. f ∷ c.pop.new.self) c.in-Infix.is)
    c.requires (λ n. ap (λ y. parsed n (Behind (level c.pop.new.self) y) c.args.rest.now) (sym c.applied.ensures)) e

pub returns-in-Otherwise-clause-steps : goal.returns-in-Otherwise-clause-steps
returns-in-Otherwise-clause-steps c =
    λ v e.
    operand_ended (Otherwise c.in-Otherwise.condition c.in-Otherwise.first) c.args.frames.now c.pop.new.self c.args.value c.args.rest.now (Behind (level c.pop.new.self) c.chosen.result) c.args.rest.now v
    (c.in-Some.ensures ∙ ap (λ f. f ∷ c.pop.new.self) c.in-Otherwise.is)
    c.requires (λ n. ap (λ y. parsed n (Behind (level c.pop.new.self) y) c.args.rest.now) (sym c.chosen.ensures)) e

pub returns-in-Some-past-clause-steps : goal.returns-in-Some-past-clause-steps
returns-in-Some-past-clause-steps c =
    λ v e. group_closed _ c.pop.new.self _ _ c.in-Some-past.rest v (c.in-Some.ensures ∙ ap (λ f. f ∷ c.pop.new.self) c.in-Group.is) c.requires c.in-Some-past.ensures e

pub returns-in-None-clause-steps : goal.returns-in-None-clause-steps
returns-in-None-clause-steps c =
    λ v none. group_open _ c.pop.new.self _ _ v (c.in-Some.ensures ∙ ap (λ f. f ∷ c.pop.new.self) c.in-Group.is) c.requires c.in-None.ensures none

pub returns-in_ok-push-in-Some-past-2-clause-steps :
    goal.returns-in_ok-push-in-Some-past-2-clause-steps
returns-in_ok-push-in-Some-past-2-clause-steps c =
    λ v e.
    colon_read c.in-Middle.condition _ c.pop.new.self _ _ _ c.in-Some-past-2.rest v (c.in-Some.ensures ∙ ap (λ f. f ∷ c.pop.new.self) c.in-Middle.is) c.requires c.in-Some-past-2.ensures
    c.in_ok-push-in-Some-past-2.ensures e

pub returns-in-None-past-clause-steps : goal.returns-in-None-past-clause-steps
returns-in-None-past-clause-steps c =
    λ v none. no_colon c.in-Middle.condition _ c.pop.new.self _ _ v (c.in-Some.ensures ∙ ap (λ f. f ∷ c.pop.new.self) c.in-Middle.is) c.requires c.in-None-past.ensures none
