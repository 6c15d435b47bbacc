use Rattle.std.proofs.Common.{◌≡◌, ◌∙◌, ◌-◌, suc, true, false, None, ◌∷◌, ap, subst, sym, refl, rules, arith, w64, to_z, of_z}
use Rattle.std.specs.Prelude.{pos}
use Rattle.std.proofs.lemmas.Result.{on_ok_weaker}
use Rattle.core_meaning.specs.Numbers.{is_zero}
use Rattle.core_meaning.specs.declared.flow.Flow.TheVariants.{On}
use Rattle.nesc_core.specs.View.{maybe_expr_of}
use Rattle.core_act.specs.Moves.{OpensStep}
use Rattle.core_act.specs.Stacks.{top}
use Rattle.core_act.proofs.Turning.{Leaves, turns_end, begins_first, begins_last, tested_zero, tested_first, tested_last, body_leaves, body_steps, body_tests}
use Rattle.core_act.proofs.turns.behind_body.Goals as goal

pub returns-in-Some : goal.returns-in-Some
returns-in-Some c =
    on_ok_weaker c.push.result
    (λ new s vs log. body_leaves c.args.turn c.args.left c.left_loop.result c.in-Some.flow (subst (λ f. Leaves f c.left_loop.result) c.pop_or.ensures.is c.left_loop.ensures) c.in-Some.is refl
    (new ∙ ap (λ fs. c.in-Some.flow ∷ fs) c.pop_or.ensures.rest)) c.push.ensures

pub returns-in_ok-push : goal.returns-in_ok-push
returns-in_ok-push c =
    let none : c.left_loop.result ≡ None = search rules in
    on_ok_weaker c.step.result
    (λ h s vs log. body_steps c.args.turn c.args.left c.left_loop.result (subst (λ f. Leaves f c.left_loop.result) c.pop_or.ensures.is c.left_loop.ensures) none c.if-turn.true
    (subst (λ ts. OpensStep s (maybe_expr_of c.args.turn.step.now) ts c.step.new.tasks) c.in_ok-push.ensures (h s)) c.pop_or.ensures.rest) c.step.ensures

pub returns-else-turn : goal.returns-else-turn
returns-else-turn c =
    let none : c.left_loop.result ≡ None = search rules in
    on_ok_weaker c.push_two.result
    (λ new s vs log. body_tests c.args.turn c.args.left c.left_loop.result (subst (λ f. Leaves f c.left_loop.result) c.pop_or.ensures.is c.left_loop.ensures) none c.if-turn.false new c.pop_or.ensures.rest) c.push_two.ensures
