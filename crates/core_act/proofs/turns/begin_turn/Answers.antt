use Rattle.std.proofs.Common.{◌≡◌, ◌∙◌, ◌-◌, suc, true, false, None, ap, sym, refl, rules, arith, w64, to_z, of_z}
use Rattle.std.specs.Prelude.{pos}
use Rattle.std.proofs.lemmas.Result.{on_ok_weaker}
use Rattle.core_meaning.specs.Numbers.{is_zero}
use Rattle.core_meaning.specs.declared.flow.Flow.TheVariants.{On}
use Rattle.core_act.specs.Stacks.{top}
use Rattle.core_act.proofs.Turning.{turns_end, begins_first, begins_last, tested_zero, tested_first, tested_last, body_leaves, body_steps, body_tests}
use Rattle.core_act.proofs.turns.begin_turn.Goals as goal

pub returns-then-turn : goal.returns-then-turn
returns-then-turn c =
    on_ok_weaker c.push_three.result (λ new s vs fs. begins_first c.args.turn c.args.left (c.args.left - 1) (omega (arith, c.if-left-eq0.false)) c.if-turn.true new) c.push_three.ensures

pub returns-else-turn : goal.returns-else-turn
returns-else-turn c =
    on_ok_weaker c.push_three-else-turn.result (λ new s vs fs. begins_last c.args.turn c.args.left (c.args.left - 1) (omega (arith, c.if-left-eq0.false)) c.if-turn.false new) c.push_three-else-turn.ensures
