use Rattle.std.proofs.Common.{◌≡◌, ◌∙◌, ◌-◌, suc, true, false, None, ap, sym, refl, rules, arith, w64, to_z, of_z}
use Rattle.std.specs.Prelude.{pos}
use Rattle.std.proofs.lemmas.Result.{on_ok_weaker}
use Rattle.core_meaning.specs.Numbers.{is_zero}
use Rattle.core_meaning.specs.declared.flow.Flow.TheVariants.{On}
use Rattle.core_act.specs.Stacks.{top}
use Rattle.core_act.proofs.Turning.{turns_end, begins_first, begins_last, tested_zero, tested_first, tested_last, body_leaves, body_steps, body_tests}
use Rattle.core_act.proofs.turns.behind_test.Goals as goal

pub returns-then-turn : goal.returns-then-turn
returns-then-turn c =
    let z : is_zero (top (pos 0) c.args.values.now) ≡ false = search rules in
    on_ok_weaker c.push_two.result (λ new s fs log. tested_first c.args.turn c.args.left z c.if-turn.true new c.pop_or.ensures.rest) c.push_two.ensures

pub returns-else-turn : goal.returns-else-turn
returns-else-turn c =
    let z : is_zero (top (pos 0) c.args.values.now) ≡ false = search rules in
    on_ok_weaker c.push-else-turn.result (λ new s fs log. tested_last c.args.turn c.args.left z c.if-turn.false new c.pop_or.ensures.rest) c.push-else-turn.ensures
