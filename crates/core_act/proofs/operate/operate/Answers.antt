use Rattle.std.proofs.Common.{◌≡◌, ◌∙◌, ◌∷◌, ap, rules, w64, to_z, of_z}
use Rattle.std.specs.Prelude.{pos}
use Rattle.std.proofs.lemmas.Result.{on_ok_weaker}
use Rattle.core_meaning.specs.Numbers.{binary}
use Rattle.core_act.specs.Stacks.{below, top}
use Rattle.core_act.proofs.Operating.{binary_operates, asks_operates}
use Rattle.core_act.proofs.operate.operate.Goals as goal

pub returns-in_ok-z-in-Binary : goal.returns-in_ok-z-in-Binary
returns-in_ok-z-in-Binary c =
    let back : to_z w64 (of_z w64 c.in_ok-z-in-Binary.z) ≡ c.in_ok-z-in-Binary.z = search rules in
    let given : c.binary.result ≡ binary c.in-Binary.op c.in-Binary.t (top (pos 0) (below c.args.values.now)) (top (pos 0) c.args.values.now) = search rules in
    let rest = c.pop_or-x-in-Binary.ensures.rest ∙ ap below c.pop_or-y.ensures.rest in
    on_ok_weaker c.push-in-Binary.result
    (λ new. binary_operates c.args.log.now c.or_fail.new.log c.args.values.now c.in-Binary.is given c.in_ok-z-in-Binary.ensures (new ∙ (λ j. back j ∷ rest j))) c.push-in-Binary.ensures

pub returns-in_ok-answer-in-Ask : goal.returns-in_ok-answer-in-Ask
returns-in_ok-answer-in-Ask c =
    let back : to_z w64 (of_z w64 c.from.result) ≡ pos c.in_ok-answer-in-Ask.answer = search rules in
    on_ok_weaker c.push-in-Ask.result
    (λ new. asks_operates c.args.log.now c.ask.new.log c.args.values.now c.in-Ask.is c.in_ok-answer-in-Ask.ensures (new ∙ ap (λ x. x ∷ c.args.values.now) back)) c.push-in-Ask.ensures
