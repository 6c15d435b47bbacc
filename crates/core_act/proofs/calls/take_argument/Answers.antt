use Rattle.std.proofs.Common.{◌≡◌, ◌∙◌, ◌<◌, ◌++◌, ◌∷◌, [], Vec, Global, ap, sym, subst, refl, rules, arith, w64, to_z, of_z}
use Rattle.std.specs.Prelude.{pos}
use Rattle.std.proofs.lemmas.Result.{on_ok_weaker}
use Rattle.nesc_core.specs.View.{body_of}
use Rattle.core_act.specs.declared.access.Local.{Local}
use Rattle.core_act.specs.Moves.{Hands}
use Rattle.core_act.specs.Stacks.{top}
use Rattle.core_act.proofs.Choosing.{no_items}
use Rattle.core_act.proofs.Calling.{takes_argument, pass_next, pass_end, hand_body, enter_deep, enter_none, enter_some, enter_body_calls, body_at, no_body_at, runnable_at}
use Rattle.core_act.proofs.calls.take_argument.Goals as goal

pub returns : goal.returns
returns c =
    let v : to_z w64 (of_z w64 c.pop_or.result) ≡ top (pos 0) c.args.values.now = search rules in
    on_ok_weaker c.push-2.result
    (λ new s fs log. takes_argument c.args.arguments _ refl refl (c.in_ok-push.ensures.items ∙ ap (λ x. c.args.arguments.passed.items ++ x ∷ []) v) new c.pop_or.ensures.rest) c.push-2.ensures
