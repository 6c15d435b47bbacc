use Rattle.std.proofs.Common.{◌≡◌, ◌∙◌, ◌<◌, ◌++◌, ◌∷◌, [], Vec, Global, ap, sym, subst, refl, rules, arith, w64, to_z, of_z}
use Rattle.std.specs.Prelude.{pos}
use Rattle.std.proofs.lemmas.Result.{on_ok_weaker}
use Rattle.nesc_core.specs.View.{body_of}
use Rattle.core_act.specs.declared.access.Local.{Local}
use Rattle.core_act.specs.Moves.{Hands}
use Rattle.core_act.specs.Stacks.{top}
use Rattle.core_act.proofs.Choosing.{no_items}
use Rattle.core_act.proofs.Calling.{takes_argument, pass_next, pass_end, hand_body, enter_deep, enter_none, enter_some, enter_body_calls, body_at, no_body_at, runnable_at}
use Rattle.core_act.proofs.calls.hand_over.Goals as goal

pub returns-in_ok-push-in-Body : goal.returns-in_ok-push-in-Body
returns-in_ok-push-in-Body c =
    on_ok_weaker c.enter.result
    (λ h. subst (λ to. Hands to c.args.passed.now c.args.m.now c.enter.new.m) (sym c.in-Body.is)
    (hand_body c.args.m.now c.in-Body.f c.args.passed.now c.perform.new.log c.push.new.self c.enter.new.m c.in_ok-perform-in-Body.ensures c.in_ok-push-in-Body.ensures h)) c.enter.ensures
