use Rattle.std.proofs.Common.{◌≡◌, ◌∙◌, ◌<◌, ◌++◌, ◌∷◌, [], Vec, Global, ap, sym, subst, refl, rules, arith, w64, to_z, of_z}
use Rattle.std.specs.Prelude.{pos}
use Rattle.std.proofs.lemmas.Result.{on_ok_weaker}
use Rattle.nesc_core.specs.View.{body_of}
use Rattle.core_act.specs.declared.access.Local.{Local}
use Rattle.core_act.specs.Moves.{Hands}
use Rattle.core_act.specs.Stacks.{top}
use Rattle.core_act.proofs.Choosing.{no_items}
use Rattle.core_act.proofs.Calling.{takes_argument, pass_next, pass_end, hand_body, enter_deep, enter_none, enter_some, enter_body_calls, body_at, no_body_at, runnable_at}
use Rattle.core_act.proofs.calls.pass.Goals as goal

pub returns-in-None : goal.returns-in-None
returns-in-None c =
    on_ok_weaker c.hand_over.result
    (λ h. pass_end c.args.m.now c.args.arguments c.deref.result.now _ (no_items c.args.arguments.rest.now c.in-None.ensures.cases) c.deref.ensures.value h c.requires) c.hand_over.ensures

pub returns-in-Some : goal.returns-in-Some
returns-in-Some c =
    on_ok_weaker c.push_two.result
    (λ new. pass_next c.args.m.now c.args.arguments c.in-Some.e c.in-Some.rest _ c.in-Some.ensures.cases.0 new c.requires) c.push_two.ensures
