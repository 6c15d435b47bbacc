use Rattle.std.proofs.Common.{◌≡◌, ◌∙◌, ◌<◌, ◌++◌, ◌∷◌, [], Vec, Global, ap, sym, subst, refl, rules, arith, w64, to_z, of_z}
use Rattle.std.specs.Prelude.{pos}
use Rattle.std.proofs.lemmas.Result.{on_ok_weaker}
use Rattle.nesc_core.specs.View.{body_of}
use Rattle.core_act.specs.declared.access.Local.{Local}
use Rattle.core_act.specs.Moves.{Hands}
use Rattle.core_act.specs.Stacks.{top}
use Rattle.core_act.proofs.Choosing.{no_items}
use Rattle.core_act.proofs.Calling.{takes_argument, pass_next, pass_end, hand_body, enter_deep, enter_none, enter_some, enter_body_calls, body_at, no_body_at, runnable_at}
use Rattle.core_act.proofs.calls.enter.Goals as goal

pub returns-then-m-eq0 : goal.returns-then-m-eq0
returns-then-m-eq0 c =
    enter_deep c.args.m.now c.args.f c.args.passed.now _ c.if-m-eq0.true c.cut.ensures c.requires

pub enter_body-requires-clause-body : goal.enter_body-requires-clause-body
enter_body-requires-clause-body c =
    let k = c.in-Some.ensures.lookup in
    runnable_at _ _ c.args.f _ c.requires.held.bodies (body_at _ _ c.args.f c.in-Some.body.now c.as_slice.ensures k.3.0 k.1)

pub returns-in-None : goal.returns-in-None
returns-in-None c =
    enter_none c.args.m.now c.args.f c.args.passed.now _ (omega (arith, c.if-m-eq0.false)) (no_body_at _ _ c.args.f c.as_slice.ensures c.in-None.ensures.lookup.3) c.cut-in-None.ensures c.requires

pub returns-in-Some : goal.returns-in-Some
returns-in-Some c =
    let k = c.in-Some.ensures.lookup in
    on_ok_weaker c.enter_body.result
    (λ h. enter_some c.args.m.now c.args.f c.args.passed.now (body_of c.in-Some.body.now) _ (omega (arith, c.if-m-eq0.false)) (body_at _ _ c.args.f c.in-Some.body.now c.as_slice.ensures k.3.0 k.1) h) c.enter_body.ensures
