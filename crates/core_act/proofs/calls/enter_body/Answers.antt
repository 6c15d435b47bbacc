use Rattle.std.proofs.Common.{◌≡◌, ◌∙◌, ◌<◌, ◌++◌, ◌∷◌, [], Vec, Global, ap, sym, subst, refl, rules, arith, w64, to_z, of_z}
use Rattle.std.specs.Prelude.{pos}
use Rattle.std.proofs.lemmas.Result.{on_ok_weaker}
use Rattle.nesc_core.specs.View.{body_of}
use Rattle.core_act.specs.declared.access.Local.{Local}
use Rattle.core_act.specs.Moves.{Hands}
use Rattle.core_act.specs.Stacks.{top}
use Rattle.core_act.proofs.Choosing.{no_items}
use Rattle.core_act.proofs.Calling.{takes_argument, pass_next, pass_end, hand_body, enter_deep, enter_none, enter_some, enter_body_calls, body_at, no_body_at, runnable_at}
use Rattle.core_act.proofs.calls.enter_body.Goals as goal

pub returns : goal.returns
returns c =
    on_ok_weaker c.push_two.result
    (λ new. enter_body_calls c.args.m.now c.args.body.now c.args.passed.now c.as_slice.result _ _ _ _ refl c.as_slice.ensures refl (ap (λ (v : Vec Local Global). v.items) c.replace.ensures.value) new
    (ap (λ (v : Vec Local Global). v.items) c.replace.ensures.after ∙ c.in_ok-locals.ensures) c.requires.safe c.requires.body) c.push_two.ensures
