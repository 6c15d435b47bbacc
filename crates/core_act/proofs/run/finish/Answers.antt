use Rattle.std.proofs.Common.{◌≡◌, ◌∙◌, true, ap, sym, refl, rules, arith}
use Rattle.core_act.specs.Remaining.{remaining}
use Rattle.core_act.specs.Steps.{steps_left}
use Rattle.core_act.specs.Told.{all_actions}
use Rattle.core_act.proofs.Ending.{nothing_left, is_over, ready}
use Rattle.core_act.proofs.run.finish.Goals as goal

pub loop-m-init : goal.loop-m-init
loop-m-init c = record { same = refl; safe = c.requires }

pub returns-in-None : goal.returns-in-None
returns-in-None c = nothing_left c.loop-m.m c.in-None.ensures.0 ∙ c.loop-m.invariant.same

pub perform_task-requires : goal.perform_task-requires
perform_task-requires c = ready c.loop-m.m c.in-Some.task _ c.in-Some.ensures c.loop-m.invariant.safe

pub loop-m-smaller : goal.loop-m-smaller
loop-m-smaller c =
    let k = c.in_ok-perform_task-in-Some.ensures.falls in let p = ap (steps_left c.loop-m.m.scope) c.in-Some.ensures in omega (arith, k, p)

pub loop-m-preserved : goal.loop-m-preserved
loop-m-preserved c = record {
  same = sym c.in_ok-perform_task-in-Some.ensures.same
      ∙ sym (ap (λ ts. all_actions c.loop-m.m.log (remaining c.loop-m.m.scope ts c.loop-m.m.values c.loop-m.m.places c.loop-m.m.flows c.loop-m.m.locals.items)) c.in-Some.ensures)
      ∙ c.loop-m.invariant.same;
  safe = c.in_ok-perform_task-in-Some.ensures.safe;
}

pub returns : goal.returns
returns c =
    let over : c.loop-m.m.log.over ≡ true = search rules in is_over c.loop-m.m over ∙ c.loop-m.invariant.same
