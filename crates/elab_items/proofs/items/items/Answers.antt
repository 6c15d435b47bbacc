use Rattle.std.proofs.Common.{◌<◌, length, map, arith}
use Rattle.elab_facts.specs.View.{fact_of}
use Rattle.elab_exprs.proofs.Faults.{stops}
use Rattle.elab_meaning.specs.View.{env_of, state_of}
use Rattle.elab_targets.specs.View.{application_of, element_of}
use Rattle.elab_items.proofs.Loops.{item_failed, item_passed}
use Rattle.elab_items.proofs.items.items.Goals as goal

pub returns-in_err-one : goal.returns-in_err-one
returns-in_err-one c tabled =
    let h : c.loop-item.item-index < length c.args.sigs.now = omega (arith, c.loop-item-test.true) in
    stops (λ v. map fact_of v.items) c.from_residual.result c.in_err-one.field-0.0 _ _ c.from_residual.ensures
    (item_failed fact_of (application_of c.args.ground.now.app.now) (env_of c.args.told.now.env) c.args.told.now.values c.args.ground.now.instance (element_of c.args.x.now) _ c.loop-item.facts.items _ c.loop-item.item-index c.item-item.result (state_of c.loop-item.work) c.in_err-one.field-0.0
    (c.loop-item.invariant tabled) h c.item-item.is (c.in_err-one.ensures tabled))

pub loop-item-preserved : goal.loop-item-preserved
loop-item-preserved c tabled =
    let h : c.loop-item.item-index < length c.args.sigs.now = omega (arith, c.loop-item-test.true) in
    item_passed fact_of (application_of c.args.ground.now.app.now) (env_of c.args.told.now.env) c.args.told.now.values c.args.ground.now.instance (element_of c.args.x.now) _ c.loop-item.facts.items _ c.loop-item.item-index c.item-item.result (state_of c.loop-item.work) (state_of c.item_fact.new.work) c.in_ok-one.one _
    (c.loop-item.invariant tabled) h c.item-item.is (c.in_ok-one.ensures tabled) c.in_ok-push.ensures.items
