use Rattle.std.proofs.Common.{◌<◌, length, map, arith}
use Rattle.elab_facts.specs.View.{fact_of}
use Rattle.elab_exprs.proofs.Faults.{stops}
use Rattle.elab_meaning.specs.View.{env_of, state_of}
use Rattle.elab_targets.specs.View.{application_of}
use Rattle.wire_scopes.specs.View.{base_view}
use Rattle.elab_items.proofs.Loops.{element_failed, element_passed}
use Rattle.elab_items.proofs.elements.all_elements.Goals as goal

pub returns-in_err-more : goal.returns-in_err-more
returns-in_err-more c tabled =
    let h : c.loop-x.x-index < length c.args.elems.now = omega (arith, c.loop-x-test.true) in
    stops (λ v. map fact_of v.items) c.from_residual.result c.in_err-more.field-0.0 _ _ c.from_residual.ensures
    (element_failed (application_of c.args.ground.now.app.now) (env_of c.args.told.now.env) c.args.told.now.values (base_view c.args.base) c.args.ground.now.instance c.args.elems.now c.loop-x.x-index c.x-item.result (state_of c.loop-x.work) _ (map fact_of c.loop-x.facts.items) c.in_err-more.field-0.0
    (c.loop-x.invariant tabled) h c.x-item.is (c.in_err-more.ensures tabled))

pub loop-x-preserved : goal.loop-x-preserved
loop-x-preserved c tabled =
    let h : c.loop-x.x-index < length c.args.elems.now = omega (arith, c.loop-x-test.true) in
    element_passed (application_of c.args.ground.now.app.now) (env_of c.args.told.now.env) c.args.told.now.values (base_view c.args.base) c.args.ground.now.instance c.args.elems.now c.loop-x.x-index c.x-item.result (state_of c.loop-x.work) (state_of c.element_facts.new.work) _ (map fact_of c.loop-x.facts.items) (map fact_of c.in_ok-more.more.items) (map fact_of c.add_facts.new.all.items)
    (c.loop-x.invariant tabled) h c.x-item.is (c.in_ok-more.ensures tabled) c.in_ok-add_facts.ensures
