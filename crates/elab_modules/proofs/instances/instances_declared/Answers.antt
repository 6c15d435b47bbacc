use Rattle.std.proofs.Common.{◌≡◌, ◌+◌, ◌<◌, ◌≤◌, length, arith, refl, rules, ap, ◌∙◌}
use Rattle.elab_making.proofs.Faults.{stops}
use Rattle.elab_making.specs.View.{whole_of}
use Rattle.elab_modules.proofs.instances.instances_declared.Goals as goal
use Rattle.elab_modules.proofs.Ordered.{at_number, instance_failed, instance_passed, instances_end}
use Rattle.elab_targets.specs.View.{application_of}
use Rattle.elab_told.specs.View.{met_of}

pub loop-instance-init : goal.loop-instance-init
loop-instance-init c = (refl, λ tabled h are has all. record { is = refl; has = has })

pub returns : goal.returns
returns c = λ tabled h are has all.
    let past : length c.args.instances.now ≤ c.loop-instance.instance-index = omega (arith, c.loop-instance-test.false) in
    instances_end (application_of c.args.around.now.app.now) h (met_of c.args.around.now.met.now) c.args.instances.now _ c.loop-instance.number c.loop-instance.instance-index (whole_of c.loop-instance.whole)
    (c.loop-instance.invariant.1 tabled h are has all) past

pub returns-in_err-instance_declared : goal.returns-in_err-instance_declared
returns-in_err-instance_declared c = λ tabled h are has all.
    let below : c.loop-instance.instance-index < length c.args.instances.now = omega (arith, c.loop-instance-test.true) in
    let turn = c.loop-instance.invariant.1 tabled h are has all in
    let there = at_number (application_of c.args.around.now.app.now) h (met_of c.args.around.now.met.now) c.args.instances.now c.loop-instance.number c.loop-instance.instance-index c.instance-item.result c.loop-instance.invariant.0 all below c.instance-item.is in
    stops (λ _. tt) c.from_residual.result c.in_err-instance_declared.field-0.0 _ _ c.from_residual.ensures
    (instance_failed (application_of c.args.around.now.app.now) h (met_of c.args.around.now.met.now) c.args.instances.now _ c.loop-instance.number c.loop-instance.instance-index c.instance-item.result (whole_of c.loop-instance.whole) c.in_err-instance_declared.field-0.0
    turn below c.instance-item.is (c.in_err-instance_declared.ensures tabled h are turn.has there))

pub loop-instance-preserved : goal.loop-instance-preserved
loop-instance-preserved c =
    let more : c.in-Some.next ≡ c.loop-instance.number + 1 = search rules in (
      more ∙ ap (λ k. k + 1) c.loop-instance.invariant.0,
      λ tabled h are has all.
          let below : c.loop-instance.instance-index < length c.args.instances.now = omega (arith, c.loop-instance-test.true) in
          let turn = c.loop-instance.invariant.1 tabled h are has all in
          let there = at_number (application_of c.args.around.now.app.now) h (met_of c.args.around.now.met.now) c.args.instances.now c.loop-instance.number c.loop-instance.instance-index c.instance-item.result c.loop-instance.invariant.0 all below c.instance-item.is in
          instance_passed (application_of c.args.around.now.app.now) h (met_of c.args.around.now.met.now) c.args.instances.now _ c.loop-instance.number c.in-Some.next c.loop-instance.instance-index c.instance-item.result (whole_of c.loop-instance.whole) (whole_of c.instance_declared.new.whole)
          turn below c.instance-item.is (c.in_ok-instance_declared.ensures tabled h are turn.has there) more,
    )
