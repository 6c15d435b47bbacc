use Rattle.std.proofs.Common.{◌<◌, length, arith, subst}
use Rattle.elab_targets.specs.Places.{AreUsed}
use Rattle.elab_told.proofs.Used.{instance_more}
use Rattle.elab_told.proofs.uses.add_instance_uses.Goals as goal

pub loop-instance-preserved : goal.loop-instance-preserved
loop-instance-preserved c = λ us are.
    let h : c.loop-instance.instance-index < length c.args.instances.now = omega (arith, c.loop-instance-test.true) in
    subst (λ vs. AreUsed vs c.add_foreign_uses.new.used) (instance_more us c.args.instances.now c.loop-instance.instance-index c.instance-item.result h c.instance-item.is) (c.in_ok-add_foreign_uses.ensures _ (c.loop-instance.invariant us are))
