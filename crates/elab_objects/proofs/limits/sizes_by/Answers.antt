use Rattle.std.proofs.Common.{◌<◌, length, arith}
use Rattle.elab_objects.proofs.Sizes.{one_more}
use Rattle.elab_objects.proofs.limits.sizes_by.Goals as goal

pub loop-variable-preserved : goal.loop-variable-preserved
loop-variable-preserved c structs first =
    let below : c.loop-variable.variable-index < length c.args.variables.now = omega (arith, c.loop-variable-test.true) in
    one_more structs c.args.variables.now c.loop-variable.variable-index c.variable-item.result c.loop-variable.sizes.items c.push.new.self.items _ c.in-Some.size
    (c.loop-variable.invariant structs first) below c.variable-item.is (c.in-Some.ensures.size structs first) c.in_ok-push.ensures.items
