use Rattle.std.proofs.Common.{◌+◌, ap, arith, length}
use Rattle.nesc_core.specs.View.{structs_of}
use Rattle.kernel_code.proofs.Fields.{all_depths, next_all}
use Rattle.kernel_code.proofs.structs.by_depth.Goals as goal

pub loop-depth-preserved : goal.loop-depth-preserved
loop-depth-preserved c =
    next_all (structs_of c.args.s.now) c.loop-depth._depth c.loop-depth.layouts.items c.loop-depth.invariant (c.loop-depth._depth + 1) c.deref.result.now c.in_ok-layouts.layouts.items
    (omega arith) c.deref.ensures.value c.in_ok-layouts.ensures

pub returns : goal.returns
returns c =
    let same = ap length c.as_slice-depth-end.ensures in
    all_depths c.args.s.now c.loop-depth._depth c.loop-depth.layouts.items (omega (arith, same)) c.loop-depth.invariant
