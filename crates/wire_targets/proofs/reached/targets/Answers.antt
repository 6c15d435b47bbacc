use Rattle.std.proofs.Common.{◌∙◌}
use Rattle.wire_targets.proofs.Walking.{starts}
use Rattle.wire_targets.proofs.reached.targets.Goals as goal

pub loop-walk-init : goal.loop-walk-init
loop-walk-init c =
    let e = c.in_ok-walk.ensures in
    record { here = c.args.start; from = 0; walks = rw (e.path, e.ends, e.met, e.found) (starts c.args.wires.now c.args.sinks.now c.args.start); next = e.next ∙ c.first.ensures }
