use Rattle.kernel_code.proofs.Whole.{kernel_is}
use Rattle.kernel_code.proofs.program.change.Goals as goal

pub returns : goal.returns
returns c =
    kernel_is c.args.p.now c.body_count-queue.result c.object_count-bytes.result c.byte_count-count.result c.args.addr c.push_bytes.new.objects c.kernel_bodies.new.bodies
    c.body_count-queue.ensures c.object_count-bytes.ensures c.byte_count-count.ensures c.requires.address c.in_ok-push_bytes.ensures c.in_ok-kernel_bodies.ensures
