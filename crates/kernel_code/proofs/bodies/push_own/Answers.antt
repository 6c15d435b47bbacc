use Rattle.task_queue.specs.Kernel.{pop_body, queue_body}
use Rattle.kernel_code.proofs.Kernels.{two_more}
use Rattle.kernel_code.proofs.bodies.push_own.Goals as goal

pub returns : goal.returns
returns c =
    two_more c.args.bodies.now c.grow.new.list c.grow-2.new.list c.in_ok-queue_body.field-0 c.in_ok-pop_body.field-0 (queue_body c.args.bytes) (pop_body c.args.bytes)
    c.in_ok-grow.ensures c.in_ok-grow-2.ensures c.in_ok-queue_body.ensures c.in_ok-pop_body.ensures
