use Rattle.queue_law.proofs.Kernels.{kernel_queues}
use Rattle.queue_law.proofs.law.each_kernel_queues.Goals as goal

pub returns : goal.returns
returns c = kernel_queues
