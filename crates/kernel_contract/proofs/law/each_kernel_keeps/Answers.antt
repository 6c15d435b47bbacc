-- Body by body.
use Rattle.kernel_contract.proofs.Whole.{kernel_keeps}
use Rattle.kernel_contract.proofs.law.each_kernel_keeps.Goals as goal

pub returns : goal.returns
returns c = kernel_keeps c.each_struct_is_its_fields.ensures c.each_kernel_queues.ensures c.bodies_are_orderly.ensures c.depth_cuts_nothing.ensures c.every_source_grows.ensures
