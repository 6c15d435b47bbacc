-- Clause by clause.
use Rattle.loop_runs.proofs.OneKernel.{one_kernel_is}
use Rattle.loop_runs.proofs.law.one_kernel.Goals as goal

pub returns : goal.returns
returns c = one_kernel_is
