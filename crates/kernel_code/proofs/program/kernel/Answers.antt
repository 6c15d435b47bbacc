use Rattle.std.proofs.Common.{ℕ, subst}
use Rattle.std.specs.Prelude.{IfOk, Result}
use Rattle.nesc_core.specs.View.{program_of}
use Rattle.task_queue.specs.Kernel.{Fits}
use Rattle.kernel_code.specs.declared.queued.NoKernel.{NoKernel}
use Rattle.kernel_code.proofs.program.kernel.Goals as goal

pub returns-clause-fits : goal.returns-clause-fits
returns-clause-fits c =
    subst (λ (made : Result ℕ NoKernel). IfOk made (λ queue. Fits (program_of c.args.p))) c.in_ok-program.ensures.kept.1 c.make-made.ensures.fits
