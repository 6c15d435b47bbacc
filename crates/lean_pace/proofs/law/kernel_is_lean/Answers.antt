use Rattle.lean_pace.proofs.Kernel.{kernel_is_lean}
use Rattle.lean_pace.proofs.law.kernel_is_lean.Goals as goal

pub returns : goal.returns
returns c = kernel_is_lean
