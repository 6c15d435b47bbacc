use Rattle.lean_pace.proofs.Numbers.{kernel_keeps_pace}
use Rattle.lean_pace.proofs.law.kernel_keeps_pace.Goals as goal

pub returns : goal.returns
returns c = kernel_keeps_pace
