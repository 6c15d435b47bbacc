use Rattle.lean_pace.proofs.Measured.{lean_is_measured}
use Rattle.lean_pace.proofs.law.lean_is_measured.Goals as goal

pub returns : goal.returns
returns c = lean_is_measured
