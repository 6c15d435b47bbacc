use Rattle.lower_stmt.proofs.Labels.{are_labelled}
use Rattle.lower_stmt.proofs.Program.{all_calls}
use Rattle.lower_stmt.proofs.laws.calls_run.Goals as goal

pub returns : goal.returns
returns c = λ p ranked formed below turns n few. all_calls p formed ranked (are_labelled p) turns below n few
