use Rattle.lower_stmt.proofs.Formed.{is_mid_fn}
use Rattle.lower_stmt.proofs.laws.functions_formed.Goals as goal

pub returns : goal.returns
returns c = λ p checks b own. is_mid_fn p checks b own
