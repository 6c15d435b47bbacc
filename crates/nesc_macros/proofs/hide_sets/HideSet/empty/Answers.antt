use Rattle.nesc_macros.proofs.Linked.{empty_in}
use Rattle.nesc_macros.proofs.hide_sets.HideSet.empty.Goals as goal

pub returns : goal.returns
returns c links = empty_in links 0 4294967295 0
