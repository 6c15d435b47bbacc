use Rattle.call_graph.proofs.Least.{each_path_is_least}
use Rattle.call_graph.proofs.laws.each_path_is_least.Goals as goal

pub returns : goal.returns
returns c = each_path_is_least
