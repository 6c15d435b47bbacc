use Rattle.call_graph.proofs.Naming.{each_call_is_named}
use Rattle.call_graph.proofs.laws.each_call_names_a_body.Goals as goal

pub returns : goal.returns
returns c = each_call_is_named
