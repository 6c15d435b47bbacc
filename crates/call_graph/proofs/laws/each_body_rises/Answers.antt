use Rattle.call_graph.proofs.Rising.{each_body_rises}
use Rattle.call_graph.proofs.laws.each_body_rises.Goals as goal

pub returns : goal.returns
returns c = each_body_rises
