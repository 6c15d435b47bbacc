use Rattle.std.proofs.Common.{ap}
use Rattle.nesc_core.specs.declared.tree.CoreStmt as stmt
use Rattle.graph_rows.proofs.CallerLemmas.{caller}
use Rattle.graph_rows.proofs.programs.body.Goals as goal

pub returns : goal.returns
returns c = caller c.args.count c.in_ok-list.list.items _ c.in_ok-list.ensures (ap stmt.Block c.new-4.ensures)
