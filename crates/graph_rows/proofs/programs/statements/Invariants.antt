use Rattle.graph_rows.specs.Programs.{AreCalls}
use Rattle.graph_rows.proofs.programs.statements.Given as goal

abbrev pub invariant-loop-made : goal.invariant-loop-made
invariant-loop-made l = AreCalls l.count l.list.items
