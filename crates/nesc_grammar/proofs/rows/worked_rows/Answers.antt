use Rattle.nesc_grammar.proofs.RowLemmas.{rows}
use Rattle.nesc_grammar.proofs.rows.worked_rows.Goals as goal

pub returns : goal.returns
returns c = rows
