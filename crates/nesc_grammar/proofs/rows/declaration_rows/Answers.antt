use Rattle.nesc_grammar.proofs.DeclarationRowLemmas as law
use Rattle.nesc_grammar.proofs.rows.declaration_rows.Goals as goal

pub returns : goal.returns
returns c = law.rows
