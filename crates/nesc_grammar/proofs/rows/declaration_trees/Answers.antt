use Rattle.nesc_grammar.proofs.DeclarationRowLemmas as law
use Rattle.nesc_grammar.proofs.rows.declaration_trees.Goals as goal

pub returns : goal.returns
returns c = law.trees
