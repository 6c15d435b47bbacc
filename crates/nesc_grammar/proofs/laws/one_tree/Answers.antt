use Rattle.nesc_grammar.proofs.Reach as law
use Rattle.nesc_grammar.proofs.laws.one_tree.Goals as goal

pub returns : goal.returns
returns c = law.one_tree
