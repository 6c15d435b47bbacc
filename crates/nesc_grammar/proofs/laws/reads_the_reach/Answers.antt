use Rattle.nesc_grammar.proofs.Reach as law
use Rattle.nesc_grammar.proofs.laws.reads_the_reach.Goals as goal

pub returns : goal.returns
returns c = law.reach
