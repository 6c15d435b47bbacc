use Rattle.nesc_grammar.proofs.Plain as law
use Rattle.nesc_grammar.proofs.laws.longest_chooses_else.Goals as goal

pub returns : goal.returns
returns c = law.else_chosen
