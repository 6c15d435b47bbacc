use Rattle.nesc_grammar.proofs.Reach as law
use Rattle.nesc_grammar.proofs.laws.probe_tells.Goals as goal

pub returns : goal.returns
returns c = law.probe_tells
