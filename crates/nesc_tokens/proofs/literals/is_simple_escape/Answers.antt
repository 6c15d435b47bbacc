use Rattle.nesc_tokens.specs.Spelling.{simple_escapes}
use Rattle.nesc_tokens.proofs.literals.is_simple_escape.Goals as goal

pub returns : goal.returns
unfolding simple_escapes
returns c = c.is_one_of.ensures
