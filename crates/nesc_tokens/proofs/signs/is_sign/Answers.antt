use Rattle.nesc_tokens.specs.Spelling.{signs}
use Rattle.nesc_tokens.proofs.signs.is_sign.Goals as goal

pub returns : goal.returns
unfolding signs
returns c = c.is_one_of.ensures
