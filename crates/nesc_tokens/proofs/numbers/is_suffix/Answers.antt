use Rattle.nesc_tokens.specs.Spelling.{suffixes}
use Rattle.nesc_tokens.proofs.numbers.is_suffix.Goals as goal

pub returns : goal.returns
unfolding suffixes
returns c = c.is_one_of.ensures
