use Rattle.code_bytes.proofs.Fixed.{fixed_small}
use Rattle.code_bytes.proofs.laws.fixed_code_is_small.Goals as goal

pub returns : goal.returns
returns c = fixed_small
