use Rattle.nesc_types.proofs.Casts.{not_plain}
use Rattle.nesc_types.proofs.operators.is_plain.Goals as goal

pub returns-in-len1-up : goal.returns-in-len1-up
returns-in-len1-up c = not_plain c.args.stars c.args.dims.now c.in-len1-up.len_at_least
