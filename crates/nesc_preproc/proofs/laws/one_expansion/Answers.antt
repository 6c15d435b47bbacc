use Rattle.nesc_preproc.proofs.OneExpansion.{one_expansion}
use Rattle.nesc_preproc.proofs.laws.one_expansion.Goals as goal

-- src/laws.rt
pub returns : goal.returns
returns c = one_expansion (record { one = c.one_lexing.ensures.one; not_refused = c.one_lexing.ensures.not_refused; one_refusal = c.one_lexing.ensures.one_refusal })
