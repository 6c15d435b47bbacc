use Rattle.nesc_tokens.proofs.Exhaustive.{answered}
use Rattle.nesc_tokens.proofs.Determined.{one_lexing, not_both_ways, one_refusal}
use Rattle.nesc_tokens.proofs.lexer.one_lexing.Goals as goal

pub returns : goal.returns
returns c = record { some = answered; one = one_lexing; not_refused = not_both_ways; one_refusal = one_refusal }
