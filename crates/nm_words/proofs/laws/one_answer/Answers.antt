use Rattle.nm_words.proofs.Answered.{refused_apart}
use Rattle.nm_words.proofs.OneAnswer.{one_request}
use Rattle.nm_words.proofs.laws.one_answer.Goals as goal

pub returns-clause-one : goal.returns-clause-one
returns-clause-one c words a b h k = one_request words a b h k

pub returns-clause-apart : goal.returns-clause-apart
returns-clause-apart c words h k = refused_apart words h k
