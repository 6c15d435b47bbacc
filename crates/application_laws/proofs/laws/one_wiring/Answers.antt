use Rattle.application_laws.proofs.OneWiring.{one_wiring}
use Rattle.application_laws.proofs.laws.one_wiring.Goals as goal

pub returns : goal.returns
returns c = one_wiring c.one_expansion.ensures c.one_answer.ensures.few c.one_given.ensures
