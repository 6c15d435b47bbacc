use Rattle.elab_laws.proofs.Law.{law}
use Rattle.elab_laws.proofs.laws.elaboration_is_well_formed.Goals as goal

pub returns : goal.returns
returns c = law
