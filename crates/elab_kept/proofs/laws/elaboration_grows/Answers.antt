use Rattle.elab_kept.proofs.Law.{law}
use Rattle.elab_kept.proofs.laws.elaboration_grows.Goals as goal

pub returns : goal.returns
returns c = law
