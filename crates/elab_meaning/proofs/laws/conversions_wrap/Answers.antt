use Rattle.elab_meaning.proofs.Wrapping.{wraps}
use Rattle.elab_meaning.proofs.laws.conversions_wrap.Goals as goal

pub returns : goal.returns
returns c = wraps
