use Rattle.std.proofs.Common.{refl}
use Rattle.elab_targets.proofs.Defined.{none_defined}
use Rattle.elab_targets.proofs.places.Places.new.Goals as goal

pub returns : goal.returns
returns c = none_defined _ c.new.ensures c.new-2.ensures c.new-3.ensures c.new-4.ensures refl refl
