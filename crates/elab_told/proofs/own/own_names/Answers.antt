use Rattle.elab_told.proofs.OwnNames.{no_names}
use Rattle.elab_told.proofs.own.own_names.Goals as goal

pub loop-decl-init : goal.loop-decl-init
loop-decl-init c = no_names _ c.new-names.ensures
