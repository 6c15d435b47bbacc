use Rattle.item_targets.specs.Walk.{all_declared_at}
use Rattle.item_targets.proofs.Bases.{all_lacking}
use Rattle.item_targets.proofs.all_unwired.unwired.Goals as goal

pub returns : goal.returns
unfolding all_declared_at
returns g c = all_lacking _ _ _ _ _ _ c.in_ok-in_decls.ensures c.in_ok-found.ensures c.in_ok-scopes.ensures
