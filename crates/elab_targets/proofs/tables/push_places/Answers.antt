use Rattle.std.proofs.Common.{[], ◌∷◌, ◌++◌, sym, subst}
use Rattle.elab_targets.specs.Starts.{AllPlaces}
use Rattle.elab_targets.specs.View.{instance_of}
use Rattle.elab_targets.proofs.Beginning.{one_more}
use Rattle.elab_targets.proofs.tables.push_places.Goals as goal

pub returns : goal.returns
returns c = λ is all. subst (AllPlaces (is ++ instance_of c.args.instance.now ∷ [])) (sym c.in_ok-push.ensures.items)
    (one_more is c.args.all.now.items (instance_of c.args.instance.now) c.in_ok-places_of.field-0 all c.in_ok-places_of.ensures)
