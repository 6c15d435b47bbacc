use Rattle.std.proofs.Common.{List, slice_get, sym, ap, subst, ◌∙◌}
use Rattle.elab_targets.specs.Starts.{AreOf}
use Rattle.elab_targets.specs.declared.places.Places.{Places}
use Rattle.elab_targets.proofs.Beginning.{one_of}
use Rattle.elab_targets.proofs.tables.Tables.places.Goals as goal

pub returns : goal.returns
returns c = λ app are. subst (AreOf (slice_get app.instances c.args.instance)) (sym (c.places_at.ensures ∙ ap (λ (ts : List Places). slice_get ts c.args.instance) c.as_slice.ensures.value))
    (one_of app.instances c.args.self.now.instances.items c.args.instance are.of_instances)
