use Rattle.elab_meaning.specs.View.{tag_of}
use Rattle.elab_types.proofs.Scopes.{scope-view}
use Rattle.elab_types.proofs.types.tags_from.Goals as goal

pub returns-in-Some : goal.returns-in-Some
returns-in-Some c = scope-view tag_of c.args.first c.args.tags.now c.in-Some.scope.now (c.in-Some.ensures.lookup.0.2)
