use Rattle.elab_meaning.specs.View.{struct_of}
use Rattle.elab_types.proofs.Scopes.{scope-view}
use Rattle.elab_types.proofs.structs.structs_from.Goals as goal

pub returns-in-Some : goal.returns-in-Some
returns-in-Some c = scope-view struct_of c.args.first c.args.structs.now c.in-Some.ended.now (c.in-Some.ensures.lookup.0.2)
