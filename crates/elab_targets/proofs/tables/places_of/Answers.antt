use Rattle.std.proofs.Common.{[], map}
use Rattle.body_meaning.specs.View.{decl_of}
use Rattle.elab_targets.specs.Places.{ArePlaces}
use Rattle.elab_targets.proofs.Behind.{where_done}
use Rattle.elab_targets.proofs.tables.places_of.Goals as goal

pub returns : goal.returns
returns c = where_done (ArePlaces (map decl_of c.args.decls.now)) c.add-added.new.self c.add-added.result c.behind.result c.add-added.ensures (λ says. says [] c.new-places.ensures) c.behind.ensures
