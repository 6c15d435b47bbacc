use Rattle.std.proofs.Common.{[], map, flat_map}
use Rattle.body_meaning.specs.View.{decl_of}
use Rattle.elab_targets.specs.Places.{ArePlaces}
use Rattle.elab_targets.proofs.Behind.{where_done}
use Rattle.elab_targets.proofs.tables.header_places.Goals as goal

pub returns : goal.returns
returns c = where_done (ArePlaces (flat_map (λ h. map decl_of h.now) c.args.headers.now)) c.add_all-added.new.places c.add_all-added.result c.behind.result
    c.add_all-added.ensures (λ says. says [] c.new-places.ensures) c.behind.ensures
