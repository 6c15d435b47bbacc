use Rattle.std.proofs.Common.{refl}
use Rattle.body_meaning.specs.View.{head_of}
use Rattle.elab_targets.proofs.EachKind.{item_added}
use Rattle.elab_targets.proofs.places.Places.add_item.Goals as goal

pub returns : goal.returns
returns c = λ kind. item_added (head_of c.args.head.now) c.args.self.now _ c.keep_item.new.self kind c.in_ok-keep_item.ensures refl refl refl refl c.in_ok-bodies.ensures refl
