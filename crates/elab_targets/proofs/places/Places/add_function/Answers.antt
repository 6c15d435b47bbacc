use Rattle.std.proofs.Common.{refl}
use Rattle.body_meaning.specs.View.{head_of}
use Rattle.elab_targets.proofs.EachKind.{function_added, tables_stay}
use Rattle.elab_targets.proofs.places.Places.add_function.Goals as goal

pub returns : goal.returns
returns c = λ plain. function_added (head_of c.args.head.now) c.args.self.now _ (tables_stay c.args.self.now _ refl refl) plain c.in_ok-keep.ensures refl c.in_ok-bodies.ensures refl
