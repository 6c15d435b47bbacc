use Rattle.body_meaning.specs.View.{head_of}
use Rattle.elab_targets.proofs.Behind.{on_ok}
use Rattle.elab_targets.proofs.EachKind.{none_kept}
use Rattle.elab_targets.proofs.places.Places.keep_item.Goals as goal

pub returns-in-None : goal.returns-in-None
returns-in-None c = none_kept (head_of c.args.head.now) c.args.self.now c.in-None.is

pub returns-in-Some : goal.returns-in-Some
returns-in-Some c = on_ok c.keep_named.result (λ kept. kept c.in-Some.is) c.keep_named.ensures
