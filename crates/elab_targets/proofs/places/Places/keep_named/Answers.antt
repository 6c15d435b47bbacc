use Rattle.std.proofs.Common.{refl}
use Rattle.body_meaning.specs.View.{head_of}
use Rattle.elab_targets.proofs.Behind.{on_ok}
use Rattle.elab_targets.proofs.EachKind.{default_kept, other_kept}
use Rattle.elab_targets.proofs.places.Places.keep_named.Goals as goal

pub returns-then-head : goal.returns-then-head
returns-then-head c = on_ok c.keep.result (λ kept item. default_kept (head_of c.args.head.now) c.args.item.now c.args.self.now _ item refl refl refl refl c.if-head.true kept refl) c.keep.ensures

pub returns-else-head : goal.returns-else-head
returns-else-head c = on_ok c.keep-else-head.result (λ kept item. other_kept (head_of c.args.head.now) c.args.item.now c.args.self.now _ item refl refl refl refl c.if-head.false kept refl) c.keep-else-head.ensures
