use Rattle.std.proofs.Common.{refl}
use Rattle.body_meaning.specs.View.{head_of}
use Rattle.elab_targets.proofs.EachKind.{task_added, tables_stay}
use Rattle.elab_targets.proofs.places.Places.add_task.Goals as goal

pub returns : goal.returns
returns c = λ task. task_added (head_of c.args.head.now) c.args.self.now _ (tables_stay c.args.self.now _ refl refl) task c.in_ok-keep.ensures c.in_ok-keep-2.ensures c.in_ok-bodies.ensures c.in_ok-tasks.ensures
