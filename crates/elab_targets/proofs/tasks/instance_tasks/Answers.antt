use Rattle.std.proofs.Common.{◌+◌, map, drop}
use Rattle.body_meaning.specs.View.{decl_of}
use Rattle.program_meaning.specs.Numbers.{definitions, definitions_in}
use Rattle.elab_targets.specs.View.{instance_of}
use Rattle.elab_targets.proofs.TaskLists.{instance_next, pushed_more}
use Rattle.elab_targets.proofs.tasks.instance_tasks.Goals as goal

pub loop-instance-preserved : goal.loop-instance-preserved
loop-instance-preserved c =
    let is = c.args.instances.now in
    let k = c.loop-instance.instance-index in
    let x = c.instance-item.result in
    pushed_more c.loop-instance.tasks.items c.push_tasks.new.tasks.items _ c.loop-instance.number c.in_ok-number.number 0
    (definitions_in (map instance_of (drop k is))) (definitions (map decl_of x.decls.now)) (definitions_in (map instance_of (drop (k + 1) is)))
    (instance_next is k x c.loop-instance-test.true c.instance-item.is) c.in_ok-number.ensures.number c.in_ok-number.ensures.tasks c.loop-instance.invariant
