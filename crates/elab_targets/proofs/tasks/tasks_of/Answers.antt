use Rattle.std.proofs.Common.{◌++◌, List, map, flat_map, ap, ◌∙◌}
use Rattle.program_meaning.specs.Numbers.{definitions, definitions_in, task_bodies_from}
use Rattle.elab_targets.specs.View.{instance_of}
use Rattle.elab_targets.proofs.TaskLists.{all_tasks, decls_in}
use Rattle.elab_targets.proofs.tasks.tasks_of.Goals as goal

pub returns : goal.returns
returns c =
    let hs = c.as_slice.result.now in
    let is = c.as_slice-2.result.now in
    all_tasks (definitions (flat_map decls_in hs)) (definitions_in (map instance_of is)) c.new-tasks.result.items c.header_tasks.new.tasks.items c.instance_tasks.new.tasks.items c.in_ok-first.first
    c.new-tasks.ensures.items c.in_ok-first.ensures.tasks c.in_ok-first.ensures.number c.in_ok-instance_tasks.ensures
    ∙ ap (λ (ys : List _). task_bodies_from 0 (definitions (flat_map decls_in ys) ++ definitions_in (map instance_of is))) c.as_slice.ensures.value
    ∙ ap (λ (ys : List _). task_bodies_from 0 (definitions (flat_map decls_in c.args.app.now.headers.items) ++ definitions_in (map instance_of ys))) c.as_slice-2.ensures.value
