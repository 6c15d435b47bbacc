use Rattle.std.proofs.Common.{◌≡◌, ◌+◌, ◌++◌, length, map, drop}
use Rattle.body_meaning.specs.View.{decl_of}
use Rattle.program_meaning.specs.Numbers.{definitions, task_bodies_from}
use Rattle.elab_targets.proofs.tasks.push_tasks.Given as goal

abbrev pub invariant-loop-decl : goal.invariant-loop-decl
invariant-loop-decl l = record {
  pushed : l.tasks.items ++ task_bodies_from l.number (definitions (map decl_of (drop l.decl-index l.decls))) ≡ l.fn.tasks.items ++ task_bodies_from l.first (definitions (map decl_of l.decls));
  counted : l.number + length (definitions (map decl_of (drop l.decl-index l.decls))) ≡ l.first + length (definitions (map decl_of l.decls));
}
