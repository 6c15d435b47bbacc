use Rattle.std.proofs.Common.{◌≡◌, ◌+◌, ◌++◌, length, map, flat_map, drop}
use Rattle.body_meaning.specs.View.{decl_of}
use Rattle.program_meaning.specs.Numbers.{definitions, task_bodies_from}
use Rattle.elab_targets.proofs.tasks.header_tasks.Given as goal

abbrev pub invariant-loop-decls : goal.invariant-loop-decls
invariant-loop-decls l = record {
  pushed : l.tasks.items ++ task_bodies_from l.number (definitions (flat_map (λ h. map decl_of h.now) (drop l.decls-index l.headers)))
      ≡ l.fn.tasks.items ++ task_bodies_from 0 (definitions (flat_map (λ h. map decl_of h.now) l.headers));
  counted : l.number + length (definitions (flat_map (λ h. map decl_of h.now) (drop l.decls-index l.headers))) ≡ length (definitions (flat_map (λ h. map decl_of h.now) l.headers));
}
