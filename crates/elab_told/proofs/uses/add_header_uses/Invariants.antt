use Rattle.std.proofs.Common.{List, ◌++◌, map, flat_map, take}
use Rattle.body_meaning.specs.View.{decl_of}
use Rattle.program_meaning.specs.Uses.{in_decls}
use Rattle.program_meaning.specs.declared.used.Use.{Use}
use Rattle.elab_targets.specs.Places.{AreUsed}
use Rattle.elab_told.proofs.uses.add_header_uses.Given as goal

abbrev pub invariant-loop-decls : goal.invariant-loop-decls
invariant-loop-decls l = (us : List Use) → AreUsed us l.fn.used → AreUsed (us ++ in_decls (flat_map (λ h. map decl_of h.now) (take l.decls-index l.headers))) l.used
