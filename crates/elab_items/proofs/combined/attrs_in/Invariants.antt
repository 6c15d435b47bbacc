use Rattle.std.proofs.Common.{◌≡◌, length, map}
use Rattle.std.specs.List.{filter_map}
use Rattle.body_meaning.specs.View.{decl_of}
use Rattle.program_meaning.specs.Items.{attrs_of}
use Rattle.elab_items.specs.Parts.{first}
use Rattle.elab_items.proofs.combined.attrs_in.Given as goal

abbrev pub invariant-loop-decl : goal.invariant-loop-decl
invariant-loop-decl l = first (filter_map (attrs_of l.name) (map decl_of l.rest)) ≡ first (filter_map (attrs_of l.name) (map decl_of l.decls))

abbrev pub decreases-loop-decl : goal.decreases-loop-decl
decreases-loop-decl l = length l.rest
