use Rattle.std.proofs.Common.{◌≡◌, drop, flat_map, map}
use Rattle.std.specs.List.{filter_map}
use Rattle.body_meaning.specs.View.{decl_of}
use Rattle.program_meaning.specs.Items.{attrs_of}
use Rattle.elab_items.specs.Parts.{first}
use Rattle.elab_items.proofs.combined.attrs_among.Given as goal

abbrev pub invariant-loop-decls : goal.invariant-loop-decls
invariant-loop-decls l =
    first (filter_map (attrs_of l.name) (flat_map (λ h. map decl_of h.now) l.headers))
    ≡ first (filter_map (attrs_of l.name) (flat_map (λ h. map decl_of h.now) (drop l.decls-index l.headers)))
