use Rattle.std.proofs.Common.{List, ◌++◌, map, flat_map, take}
use Rattle.body_meaning.specs.Tree.{Decl}
use Rattle.body_meaning.specs.View.{decl_of}
use Rattle.elab_targets.specs.Places.{ArePlaces}
use Rattle.elab_targets.proofs.tables.add_all.Given as goal

abbrev pub invariant-loop-decls : goal.invariant-loop-decls
invariant-loop-decls l = (ds : List Decl) → ArePlaces ds l.fn.places → ArePlaces (ds ++ flat_map (λ h. map decl_of h.now) (take l.decls-index l.headers)) l.places
