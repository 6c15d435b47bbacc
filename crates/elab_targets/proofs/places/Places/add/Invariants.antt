use Rattle.std.proofs.Common.{List, ◌++◌, map, take}
use Rattle.body_meaning.specs.Tree.{Decl}
use Rattle.body_meaning.specs.View.{decl_of}
use Rattle.elab_targets.specs.Places.{ArePlaces}
use Rattle.elab_targets.proofs.places.Places.add.Given as goal

abbrev pub invariant-loop-decl : goal.invariant-loop-decl
invariant-loop-decl l = (ds : List Decl) → ArePlaces ds l.fn.self → ArePlaces (ds ++ map decl_of (take l.decl-index l.decls)) l.self
