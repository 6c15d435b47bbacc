use Rattle.std.proofs.Common.{map, take}
use Rattle.body_meaning.specs.View.{decl_of}
use Rattle.elab_told.specs.Uses.{AreOwn, heads_in}
use Rattle.elab_told.proofs.own.own_names.Given as goal

abbrev pub invariant-loop-decl : goal.invariant-loop-decl
invariant-loop-decl l = AreOwn (heads_in (map decl_of (take l.decl-index l.decls))) l.names
