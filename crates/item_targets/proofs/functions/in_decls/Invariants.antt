-- What the rest adds, from here, is what all add.
use Rattle.std.proofs.Common.{◌≡◌, drop, map}
use Rattle.body_meaning.specs.View.{decl_of}
use Rattle.item_targets.specs.Search.{goes, seen_of}
use Rattle.item_targets.specs.Walk.{all_declared_at}
use Rattle.item_targets.proofs.functions.in_decls.Given as goal

abbrev pub invariant-loop-d : goal.invariant-loop-d
invariant-loop-d g l =
    goes (all_declared_at g.R.Reaches.reach l.walk (map decl_of (drop l.d-index l.decls))) (seen_of l.search)
    ≡ goes (all_declared_at g.R.Reaches.reach l.fn.walk (map decl_of l.fn.decls)) (seen_of l.fn.search)
