use Rattle.std.proofs.Common.{◌≡◌, drop, map}
use Rattle.std.specs.List.{list_any}
use Rattle.body_meaning.specs.View.{decl_of}
use Rattle.nesc_unwired.specs.Told.{lacks}
use Rattle.item_targets.specs.View.{element_of, item_of}
use Rattle.item_targets.proofs.items.lacks_among.Given as goal

abbrev pub invariant-loop-y : goal.invariant-loop-y
invariant-loop-y l = list_any (lacks (map decl_of l.decls) (element_of l.x)) (map item_of (drop l.y-index l.items)) ≡ list_any (lacks (map decl_of l.decls) (element_of l.x)) (map item_of l.items)
