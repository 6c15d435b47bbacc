use Rattle.std.proofs.Common.{◌≡◌, ◌++◌, drop, map}
use Rattle.body_meaning.specs.View.{decl_of}
use Rattle.nesc_unwired.specs.Told.{lacking}
use Rattle.item_targets.specs.View.{element_of}
use Rattle.item_targets.proofs.items.add_all_lacking.Given as goal

abbrev pub invariant-loop-x : goal.invariant-loop-x
invariant-loop-x l = l.found.items ++ lacking (map decl_of l.decls) (map element_of (drop l.x-index l.elements)) ≡ l.fn.found.items ++ lacking (map decl_of l.decls) (map element_of l.elements)
