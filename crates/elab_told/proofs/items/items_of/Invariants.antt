use Rattle.std.proofs.Common.{◌≡◌, ◌++◌, map, drop}
use Rattle.elab_facts.specs.View.{fact_of}
use Rattle.elab_meaning.specs.View as meaning
use Rattle.program_meaning.specs.Items.{item_of}
use Rattle.elab_told.proofs.items.items_of.Given as goal

abbrev pub invariant-loop-fact : goal.invariant-loop-fact
invariant-loop-fact l = map meaning.item_of l.items.items ++ map item_of (map fact_of (drop l.fact-index l.facts)) ≡ map item_of (map fact_of l.facts)
