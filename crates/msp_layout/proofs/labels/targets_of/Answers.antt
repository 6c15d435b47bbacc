-- The item is that of its place.
use Rattle.std.proofs.Common.{sym, ◌∙◌}
use Rattle.std.proofs.lemmas.List.{get_or_default}
use Rattle.msp_layout.proofs.labels.targets_of.Goals as goal

pub target-requires-clause-once : goal.target-requires-clause-once
target-requires-clause-once c = λ l d e. c.requires c.loop-k.k l d (sym (get_or_default c.args.items.now c.loop-k.k _ _ c.loop-k-test.true) ∙ e)
