use Rattle.std.proofs.Common.{◌≡◌, length, map}
use Rattle.std.specs.Prelude.{codes}
use Rattle.std.specs.List.{filter}
use Rattle.body_meaning.specs.View.{attr_of}
use Rattle.program_meaning.specs.Heads.{is_named}
use Rattle.program_meaning.specs.Items.{combined_by}
use Rattle.elab_items.proofs.combined.combined_by.Given as goal

abbrev pub invariant-loop-a : goal.invariant-loop-a
invariant-loop-a l = combined_by (filter (is_named (codes "combine")) (map attr_of l.rest)) ≡ combined_by (filter (is_named (codes "combine")) (map attr_of l.attrs))

abbrev pub decreases-loop-a : goal.decreases-loop-a
decreases-loop-a l = length l.rest
