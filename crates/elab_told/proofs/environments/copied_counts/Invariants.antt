use Rattle.std.proofs.Common.{◌≡◌, map, take}
use Rattle.elab_meaning.specs.View.{unique_count_of}
use Rattle.elab_told.proofs.environments.copied_counts.Given as goal

abbrev pub invariant-loop-one : goal.invariant-loop-one
invariant-loop-one l = map unique_count_of l.copies.items ≡ map unique_count_of (take l.one-index l.counts)
