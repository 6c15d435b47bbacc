use Rattle.std.proofs.Common.{◌≡◌, ◌++◌, drop, map}
use Rattle.elab_meaning.specs.View.{unique_count_of}
use Rattle.elab_application.proofs.counts.add.Given as goal

abbrev pub invariant-loop-one : goal.invariant-loop-one
invariant-loop-one l = map unique_count_of l.counts.items ++ map unique_count_of (drop l.one-index l.more) ≡ map unique_count_of l.fn.counts.items ++ map unique_count_of l.more
