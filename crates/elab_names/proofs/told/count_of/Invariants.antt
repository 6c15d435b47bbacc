use Rattle.std.proofs.Common.{◌≡◌, map, drop}
use Rattle.elab_meaning.specs.Scope.{count_of}
use Rattle.elab_meaning.specs.View.{unique_count_of}
use Rattle.elab_names.proofs.told.count_of.Given as goal

abbrev pub invariant-loop-count : goal.invariant-loop-count
invariant-loop-count l = count_of (map unique_count_of (drop l.count-index l.counts)) l.text ≡ count_of (map unique_count_of l.counts) l.text
