use Rattle.std.proofs.Common.{◌≡◌, map, drop}
use Rattle.elab_meaning.specs.Scope.{unique_at}
use Rattle.elab_meaning.specs.View.{unique_of}
use Rattle.elab_names.proofs.told.unique_at.Given as goal

abbrev pub invariant-loop-unique : goal.invariant-loop-unique
invariant-loop-unique l = unique_at (map unique_of (drop l.unique-index l.uniques)) l.at ≡ unique_at (map unique_of l.uniques) l.at
