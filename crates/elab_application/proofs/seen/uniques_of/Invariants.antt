use Rattle.std.proofs.Common.{◌≡◌, ◌++◌, drop, map}
use Rattle.elab_meaning.specs.View.{unique_of}
use Rattle.wire_elements.specs.View.{early_env}
use Rattle.elab_application.proofs.seen.uniques_of.Given as goal

abbrev pub invariant-loop-unique : goal.invariant-loop-unique
invariant-loop-unique l = map unique_of l.uniques.items ++ map unique_of (drop l.unique-index l.unique-items) ≡ (early_env l.early).uniques
