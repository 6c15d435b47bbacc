use Rattle.std.proofs.Common.{◌≡◌, ◌++◌, map, length}
use Rattle.elab_meaning.specs.View.{unique_of}
use Rattle.wire_envs.specs.Envs as spec
use Rattle.wire_envs.proofs.told.uniques_in.Given as goal

abbrev pub invariant-loop-one : goal.invariant-loop-one
invariant-loop-one l = map unique_of l.uniques.items ++ spec.uniques_in l.rest l.left ≡ spec.uniques_in l.uses l.numbers

abbrev pub decreases-loop-one : goal.decreases-loop-one
decreases-loop-one l = length l.rest
