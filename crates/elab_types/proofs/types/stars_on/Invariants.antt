use Rattle.std.proofs.Common.{◌≡◌}
use Rattle.nesc_core.specs.View.{type_of}
use Rattle.elab_meaning.specs.Operators.{stars_on}
use Rattle.elab_types.proofs.types.stars_on.Given as goal

abbrev pub invariant-loop-depth : goal.invariant-loop-depth
invariant-loop-depth l = type_of l.t ≡ stars_on l._depth (type_of l.fn.base)
