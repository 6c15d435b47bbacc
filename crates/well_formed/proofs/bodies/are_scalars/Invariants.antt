use Rattle.std.proofs.Common.{drop, map}
use Rattle.nesc_core.specs.Typing.{IsScalar}
use Rattle.nesc_core.specs.View.{type_of}
use Rattle.well_formed.specs.Formed.{Each}
use Rattle.well_formed.proofs.bodies.are_scalars.Given as goal

abbrev pub invariant-loop-t : goal.invariant-loop-t
invariant-loop-t l = Each IsScalar (map type_of (drop l.t-index l.types)) → Each IsScalar (map type_of l.types)
