use Rattle.std.proofs.Common.{drop, map}
use Rattle.nesc_core.specs.Typing.{IsType}
use Rattle.nesc_core.specs.View.{structs_of, type_of}
use Rattle.well_formed.specs.Formed.{Each}
use Rattle.well_formed.proofs.bodies.are_types.Given as goal

abbrev pub invariant-loop-t : goal.invariant-loop-t
invariant-loop-t l = Each (IsType (structs_of l.s)) (map type_of (drop l.t-index l.types)) → Each (IsType (structs_of l.s)) (map type_of l.types)
