use Rattle.std.proofs.Common.{◌≡◌, ◌++◌, drop, map}
use Rattle.core_meaning.specs.Act as act
use Rattle.nesc_core.specs.View.{structs_of, type_of}
use Rattle.core_act.proofs.locals.holding.Given as goal

abbrev pub invariant-loop-i : goal.invariant-loop-i
invariant-loop-i l =
    l.locals.items ++ act.holding (structs_of l.s) (map type_of (drop l.i l.types)) (drop l.i l.vs) ≡ act.holding (structs_of l.s) (map type_of l.types) l.vs
