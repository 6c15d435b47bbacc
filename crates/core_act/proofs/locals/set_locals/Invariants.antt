use Rattle.std.proofs.Common.{◌≡◌, ◌+◌, drop, map}
use Rattle.core_meaning.specs.Act as act
use Rattle.core_meaning.specs.Work.{Locals, set_locals}
use Rattle.nesc_core.specs.View.{structs_of, type_of}
use Rattle.nm_base.specs.Behaviour.{Behaviour}
use Rattle.core_act.proofs.locals.set_locals.Given as goal

abbrev pub invariant-loop-i : goal.invariant-loop-i
invariant-loop-i l =
    (after : Unit {0} → Locals → Behaviour) → set_locals l.first (act.holding (structs_of l.s) (map type_of l.types) l.vs) after l.fn.locals
    ≡ set_locals (l.first + l.i) (act.holding (structs_of l.s) (map type_of (drop l.i l.types)) (drop l.i l.vs)) after l.locals
