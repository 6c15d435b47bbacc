use Rattle.std.proofs.Common.{drop, map}
use Rattle.nesc_core.specs.View.{exprs_of, type_of}
use Rattle.well_formed.specs.Scopes.{AllHave}
use Rattle.well_formed.proofs.exprs.+typing.Given as goal

abbrev pub invariant-all_have-loop-arg : goal.invariant-all_have-loop-arg
invariant-all_have-loop-arg l =
    AllHave l.scope (exprs_of (drop l.arg-index l.arg-items)) (map type_of l.left) → AllHave l.scope (exprs_of l.arg-items) (map type_of l.fn.types)
