use Rattle.std.proofs.Common.{◌≡◌, drop}
use Rattle.nesc_types.specs.Literals.{first_holding}
use Rattle.nesc_types.proofs.literals.first_holding.Given as goal

abbrev pub invariant-loop-t : goal.invariant-loop-t
invariant-loop-t l = first_holding l.n (drop l.t-index l.types) ≡ first_holding l.n l.types
