use Rattle.std.proofs.Common.{◌≡◌, length}
use Rattle.wire_units.specs.Scope.{declare_all}
use Rattle.wire_units.specs.Heads.{params_at}
use Rattle.wire_units.proofs.head.declare_params.Given as goal

abbrev pub invariant-loop-param : goal.invariant-loop-param
invariant-loop-param l = declare_all l.scope (params_at l.at l.rest) ≡ declare_all l.fn.scope (params_at l.at l.params)

abbrev pub decreases-loop-param : goal.decreases-loop-param
decreases-loop-param l = length l.rest
