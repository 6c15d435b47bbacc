use Rattle.std.proofs.Common.{◌≡◌, map}
use Rattle.nesc_core.specs.View.{expr_of}
use Rattle.combine_fanout.specs.Dispatch.{locals_below}
use Rattle.combine_fanout.proofs.calls.parameters.Given as goal

abbrev pub invariant-loop-number : goal.invariant-loop-number
invariant-loop-number l = map expr_of l.arguments.items ≡ locals_below l.i.at l.number
