use Rattle.std.proofs.Common.{◌≡◌, ◌++◌, flat_map, map, drop}
use Rattle.nesc_core.specs.View.{stmt_of}
use Rattle.combine_fanout.specs.Dispatch.{called}
use Rattle.combine_fanout.proofs.body.just_called.Given as goal

abbrev pub invariant-loop-case : goal.invariant-loop-case
invariant-loop-case l = map stmt_of l.code.items ++ flat_map (λ c. called l.i c.bodies) (drop l.case-index l.cases) ≡ flat_map (λ c. called l.i c.bodies) l.cases
