use Rattle.std.proofs.Common.{◌≡◌, ◌+◌, ◌++◌, length, map, take}
use Rattle.nesc_core.specs.Plain.{eval}
use Rattle.nesc_core.specs.View.{stmt_of}
use Rattle.combine_fanout.specs.Dispatch.{target}
use Rattle.combine_fanout.proofs.calls.push_calls.Given as goal

abbrev pub invariant-loop-body : goal.invariant-loop-body
invariant-loop-body l =
    (map stmt_of l.code.items ≡ map stmt_of l.initial.code.items ++ map eval (map (target l.i) (take l.body-index l.bodies)))
    × (length l.code.items ≡ length l.initial.code.items + l.body-index)
