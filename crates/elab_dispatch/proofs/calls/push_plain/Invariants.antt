use Rattle.std.proofs.Common.{◌≡◌, ◌++◌, map, take}
use Rattle.nesc_core.specs.Plain.{eval}
use Rattle.nesc_core.specs.View.{stmt_of}
use Rattle.elab_dispatch.specs.Calls.{called}
use Rattle.elab_dispatch.proofs.calls.push_plain.Given as goal

abbrev pub invariant-loop-target : goal.invariant-loop-target
invariant-loop-target l = map stmt_of l.code.items ≡ map stmt_of l.fn.code.items ++ map eval (map (called l.i) (take l.target-index l.targets))
