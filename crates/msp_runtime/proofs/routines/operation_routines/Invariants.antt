-- The routines of all numbers so far.
use Rattle.std.proofs.Common.{◌≡◌, map}
use Rattle.std.specs.List.{range_with_len}
use Rattle.msp_runtime.specs.Emitted.{code_fn}
use Rattle.msp_runtime.specs.Routines.{code_at}
use Rattle.msp_runtime.proofs.routines.operation_routines.Given as goal

abbrev pub invariant-loop-number : goal.invariant-loop-number
invariant-loop-number l = l.code.items ≡ map (λ h. code_fn (code_at h)) (range_with_len 0 l.number)
