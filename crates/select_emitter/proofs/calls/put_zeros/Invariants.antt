-- What is written and what is left are all zeros.
use Rattle.std.proofs.Common.{◌≡◌, ◌++◌, ◌-◌}
use Rattle.msp_select.specs.Select.{items_of, zeros}
use Rattle.select_emitter.proofs.calls.put_zeros.Given as goal

abbrev pub invariant-loop : goal.invariant-loop
invariant-loop l = l.items.items ++ items_of (zeros (l.n - l.counter)) ≡ l.fn.items.items ++ items_of (zeros l.n)
