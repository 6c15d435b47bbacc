use Rattle.std.proofs.Common.{◌≡◌, not, take}
use Rattle.std.specs.Prelude.{filter}
use Rattle.nesc_macros.specs.Numbers.{has}
use Rattle.nesc_macros.proofs.hide_sets.are_apart.Given as goal

abbrev pub invariant-loop-number : goal.invariant-loop-number
invariant-loop-number l = filter (λ n. not (has l.numbers n)) (take l.number-index l.others) ≡ take l.number-index l.others
