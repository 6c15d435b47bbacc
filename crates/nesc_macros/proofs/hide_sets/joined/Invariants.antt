use Rattle.std.proofs.Common.{◌≡◌, take}
use Rattle.nesc_macros.specs.Numbers.{joined}
use Rattle.nesc_macros.proofs.hide_sets.joined.Given as goal

abbrev pub invariant-loop-number : goal.invariant-loop-number
invariant-loop-number l = l.all.items ≡ joined l.numbers (take l.number-index l.others)
