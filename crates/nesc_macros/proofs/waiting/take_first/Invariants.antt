use Rattle.std.proofs.Common.{◌≡◌, ◌-◌, ◌≤◌, length, take, drop}
use Rattle.nesc_macros.proofs.waiting.take_first.Given as goal

abbrev pub invariant-loop-tokens : goal.invariant-loop-tokens
invariant-loop-tokens l = record {
  within : length l.first.items ≤ l.count;
  first : l.first.items ≡ take (length l.first.items) l.fn.tokens.items;
  others : l.tokens.items ≡ drop (length l.first.items) l.fn.tokens.items;
}

abbrev pub decreases-loop-tokens : goal.decreases-loop-tokens
decreases-loop-tokens l = l.count - length l.first.items
