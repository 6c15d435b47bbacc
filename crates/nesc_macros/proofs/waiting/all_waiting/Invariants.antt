use Rattle.std.proofs.Common.{◌≡◌, ◌++◌, vec_len}
use Rattle.nesc_macros.specs.Expansion.{unhidden}
use Rattle.nesc_macros.specs.Groups.{AreClosing, AreGrouped, parts}
use Rattle.nesc_macros.specs.Numbers.{Scope, all_shown}
use Rattle.nesc_macros.proofs.waiting.all_waiting.Given as goal

abbrev pub invariant-loop-token : goal.invariant-loop-token
invariant-loop-token l = record {
  tokens : (scope : Scope) → unhidden l.text.items ++ all_shown scope (parts l.all.items) ≡ unhidden l.fn.text.items;
  grouped : AreGrouped l.all.items;
  closing : AreClosing l.closing.items (parts l.all.items);
}

abbrev pub decreases-loop-token : goal.decreases-loop-token
decreases-loop-token l = vec_len l.text
