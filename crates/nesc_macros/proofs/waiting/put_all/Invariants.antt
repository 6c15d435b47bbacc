use Rattle.std.proofs.Common.{◌≡◌, ◌++◌, vec_len}
use Rattle.nesc_macros.specs.Groups.{AreClosing, AreGrouped, parts}
use Rattle.nesc_macros.proofs.waiting.put_all.Given as goal

abbrev pub invariant-loop-last : goal.invariant-loop-last
invariant-loop-last l = record {
  put : l.list.items ++ parts l.tokens.items ≡ l.fn.list.items ++ parts l.fn.tokens.items;
  grouped : AreGrouped l.tokens.items;
  closing : AreClosing l.closing.items (parts l.tokens.items);
}

abbrev pub decreases-loop-last : goal.decreases-loop-last
decreases-loop-last l = vec_len l.list
