use Rattle.std.proofs.Common.{◌≡◌, ◌+◌, ◌≤◌, drop, min}
use Rattle.nesc_core.specs.View.{stmts_of}
use Rattle.lower_form.specs.Short.{stmts_extras}
use Rattle.lower_form.proofs.short.+extras.Given as goal

abbrev pub invariant-extras_of_all-loop-s : goal.invariant-extras_of_all-loop-s
invariant-extras_of_all-loop-s l = record {
  same : min (l.sum + stmts_extras (stmts_of (drop l.s-index l.s-items))) 4294967295 ≡ min (stmts_extras (stmts_of l.s-items)) 4294967295;
  small : l.sum ≤ 4294967295;
}
