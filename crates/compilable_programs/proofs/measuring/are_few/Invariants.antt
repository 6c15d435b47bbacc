use Rattle.std.proofs.Common.{◌≤◌, drop, length}
use Rattle.nesc_core.specs.View.{stmts_of}
use Rattle.lean_pace.specs.Lean.{count_working}
use Rattle.compilable_programs.proofs.measuring.are_few.Given as goal

abbrev pub invariant-loop-s : goal.invariant-loop-s
invariant-loop-s l = l.left ≤ count_working (stmts_of (drop l.s-index l.s-items)) → length l.cases ≤ count_working (stmts_of l.s-items)
