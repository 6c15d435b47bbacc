use Rattle.std.proofs.Common.{drop}
use Rattle.nesc_core.specs.View.{stmts_of}
use Rattle.lean_pace.specs.Lean.{AreLeanStmts}
use Rattle.compilable_programs.proofs.measuring.+cases.Given as goal

abbrev pub invariant-are_lean_stmts-loop-s : goal.invariant-are_lean_stmts-loop-s
invariant-are_lean_stmts-loop-s l = AreLeanStmts (stmts_of (drop l.s-index l.s-items)) → AreLeanStmts (stmts_of l.s-items)
