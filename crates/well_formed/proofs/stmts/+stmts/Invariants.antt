use Rattle.std.proofs.Common.{drop}
use Rattle.nesc_core.specs.View.{stmts_of}
use Rattle.well_formed.specs.Exits.{AreStmts, exits_of}
use Rattle.well_formed.proofs.stmts.+stmts.Given as goal

abbrev pub invariant-are_stmts-loop-s : goal.invariant-are_stmts-loop-s
invariant-are_stmts-loop-s l = AreStmts l.scope (stmts_of (drop l.s-index l.s-items)) (exits_of l.ways) → AreStmts l.scope (stmts_of l.s-items) (exits_of l.ways)
