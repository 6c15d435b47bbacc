-- The operand so far, and what climbing from it on gives.
use Rattle.std.proofs.Common.{ℕ, suc, length}
use Rattle.nesc_parse_exprs.specs.Turns.{climb_in}
use Rattle.nesc_parse_exprs.proofs.Climb.{IsClimbing}
use Rattle.nesc_parse_exprs.proofs.expr_reader.ExprReader.climb.Given as goal

abbrev pub invariant-loop-left : goal.invariant-loop-left
invariant-loop-left g l = IsClimbing l.self.reader.spare l.fn.least l.self.reader.names.now (climb_in l.self.reader.spare l.fn.least (suc (length l.fn.ts)) l.self.reader.names.now l.fn.first l.fn.ts) l.left l.rest

abbrev pub decreases-loop-left : goal.decreases-loop-left
decreases-loop-left g l = length l.rest
