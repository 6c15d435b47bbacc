use Rattle.std.proofs.Common.{length}
use Rattle.nesc_operands.proofs.operators.+row_of.Given as goal

abbrev pub decreases-row_of : goal.decreases-row_of
decreases-row_of g l = length l.rows.now
