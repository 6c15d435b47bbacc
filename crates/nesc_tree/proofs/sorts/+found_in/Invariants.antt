use Rattle.std.proofs.Common.{length}
use Rattle.nesc_tree.proofs.sorts.+found_in.Given as goal

abbrev pub decreases-found_in : goal.decreases-found_in
decreases-found_in l = length l.rows.now
