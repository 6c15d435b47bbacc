-- The levels that are left fall.
use Rattle.nesc_declarators.proofs.declarators.+stars.Given as goal

abbrev pub decreases-stars : goal.decreases-stars
decreases-stars l = l.spare
