-- The levels that are left fall.
use Rattle.nesc_parse_types.proofs.types.+stars.Given as goal

abbrev pub decreases-stars : goal.decreases-stars
decreases-stars l = l.spare
