-- The levels that are left fall.
use Rattle.nesc_parse_exprs.proofs.phrases.+phrases.Given as goal

abbrev pub decreases-expr : goal.decreases-expr
decreases-expr l = l.levels

abbrev pub decreases-opened : goal.decreases-opened
decreases-opened l = l.levels

abbrev pub decreases-fields : goal.decreases-fields
decreases-fields l = l.levels
