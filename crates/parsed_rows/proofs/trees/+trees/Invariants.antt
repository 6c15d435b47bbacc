-- The levels that are left fall.
use Rattle.parsed_rows.proofs.trees.+trees.Given as goal

abbrev pub decreases-one : goal.decreases-one
decreases-one l = l.levels

abbrev pub decreases-two : goal.decreases-two
decreases-two l = l.levels

abbrev pub decreases-assignment : goal.decreases-assignment
decreases-assignment l = l.levels

abbrev pub decreases-list : goal.decreases-list
decreases-list l = l.levels

abbrev pub decreases-call : goal.decreases-call
decreases-call l = l.levels

abbrev pub decreases-of_type : goal.decreases-of_type
decreases-of_type l = l.levels

abbrev pub decreases-other : goal.decreases-other
decreases-other l = l.levels

abbrev pub decreases-expr_text : goal.decreases-expr_text
decreases-expr_text l = l.levels

abbrev pub decreases-declarator : goal.decreases-declarator
decreases-declarator l = l.levels

abbrev pub decreases-group : goal.decreases-group
decreases-group l = l.levels

abbrev pub decreases-item : goal.decreases-item
decreases-item l = l.levels

abbrev pub decreases-base_text : goal.decreases-base_text
decreases-base_text l = l.levels

abbrev pub decreases-type_text : goal.decreases-type_text
decreases-type_text l = l.levels
