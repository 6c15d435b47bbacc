-- The levels that are left fall.
use Rattle.core_text.proofs.expressions.+trees.Given as goal

abbrev pub decreases-part : goal.decreases-part
decreases-part l = l.levels

abbrev pub decreases-two : goal.decreases-two
decreases-two l = l.levels

abbrev pub decreases-one : goal.decreases-one
decreases-one l = l.levels

abbrev pub decreases-moved : goal.decreases-moved
decreases-moved l = l.levels

abbrev pub decreases-changed : goal.decreases-changed
decreases-changed l = l.levels

abbrev pub decreases-all_texts : goal.decreases-all_texts
decreases-all_texts l = l.levels

abbrev pub decreases-call : goal.decreases-call
decreases-call l = l.levels

abbrev pub decreases-operator : goal.decreases-operator
decreases-operator l = l.levels

abbrev pub decreases-expr_text : goal.decreases-expr_text
decreases-expr_text l = l.levels

abbrev pub decreases-place_text : goal.decreases-place_text
decreases-place_text l = l.levels
