-- The levels that are left fall.
use Rattle.core_text.proofs.statements.+statements.Given as goal

abbrev pub decreases-block : goal.decreases-block
decreases-block l = l.levels

abbrev pub decreases-branch : goal.decreases-branch
decreases-branch l = l.levels

abbrev pub decreases-looped : goal.decreases-looped
decreases-looped l = l.levels

abbrev pub decreases-switch : goal.decreases-switch
decreases-switch l = l.levels

abbrev pub decreases-inlined : goal.decreases-inlined
decreases-inlined l = l.levels

abbrev pub decreases-stmt_text : goal.decreases-stmt_text
decreases-stmt_text l = l.levels
