-- The levels that are left fall, and at one level the order of the calls.
use Rattle.std.proofs.Common.{◌+◌, ◌*◌}
use Rattle.body_rows.proofs.texts.+texts.Given as goal

abbrev pub decreases-list_text : goal.decreases-list_text
decreases-list_text l = 3 * l.levels + 1

abbrev pub decreases-around : goal.decreases-around
decreases-around l = 3 * l.levels + 1

abbrev pub decreases-choice_text : goal.decreases-choice_text
decreases-choice_text l = 3 * l.levels + 2

abbrev pub decreases-stmt_text : goal.decreases-stmt_text
decreases-stmt_text l = 3 * l.levels
