-- The levels that are left fall, and at one level the order of the calls; what is there, with the words of what is left, is all.
use Rattle.std.proofs.Common.{◌≡◌, ◌+◌, ◌*◌, ◌++◌, drop}
use Rattle.nesc_print_words.specs.Statements.{stmts_words}
use Rattle.nesc_print_stmts.proofs.statements.+statements.Given as goal

abbrev pub decreases-put_stmt : goal.decreases-put_stmt
decreases-put_stmt l = 8 * l.levels + 0

abbrev pub decreases-put_stmts : goal.decreases-put_stmts
decreases-put_stmts l = 8 * l.levels + 1

abbrev pub decreases-put_body : goal.decreases-put_body
decreases-put_body l = 8 * l.levels + 1

abbrev pub decreases-put_else : goal.decreases-put_else
decreases-put_else l = 8 * l.levels + 1

abbrev pub decreases-put_block : goal.decreases-put_block
decreases-put_block l = 8 * l.levels + 2

abbrev pub decreases-put_atomic : goal.decreases-put_atomic
decreases-put_atomic l = 8 * l.levels + 2

abbrev pub decreases-put_if : goal.decreases-put_if
decreases-put_if l = 8 * l.levels + 2

abbrev pub decreases-put_tested : goal.decreases-put_tested
decreases-put_tested l = 8 * l.levels + 2

abbrev pub decreases-put_do : goal.decreases-put_do
decreases-put_do l = 8 * l.levels + 2

abbrev pub decreases-put_case : goal.decreases-put_case
decreases-put_case l = 8 * l.levels + 2

abbrev pub decreases-put_default : goal.decreases-put_default
decreases-put_default l = 8 * l.levels + 2

abbrev pub decreases-put_decl : goal.decreases-put_decl
decreases-put_decl l = 8 * l.levels + 2

abbrev pub decreases-put_form : goal.decreases-put_form
decreases-put_form l = 8 * l.levels + 3

abbrev pub invariant-put_stmts-loop-s : goal.invariant-put_stmts-loop-s
invariant-put_stmts-loop-s l = l.words ++ stmts_words (drop l.s-index l.stmts) ≡ l.fn.words ++ stmts_words l.stmts
