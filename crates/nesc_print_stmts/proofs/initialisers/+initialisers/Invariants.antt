-- The levels that are left fall, and at one level the order of the calls; what is there, with the words of what is left, is all.
use Rattle.std.proofs.Common.{◌≡◌, ◌+◌, ◌*◌, ◌++◌, drop, map}
use Rattle.nesc_print_words.specs.Lexemes.{behind_commas}
use Rattle.nesc_print_words.specs.Declarations.{init_words}
use Rattle.nesc_print_stmts.proofs.initialisers.+initialisers.Given as goal

abbrev pub decreases-put_braced : goal.decreases-put_braced
decreases-put_braced l = 4 * l.levels + 0

abbrev pub decreases-put_init : goal.decreases-put_init
decreases-put_init l = 4 * l.levels + 1

abbrev pub decreases-put_more_inits : goal.decreases-put_more_inits
decreases-put_more_inits l = 4 * l.levels + 2

abbrev pub decreases-put_inits : goal.decreases-put_inits
decreases-put_inits l = 4 * l.levels + 3

abbrev pub invariant-put_more_inits-loop-init : goal.invariant-put_more_inits-loop-init
invariant-put_more_inits-loop-init l = l.words ++ behind_commas (map init_words (drop l.init-index l.inits)) ≡ l.fn.words ++ behind_commas (map init_words l.inits)
