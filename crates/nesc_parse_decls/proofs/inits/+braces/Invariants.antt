-- The levels that are left fall, and at one level the order of the calls; what is read so far is what the turns that are left go on.
use Rattle.std.proofs.Common.{◌+◌, ◌*◌, length}
use Rattle.nesc_tree.specs.Form.{goes}
use Rattle.nesc_grammar.specs.Grammar as grammar
use Rattle.nesc_grammar.specs.Declarations as spec
use Rattle.nesc_parse_types.specs.Gives.{form_in}
use Rattle.nesc_parse_types.proofs.Many.{IsAt}
use Rattle.nesc_parse_decls.proofs.inits.+braces.Given as goal

abbrev pub decreases-init : goal.decreases-init
decreases-init l = 8 * l.spare + 1

abbrev pub decreases-next_init : goal.decreases-next_init
decreases-next_init l = 8 * l.spare + 2

abbrev pub decreases-another_init : goal.decreases-another_init
decreases-another_init l = 8 * l.spare + 3

abbrev pub decreases-inits : goal.decreases-inits
decreases-inits l = 8 * l.spare + 4

abbrev pub decreases-braced_inits : goal.decreases-braced_inits
decreases-braced_inits l = 8 * l.spare + 5

abbrev pub decreases-braces : goal.decreases-braces
decreases-braces l = 8 * l.levels

abbrev pub invariant-inits-loop-alloc : goal.invariant-inits-loop-alloc
invariant-inits-loop-alloc l = IsAt l.spare l.names (goes grammar.is_comma spec.is_open) (λ x. grammar.when (grammar.is_comma x) spec.another_init) (form_in l.spare spec.inits l.names l.fn.ts) l.list l.rest

abbrev pub decreases-inits-loop-alloc : goal.decreases-inits-loop-alloc
decreases-inits-loop-alloc l = length l.rest
