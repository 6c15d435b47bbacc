-- What is read so far, and the turns that are left.
use Rattle.std.proofs.Common.{true, length}
use Rattle.nesc_tree.specs.Form.{goes}
use Rattle.nesc_grammar.specs.Grammar as grammar
use Rattle.nesc_parse_types.specs.Gives.{form_in}
use Rattle.nesc_parse_types.proofs.Many.{IsAt}
use Rattle.nesc_parse_decls.specs.Parts as parts
use Rattle.nesc_parse_decls.proofs.attribute_reader.some_arguments.Given as goal

abbrev pub invariant-loop-alloc : goal.invariant-loop-alloc
invariant-loop-alloc l = IsAt l.spare l.names (goes grammar.is_comma (λ _ _. true)) (λ x. grammar.when (grammar.is_comma x) parts.another_argument) (form_in l.spare parts.some_arguments l.names l.fn.ts) l.list l.rest

abbrev pub decreases-loop-alloc : goal.decreases-loop-alloc
decreases-loop-alloc l = length l.rest
