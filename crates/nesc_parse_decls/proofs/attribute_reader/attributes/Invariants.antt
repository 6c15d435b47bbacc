-- What is read so far, and the turns that are left.
use Rattle.std.proofs.Common.{length}
use Rattle.nesc_grammar.specs.Grammar as grammar
use Rattle.nesc_grammar.specs.Declarations as spec
use Rattle.nesc_parse_types.specs.Gives.{form_in}
use Rattle.nesc_parse_types.proofs.Many.{IsAt}
use Rattle.nesc_parse_decls.specs.Parts as parts
use Rattle.nesc_parse_decls.proofs.attribute_reader.attributes.Given as goal

abbrev pub invariant-loop-alloc : goal.invariant-loop-alloc
invariant-loop-alloc l = IsAt l.spare l.names (λ _ x. spec.is_at x) (λ x. grammar.when (spec.is_at x) parts.another_attribute) (form_in l.spare spec.attributes l.names l.fn.ts) l.list l.rest

abbrev pub decreases-loop-alloc : goal.decreases-loop-alloc
decreases-loop-alloc l = length l.rest
