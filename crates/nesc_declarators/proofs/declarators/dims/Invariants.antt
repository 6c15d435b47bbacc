-- What is read so far, and the turns that are left.
use Rattle.std.proofs.Common.{length}
use Rattle.nesc_grammar.specs.Grammar as grammar
use Rattle.nesc_parse_types.specs.Gives.{form_in}
use Rattle.nesc_parse_types.proofs.Many.{IsAt}
use Rattle.nesc_declarators.proofs.declarators.dims.Given as goal

abbrev pub invariant-loop-alloc : goal.invariant-loop-alloc
invariant-loop-alloc l = IsAt l.spare l.names (λ _ x. grammar.is_bracket x) (λ _. grammar.another_dim) (form_in l.spare grammar.dims l.names l.fn.ts) l.dims l.rest

abbrev pub decreases-loop-alloc : goal.decreases-loop-alloc
decreases-loop-alloc l = length l.rest
