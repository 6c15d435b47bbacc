-- What is read so far, and the turns that are left.
use Rattle.std.proofs.Common.{ℕ, length}
use Rattle.nesc_grammar.specs.Grammar as grammar
use Rattle.nesc_grammar.specs.Declarations as spec
use Rattle.nesc_parse_types.specs.Gives.{form_in}
use Rattle.nesc_parse_types.proofs.Many.{IsAt}
use Rattle.nesc_heads.specs.Parts as parts
use Rattle.nesc_heads.specs.Words.{words_of}
use Rattle.nesc_heads.proofs.words.modifiers.Given as goal

abbrev pub invariant-loop-rest : goal.invariant-loop-rest
invariant-loop-rest l = (spare : ℕ) → IsAt spare l.names (λ _ x. spec.is_modifier x) (λ x. grammar.when (spec.is_modifier x) (parts.another_modifier x)) (form_in spare spec.modifiers l.names l.fn.ts) (words_of l.words) l.rest

abbrev pub decreases-loop-rest : goal.decreases-loop-rest
decreases-loop-rest l = length l.rest
