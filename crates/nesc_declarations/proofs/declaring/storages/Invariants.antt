-- The words that are passed over, and the turns that are left.
use Rattle.std.proofs.Common.{ℕ, List, length}
use Rattle.nm_base.specs.declared.token.Token.{Token}
use Rattle.nesc_tree.specs.declared.sorts.Sort.TheVariants as s
use Rattle.nesc_grammar.specs.Grammar as grammar
use Rattle.nesc_grammar.specs.Declarations as spec
use Rattle.nesc_parse_types.specs.Gives.{form_in}
use Rattle.nesc_parse_types.proofs.Many.{IsAt}
use Rattle.nesc_declarations.proofs.declaring.storages.Given as goal

abbrev pub invariant-loop-rest : goal.invariant-loop-rest
invariant-loop-rest l = (spare : ℕ) → (found : List Token) × IsAt spare l.names (λ _ x. spec.is_storage x) (λ x. grammar.when (spec.is_storage x) (grammar.map spec.added (grammar.one x))) (form_in spare spec.storages l.names l.fn.ts) found l.rest

abbrev pub decreases-loop-rest : goal.decreases-loop-rest
decreases-loop-rest l = length l.rest
