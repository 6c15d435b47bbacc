-- What is read so far, and the turns that are left; the changes give back the names.
use Rattle.std.proofs.Common.{◌≡◌, true, length}
use Rattle.nesc_tree.specs.Changes.{all_taken_back}
use Rattle.nesc_tree.specs.Form.{goes}
use Rattle.nesc_grammar.specs.Grammar as grammar
use Rattle.nesc_grammar.specs.Declarations as spec
use Rattle.nesc_parse_types.specs.Gives.{form_in, place}
use Rattle.nesc_declarators.proofs.Turns.{IsFrom}
use Rattle.nesc_heads.specs.Parts as parts
use Rattle.nesc_heads.proofs.parameter_reader.some_params.Given as goal

abbrev pub invariant-loop-alloc : goal.invariant-loop-alloc
invariant-loop-alloc l =
    IsFrom l.spare (goes grammar.is_comma (λ _ _. true)) (λ x. grammar.when (grammar.is_comma x) parts.another_param) (form_in l.spare parts.some_params l.fn.names l.fn.ts) l.list (place l.names l.rest)
    × (all_taken_back l.changes.items l.names ≡ all_taken_back l.fn.changes.items l.fn.names)

abbrev pub decreases-loop-alloc : goal.decreases-loop-alloc
decreases-loop-alloc l = length l.rest
