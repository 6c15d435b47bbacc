-- What is read so far, and the turns that are left; the changes give back the names.
use Rattle.std.proofs.Common.{◌≡◌, length}
use Rattle.nesc_tree.specs.Changes.{all_taken_back}
use Rattle.nesc_tree.specs.Phrase.{begins_decl}
use Rattle.nesc_grammar.specs.Grammar as grammar
use Rattle.nesc_grammar.specs.Declarations as spec
use Rattle.nesc_parse_types.specs.Gives.{form_in, place}
use Rattle.nesc_declarators.proofs.Turns.{IsFrom}
use Rattle.nesc_declarations.specs.Forms as forms
use Rattle.nesc_declarations.proofs.decl_reader.decls.Given as goal

abbrev pub invariant-loop-alloc : goal.invariant-loop-alloc
invariant-loop-alloc l =
    IsFrom l.spare (λ _ x. begins_decl l.site x) (λ x. grammar.when (begins_decl l.site x) (forms.another_decl l.site)) (form_in l.spare (spec.decls_before l.site) l.fn.names l.fn.ts) l.list (place l.names l.rest)
    × (all_taken_back l.changes.items l.names ≡ all_taken_back l.fn.changes.items l.fn.names)

abbrev pub decreases-loop-alloc : goal.decreases-loop-alloc
decreases-loop-alloc l = length l.rest
