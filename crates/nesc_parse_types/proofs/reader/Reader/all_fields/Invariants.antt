-- What is read so far, and the turns that are left.
use Rattle.std.proofs.Common.{ℕ, true, length}
use Rattle.nesc_tree.specs.Form.{goes}
use Rattle.nesc_tree.specs.Phrase.{begins_type}
use Rattle.nesc_grammar.specs.Grammar as grammar
use Rattle.nesc_parse_types.specs.Gives.{form_in}
use Rattle.nesc_parse_types.proofs.Many.{IsAt}
use Rattle.nesc_parse_types.proofs.reader.Reader.all_fields.Given as goal

abbrev pub invariant-loop-fields : goal.invariant-loop-fields
invariant-loop-fields g l = IsAt l.self.spare l.self.names.now (λ _ x. begins_type x) (λ _. grammar.another_field) (form_in l.self.spare grammar.all_fields l.self.names.now l.fn.ts) l.fields l.rest

abbrev pub decreases-loop-fields : goal.decreases-loop-fields
decreases-loop-fields g l = length l.rest
