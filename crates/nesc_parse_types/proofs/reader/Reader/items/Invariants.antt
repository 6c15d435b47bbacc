-- What is read so far, and the turns that are left.
use Rattle.std.proofs.Common.{ℕ, true, length}
use Rattle.nesc_tree.specs.Form.{goes}
use Rattle.nesc_tree.specs.Phrase.{begins_type}
use Rattle.nesc_grammar.specs.Grammar as grammar
use Rattle.nesc_parse_types.specs.Gives.{form_in}
use Rattle.nesc_parse_types.proofs.Many.{IsAt}
use Rattle.nesc_parse_types.proofs.reader.Reader.items.Given as goal

abbrev pub invariant-loop-items : goal.invariant-loop-items
invariant-loop-items g l = IsAt l.self.spare l.self.names.now (goes grammar.is_comma grammar.not_ended) (λ x. grammar.when (grammar.is_comma x) grammar.another_item) (form_in l.self.spare grammar.items l.self.names.now l.fn.ts) l.items l.rest

abbrev pub decreases-loop-items : goal.decreases-loop-items
decreases-loop-items g l = length l.rest
