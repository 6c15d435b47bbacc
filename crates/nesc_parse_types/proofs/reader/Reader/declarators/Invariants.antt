-- What is read so far, and the turns that are left.
use Rattle.std.proofs.Common.{ℕ, true, length}
use Rattle.nesc_tree.specs.Form.{goes}
use Rattle.nesc_tree.specs.Phrase.{begins_type}
use Rattle.nesc_grammar.specs.Grammar as grammar
use Rattle.nesc_parse_types.specs.Gives.{form_in}
use Rattle.nesc_parse_types.proofs.Many.{IsAt}
use Rattle.nesc_parse_types.proofs.reader.Reader.declarators.Given as goal

abbrev pub invariant-loop-list : goal.invariant-loop-list
invariant-loop-list g l = IsAt l.self.spare l.self.names.now (goes grammar.is_comma (λ _ _. true)) (λ _. grammar.another_declarator) (form_in l.self.spare grammar.declarators l.self.names.now l.fn.ts) l.list l.rest

abbrev pub decreases-loop-list : goal.decreases-loop-list
decreases-loop-list g l = length l.rest
