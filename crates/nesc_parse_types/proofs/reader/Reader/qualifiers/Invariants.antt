-- What is read so far, and the turns that are left.
use Rattle.std.proofs.Common.{ℕ, true, length}
use Rattle.nesc_tree.specs.Form.{goes}
use Rattle.nesc_tree.specs.Phrase.{begins_type}
use Rattle.nesc_grammar.specs.Grammar as grammar
use Rattle.nesc_parse_types.specs.Gives.{form_in}
use Rattle.nesc_parse_types.proofs.Many.{IsAt}
use Rattle.nesc_parse_types.proofs.reader.Reader.qualifiers.Given as goal

abbrev pub invariant-loop-rest : goal.invariant-loop-rest
invariant-loop-rest g l = IsAt l.self.spare l.self.names.now (λ _ x. grammar.is_qualifier x) (λ _. grammar.another_qualifier) (form_in l.self.spare grammar.qualifiers l.self.names.now l.fn.ts) l.found l.rest

abbrev pub decreases-loop-rest : goal.decreases-loop-rest
decreases-loop-rest g l = length l.rest
