-- Climbing from an operand over the operators that go on it, one at a time.
use Rattle.std.specs.Prelude.{ℕ, List, if◌then◌else◌, nat_le, Err}
use Rattle.nm_base.specs.declared.token.Token.{Token}
use Rattle.nesc_tree.specs.declared.operand.Operand.{Operand}
use Rattle.nesc_tree.specs.Sorts.{Names, ahead}
use Rattle.nesc_tree.specs.Phrase.{Phrase}
use Rattle.nesc_tree.specs.Form.{Form}
use Rattle.nesc_tree.specs.Reading.{Deep, Answer}
use Rattle.nesc_grammar.specs.Grammar.{Growth, applied, map, grown, operation}
use Rattle.nesc_grammar.specs.Production.{production}
use Rattle.nesc_parse_exprs.specs.Turns.{turn_in}

-- the operand, grown by what the form reads
abbrev pub grown_by : Operand → Form Growth → Form Operand
grown_by left g = applied left (map grown g)

-- one turn, by the operator that is ahead; an operand that is too high is not gone on with
abbrev pub step_in : ℕ → Operand → Names → List Token → Answer Operand
step_in spare left names ts = if nat_le left.height spare then turn_in spare (map grown (operation (ahead names ts))) left names ts else Err (Deep ts)

-- a postfix expression that begins with this `(`
abbrev pub opened_form : Token → Form Operand
opened_form opening = applied opening (production Phrase.opened)
