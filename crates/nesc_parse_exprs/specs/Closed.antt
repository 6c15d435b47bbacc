-- An expression with the token behind it that closes it.
use Rattle.std.specs.Prelude.{ℕ}
use Rattle.nesc_tree.specs.declared.operand.Operand.{Operand}
use Rattle.nesc_tree.specs.declared.sorts.Sort.{Sort}
use Rattle.nesc_tree.specs.Form.{Form}
use Rattle.nesc_grammar.specs.Grammar.{before, expr, one}

abbrev pub closed_form : ℕ → Sort → Form Operand
closed_form least closing = before (expr least) (one closing)
