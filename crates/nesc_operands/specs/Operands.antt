-- Operands as the grammar makes them.
use Rattle.std.specs.Prelude.{ℕ, suc, max}
use Rattle.nm_base.specs.declared.token.Token.{Token}
use Rattle.nesc_tree.specs.declared.tree.Expr.TheVariants as e
use Rattle.nesc_tree.specs.declared.operand.Operand.{Operand}
use Rattle.nesc_tree.specs.Level as level
use Rattle.nesc_tree.specs.declared.sorts.Sort.TheVariants as s
use Rattle.nesc_tree.specs.Form.{Form}
use Rattle.nesc_grammar.specs.Grammar.{operand, map, behind, one, expr, growth, grown}

abbrev pub port_read : Token → Operand → Operand
port_read o a = operand (e.PortRead a.expr o.pos) o.pos level.postfix (suc a.height)

abbrev pub port_write : Token → Operand → Operand → Operand
port_write o a v = operand (e.PortWrite a.expr v.expr o.pos) o.pos level.postfix (suc (max a.height v.height))

-- the choice between two values
abbrev pub choice : Operand → Operand → Operand → Operand
choice test a b = grown (growth level.conditional (max a.height b.height) (λ x from. e.Cond x a.expr b.expr from)) test

-- what is behind the first value of a choice
abbrev pub otherwise : Operand → Operand → Form Operand
otherwise test a = map (choice test a) (behind (one s.Colon) (expr level.conditional))
