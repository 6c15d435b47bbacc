-- Parts of forms of the grammar, each read by a function of its own.
use Rattle.std.specs.Prelude.{Bool}
use Rattle.nm_base.specs.declared.token.Token.{Token}
use Rattle.nesc_tree.specs.declared.operand.Operand.{Operand}
use Rattle.nesc_tree.specs.declared.operand.Arguments.{Arguments}
use Rattle.nesc_tree.specs.declared.sorts.Sort.TheVariants as s
use Rattle.nesc_tree.specs.Level as level
use Rattle.nesc_tree.specs.Form.{Form}
use Rattle.nesc_grammar.specs.Grammar as grammar

abbrev pub next_argument : Form Operand
next_argument = grammar.behind (grammar.one s.Comma) (grammar.expr level.assignment)

abbrev pub another_argument : Form (Arguments → Arguments)
another_argument = grammar.map grammar.pushed (grammar.behind (grammar.one s.Comma) (grammar.expr level.assignment))

abbrev pub closed_arguments : Form Arguments
closed_arguments = grammar.arguments_of s.RParen

abbrev pub open_arguments : Form Arguments
open_arguments = grammar.before grammar.some_arguments (grammar.one s.RParen)

abbrev pub primary : Bool → Form Operand
primary may_cast = Form.by (grammar.primary may_cast)

-- what is behind the name of an item, for this call
abbrev pub item_behind : Token → Token → Token → Form Operand
item_behind item element word = grammar.applied word (grammar.applied element (grammar.applied item grammar.call_arguments))

-- what `sizeof` measures, by this word
abbrev pub size_type : Token → Token → Form Operand
size_type word opening = grammar.applied word (grammar.applied opening grammar.size_type)

abbrev pub size_opened : Token → Token → Form Operand
size_opened word opening = grammar.applied word (grammar.applied opening grammar.size_opened)

abbrev pub size_unary : Token → Form Operand
size_unary word = grammar.applied word (grammar.map grammar.size_of_expr (grammar.expr level.unary))

abbrev pub size_bracketed : Token → Form Operand
size_bracketed word = grammar.applied word (grammar.sized s.LParen)

-- the two operands of `port_write`, each with the sign behind it
abbrev pub port : Form Operand
port = grammar.behind (grammar.one s.LParen) (grammar.before (grammar.expr level.conditional) (grammar.one s.Comma))

abbrev pub port_value : Form Operand
port_value = grammar.before (grammar.expr level.assignment) (grammar.one s.RParen)

-- the operand of a cast, behind its type
abbrev pub cast_inner : Form Operand
cast_inner = grammar.behind (grammar.one s.RParen) (grammar.expr level.cast)
