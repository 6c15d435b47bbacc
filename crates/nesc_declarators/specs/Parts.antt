-- Parts of forms of the grammar, each read by a function of its own.
use Rattle.std.specs.Prelude.{ℕ, Bool, true, false, List, [], Option}
use Rattle.nm_base.specs.declared.pos.Pos.{Pos}
use Rattle.nesc_tree.specs.declared.sorts.Sort.{Sort}
use Rattle.nesc_tree.specs.declared.sorts.Sort.TheVariants as s
use Rattle.nesc_tree.specs.declared.declarations.Attr.{Attr}
use Rattle.nesc_tree.specs.declared.declarations.Decl.{Decl}
use Rattle.nesc_tree.specs.declared.declarations.Init.{Init}
use Rattle.nesc_tree.specs.declared.declarations.Stmt.{Stmt}
use Rattle.nesc_tree.specs.declared.declarations.Stmt.TheVariants as st
use Rattle.nesc_tree.specs.declared.declarations.Variable.{Variable}
use Rattle.nesc_tree.specs.declared.operand.Operand.{Operand}
use Rattle.nesc_tree.specs.Level as level
use Rattle.nesc_tree.specs.Sorts as names
use Rattle.nesc_tree.specs.Form.{Form}
use Rattle.nesc_grammar.specs.Grammar as grammar
use Rattle.nesc_grammar.specs.Declarations as spec

-- ---- dimensions

-- the size of one, in its brackets
abbrev pub dim_size : Form Operand
dim_size = grammar.behind (grammar.one s.LBracket) (grammar.before (grammar.expr level.conditional) (grammar.one s.RBracket))

-- ---- variables

-- a declarator, from behind which its name is in force
abbrev pub hiding_variable : Form Variable
hiding_variable = Form.declare (λ v. spec.hidden v.declarator.name) spec.plain_variable

-- what is behind it
abbrev pub variable_end : Form (Option Init)
variable_end = grammar.behind spec.attributes spec.some_init

abbrev pub joined_variable : Form Variable
joined_variable = Form.seq spec.with_init hiding_variable variable_end

abbrev pub next_variable : Form Variable
next_variable = grammar.behind (grammar.one s.Comma) spec.variable

abbrev pub another_variable : Form (List Variable → List Variable)
another_variable = grammar.map spec.added next_variable

abbrev pub maybe_variables : Form (List Variable)
maybe_variables = Form.maybe spec.variables []

abbrev pub closed_variables : Form (List Variable)
closed_variables = grammar.before spec.variables (grammar.one s.Semi)

abbrev pub local_end : Form (List Variable)
local_end = grammar.before maybe_variables (grammar.one s.Semi)

-- whether a declarator begins with a token of this sort
abbrev pub begins_variable : Sort → Bool
begins_variable s.Star = true
begins_variable s.Word = true
begins_variable s.TypeName = true
begins_variable _ = false

-- ---- type names

abbrev pub naming_variable : Form Variable
naming_variable = Form.declare (λ v. names.declared v.declarator.name true) spec.plain_variable

abbrev pub type_name_end : Form (List Attr)
type_name_end = grammar.before spec.attributes (grammar.one s.Semi)

-- behind `typedef`
abbrev pub named_type : Form Decl
named_type = grammar.with grammar.type_form spec.type_name_of

-- ---- declarations in blocks

abbrev pub local_at : Decl → Pos → Stmt
local_at d from = st.Local d from
