-- Parts of the forms of a configuration's lines, each read by a function of its own.
use Rattle.std.specs.Prelude.{Bool, true, false, ◌||◌, List, [], ◌∷◌, ◌++◌, Option, Some, None}
use Rattle.nm_base.specs.declared.token.Token.{Token}
use Rattle.nesc_tree.specs.declared.sorts.Sort.{Sort}
use Rattle.nesc_tree.specs.declared.sorts.Sort.TheVariants as s
use Rattle.nesc_tree.specs.declared.operand.CastType.{CastType}
use Rattle.nesc_tree.specs.declared.operand.Operand.{Operand}
use Rattle.nesc_tree.specs.declared.declarations.Decl.TheVariants as d
use Rattle.nesc_tree.specs.declared.components.ConfLine.{ConfLine}
use Rattle.nesc_tree.specs.declared.components.ConfLine.TheVariants as line
use Rattle.nesc_tree.specs.declared.components.GenericArg.{GenericArg}
use Rattle.nesc_tree.specs.declared.components.GenericArg.TheVariants as argument
use Rattle.nesc_tree.specs.declared.components.WireEnd.{WireEnd}
use Rattle.nesc_tree.specs.Level as level
use Rattle.nesc_tree.specs.Phrase.{Phrase, begins_expr, begins_line, begins_type}
use Rattle.nesc_tree.specs.Form.{Form}
use Rattle.nesc_grammar.specs.Grammar as grammar
use Rattle.nesc_grammar.specs.Declarations as inner
use Rattle.nesc_grammar.specs.Components as spec

-- ---- arguments of generic components

abbrev pub type_argument : Form GenericArg
type_argument = grammar.map (λ t. argument.Ty t.ty) grammar.type_form

abbrev pub value_argument : Form GenericArg
value_argument = grammar.map (λ a. argument.Value a.expr) (grammar.expr level.conditional)

abbrev pub begins_argument : Sort → Bool
begins_argument x = begins_type x || begins_expr x

abbrev pub one_argument : Form GenericArg
one_argument = Form.by spec.generic_argument_of

abbrev pub another_argument : Form (List GenericArg → List GenericArg)
another_argument = grammar.map inner.added (grammar.behind (grammar.one s.Comma) one_argument)

abbrev pub some_arguments : Form (List GenericArg)
some_arguments = inner.listed one_argument

abbrev pub maybe_arguments : Form (List GenericArg)
maybe_arguments = Form.maybe some_arguments []

-- ---- components

abbrev pub component_of : Token → Option (List GenericArg) → Token → ConfLine
component_of t l u = line.Component t.text l u.text t.pos

abbrev pub new_name : Form Token
new_name = grammar.behind (grammar.one s.New) grammar.name

-- behind the arguments, where they are there
abbrev pub component_end : Option (List GenericArg) → Form (Token → ConfLine)
component_end l = grammar.map (spec.component_line l) spec.alias

abbrev pub component : Form ConfLine
component = Form.by spec.component_of

abbrev pub another_component : Form (List ConfLine → List ConfLine)
another_component = grammar.map inner.added (grammar.behind (grammar.one s.Comma) component)

abbrev pub some_components : Form (List ConfLine)
some_components = inner.listed component

-- ---- wires

abbrev pub second_name : Form (Option Token)
second_name = inner.some inner.item_name

abbrev pub found_bracket : Form (Option Operand)
found_bracket = grammar.map Some (inner.between s.LBracket s.RBracket (grammar.expr level.conditional))

abbrev pub end_bracket : Form (Option Operand)
end_bracket = Form.maybe found_bracket None

abbrev pub last_end : Form WireEnd
last_end = grammar.before spec.end (grammar.one s.Semi)

-- behind the first end, by the token of the joint
abbrev pub behind_joint : Sort → Form WireEnd
behind_joint z = grammar.when (spec.is_joint z) (grammar.behind (grammar.one z) last_end)

abbrev pub word_line : Form (List ConfLine)
word_line = grammar.with (grammar.one s.Word) spec.wire_rest

-- ---- types

abbrev pub type_alone : Form (List ConfLine)
type_alone = Form.seq (λ t _. spec.type_line t) grammar.type_form (grammar.one s.Semi)

abbrev pub type_name_line : Form (List ConfLine)
type_name_line = grammar.with (grammar.one s.TypeName) (Form.by spec.behind_type_name)

-- whether the type name before the token is a type
abbrev pub ends_type : Sort → Bool
ends_type s.Semi = true
ends_type s.Qualifier = true
ends_type _ = false

-- whether the name before the token begins a wire
abbrev pub goes_on_wire : Sort → Bool
goes_on_wire s.Dot = true
goes_on_wire s.LBracket = true
goes_on_wire s.Arrow = true
goes_on_wire s.BackArrow = true
goes_on_wire s.Assign = true
goes_on_wire _ = false

abbrev pub typedef_line : Form (List ConfLine)
typedef_line = grammar.map (λ x. line.Decl x ∷ []) inner.typedef_decl

-- ---- lines

abbrev pub another_line : Form (List ConfLine → List ConfLine)
another_line = grammar.map (λ ls l. l ++ ls) (Form.sub Phrase.line (λ x. x))

abbrev pub some_lines : Form (List ConfLine)
some_lines = Form.many begins_line [] (λ x. grammar.when (begins_line x) another_line)
