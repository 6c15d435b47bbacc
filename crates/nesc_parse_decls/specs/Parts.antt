-- Parts of forms of the grammar, each read by a function of its own.
use Rattle.std.specs.Prelude.{Bool, true, List, []}
use Rattle.nm_base.specs.declared.token.Token.{Token}
use Rattle.nesc_tree.specs.declared.sorts.Sort.{Sort}
use Rattle.nesc_tree.specs.declared.sorts.Sort.TheVariants as s
use Rattle.nesc_tree.specs.declared.declarations.Attr.{Attr}
use Rattle.nesc_tree.specs.declared.declarations.AttrArg.{AttrArg}
use Rattle.nesc_tree.specs.declared.declarations.AttrArg.TheVariants as arg
use Rattle.nesc_tree.specs.Level as level
use Rattle.nesc_tree.specs.Phrase.{begins_expr}
use Rattle.nesc_tree.specs.Form.{Form}
use Rattle.nesc_grammar.specs.Grammar as grammar
use Rattle.nesc_grammar.specs.Declarations as spec

abbrev pub attribute_of : Token → List AttrArg → Attr
attribute_of t l = record { name = t.text; args = l }

abbrev pub text_argument : Form AttrArg
text_argument = grammar.map (λ t. arg.Text t.text) (grammar.one s.Text)

abbrev pub value_argument : Form AttrArg
value_argument = grammar.map (λ a. arg.Value a.expr) (grammar.expr level.conditional)

abbrev pub argument : Form AttrArg
argument = Form.by spec.attribute_argument_of

abbrev pub another_argument : Form (List AttrArg → List AttrArg)
another_argument = grammar.map spec.added (grammar.behind (grammar.one s.Comma) argument)

abbrev pub some_arguments : Form (List AttrArg)
some_arguments = spec.listed argument

abbrev pub maybe_arguments : Form (List AttrArg)
maybe_arguments = Form.maybe some_arguments []

abbrev pub another_attribute : Form (List Attr → List Attr)
another_attribute = grammar.map spec.added spec.attribute

-- whether an argument of an attribute begins with a token of this sort
abbrev pub begins_argument : Sort → Bool
begins_argument s.Text = true
begins_argument x = begins_expr x
