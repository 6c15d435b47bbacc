-- Parts of forms of the grammar, each read by a function of its own.
use Rattle.std.specs.Prelude.{Bool, true, List, [], ◌∷◌, ◌++◌, Option, Some, None}
use Rattle.nm_base.specs.declared.token.Token.{Token}
use Rattle.nesc_tree.specs.declared.sorts.Sort.{Sort}
use Rattle.nesc_tree.specs.declared.sorts.Sort.TheVariants as s
use Rattle.nesc_tree.specs.declared.operand.CastType.{CastType}
use Rattle.nesc_tree.specs.declared.tree.TypeSpec.{TypeSpec}
use Rattle.nesc_tree.specs.declared.declarations.Attr.{Attr}
use Rattle.nesc_tree.specs.declared.components.Elem.{Elem}
use Rattle.nesc_tree.specs.declared.components.GenericParam.{GenericParam}
use Rattle.nesc_tree.specs.declared.components.Head.{Head}
use Rattle.nesc_tree.specs.Phrase.{Phrase, begins_type}
use Rattle.nesc_tree.specs.Form.{Form}
use Rattle.nesc_grammar.specs.Grammar as grammar
use Rattle.nesc_grammar.specs.Declarations as inner
use Rattle.nesc_grammar.specs.Components as spec

-- ---- elements

abbrev pub interface_name : Form Token
interface_name = grammar.behind (grammar.one s.Interface) grammar.name

abbrev pub argument : Form TypeSpec
argument = grammar.map (λ t. t.ty) grammar.type_form

abbrev pub another_argument : Form (List TypeSpec → List TypeSpec)
another_argument = grammar.map inner.added (grammar.behind (grammar.one s.Comma) argument)

abbrev pub some_arguments : Form (List TypeSpec)
some_arguments = inner.listed argument

abbrev pub type_arguments : Form (List TypeSpec)
type_arguments = Form.maybe (inner.between s.Less s.Greater some_arguments) []

-- the name behind `as`, or else this one
abbrev pub named_as : Form (Token → Token)
named_as = grammar.map (λ u t. spec.either_name t u) spec.alias

abbrev pub element_end : Form (Option TypeSpec)
element_end = grammar.map spec.type_in (grammar.before (grammar.before spec.element_bracket inner.attributes) (grammar.one s.Semi))

abbrev pub element_of : Bool → Token → List TypeSpec → Token → Option TypeSpec → Elem
element_of provides t ts u p = record { provides = provides; iface = t.text; args = ts; name = u.text; param = p; pos = u.pos }

abbrev pub element : Bool → Form Elem
element provides = grammar.applied provides spec.closed_element

abbrev pub another_element : Bool → Form (List Elem → List Elem)
another_element provides = grammar.map inner.added (element provides)

abbrev pub some_elements : Bool → Form (List Elem)
some_elements provides = inner.repeated spec.is_interface (element provides)

abbrev pub element_block : Bool → Form (List Elem)
element_block provides = inner.between s.LBrace s.RBrace (some_elements provides)

abbrev pub single_element : Bool → Form (List Elem)
single_element provides = grammar.map (λ e. e ∷ []) (element provides)

-- by their first token
abbrev pub elements_of : Bool → Sort → Form (List Elem)
elements_of provides s.LBrace = element_block provides
elements_of provides s.Interface = single_element provides
elements_of provides _ = Form.none

abbrev pub another_specification : Form (List Elem → List Elem)
another_specification = grammar.map (λ es l. l ++ es) (Form.sub Phrase.spec (λ x. x))

abbrev pub specifications : Form (List Elem)
specifications = Form.many spec.is_specify [] (λ x. grammar.when (spec.is_specify x) another_specification)

-- ---- parameters of generic components

abbrev pub type_param : Token → GenericParam
type_param t = record { name = t.text; ty = None }

abbrev pub value_param : CastType → Token → GenericParam
value_param t n = record { name = n.text; ty = Some t.ty }

abbrev pub hiding_name : Form Token
hiding_name = Form.declare (λ n. inner.hidden n.text) grammar.name

abbrev pub type_parameter : Form GenericParam
type_parameter = Form.seq (λ t _. type_param t) (grammar.behind (grammar.one s.Typedef) spec.type_parameter) inner.attributes

abbrev pub value_parameter : Form GenericParam
value_parameter = Form.seq value_param grammar.type_form hiding_name

abbrev pub begins_parameter : Sort → Bool
begins_parameter s.Typedef = true
begins_parameter x = begins_type x

abbrev pub parameter : Form GenericParam
parameter = Form.by spec.generic_parameter_of

abbrev pub another_parameter : Form (List GenericParam → List GenericParam)
another_parameter = grammar.map inner.added (grammar.behind (grammar.one s.Comma) parameter)

abbrev pub some_parameters : Form (List GenericParam)
some_parameters = inner.listed parameter

abbrev pub maybe_parameters : Form (List GenericParam)
maybe_parameters = Form.maybe some_parameters []

-- ---- heads

abbrev pub head_of : Token → Option (List GenericParam) → List Attr → List Elem → Head
head_of t ps l es = record { name = t.text; generic = ps; elems = es; attrs = l }

abbrev pub found_generics : Form (Option (List GenericParam))
found_generics = grammar.map Some (Form.sub Phrase.generics (λ x. x))

abbrev pub some_generics : Form (Option (List GenericParam))
some_generics = Form.maybe found_generics None
