-- Interfaces, modules and configurations of the nesC 1.3 Reference.
use Rattle.std.specs.Prelude.{ℕ, Bool, true, false, List, [], ◌∷◌, ◌++◌, map as each, Option, Some, None, codes}
use Rattle.nm_base.specs.declared.pos.Pos.{Pos}
use Rattle.nm_base.specs.declared.token.Token.{Token}
use Rattle.nesc_tree.specs.declared.sorts.Sort.{Sort}
use Rattle.nesc_tree.specs.declared.sorts.Sort.TheVariants as s
use Rattle.nesc_tree.specs.declared.contexts.Site.TheVariants as site
use Rattle.nesc_tree.specs.declared.tree.Base.TheVariants as b
use Rattle.nesc_tree.specs.declared.tree.Param.{Param}
use Rattle.nesc_tree.specs.declared.tree.TypeSpec.{TypeSpec}
use Rattle.nesc_tree.specs.declared.declarations.Attr.{Attr}
use Rattle.nesc_tree.specs.declared.declarations.Decl.{Decl}
use Rattle.nesc_tree.specs.declared.declarations.Decl.TheVariants as d
use Rattle.nesc_tree.specs.declared.components.ConfLine.{ConfLine}
use Rattle.nesc_tree.specs.declared.components.ConfLine.TheVariants as line
use Rattle.nesc_tree.specs.declared.components.Elem.{Elem}
use Rattle.nesc_tree.specs.declared.components.GenericArg.{GenericArg}
use Rattle.nesc_tree.specs.declared.components.GenericArg.TheVariants as garg
use Rattle.nesc_tree.specs.declared.components.GenericParam.{GenericParam}
use Rattle.nesc_tree.specs.declared.components.Head.{Head}
use Rattle.nesc_tree.specs.declared.components.Part.{Part}
use Rattle.nesc_tree.specs.declared.components.Part.TheVariants as part
use Rattle.nesc_tree.specs.declared.components.Sig.{Sig}
use Rattle.nesc_tree.specs.declared.components.Unit as unit
use Rattle.nesc_tree.specs.declared.components.WireEnd.{WireEnd}
use Rattle.nesc_tree.specs.declared.operand.CastType.{CastType}
use Rattle.nesc_tree.specs.declared.operand.Operand.{Operand}
use Rattle.nesc_tree.specs.Level as level
use Rattle.nesc_tree.specs.Sorts as names
use Rattle.nesc_tree.specs.Phrase.{Phrase, begins_expr, begins_type, begins_line, begins_item}
use Rattle.nesc_tree.specs.Form.{Form}
use Rattle.nesc_grammar.specs.Grammar.{one, map, expr, behind, before, with, name, if_type, when, spelled, plain, qualifiers, no_qualifiers, type_of, type_form, stars, value_of, optional}
use Rattle.nesc_grammar.specs.Declarations as inner
use Rattle.nesc_grammar.specs.Declarations.{listed, repeated, between, some, hidden, is_at, declared_type, is_event, parameters, typedef_decl, decls_before, text_of}

-- the attributes of a component or an interface
abbrev pub attributes : Form (List Attr)
attributes = repeated is_at (Form.sub Phrase.attribute (λ x. x))

-- ---- interfaces

-- behind the name of a command or event
abbrev pub item_end : Form (List Param)
item_end = before (Form.scope parameters) (before inner.attributes (one s.Semi))

abbrev pub item_of : Token → List Param → ℕ → CastType → Token → Bool → Sig
item_of x ps n t k is_async = record { name = x.text; is_event = is_event k; is_async = is_async; result = declared_type t n []; params = ps; pos = x.pos }

abbrev pub typed_item : Form (CastType → Token → Bool → Sig)
typed_item = with stars (Form.seq item_of name item_end)

abbrev pub item : Form Sig
item = Form.seq (λ a f. f a) (optional s.Async) (with (one s.Item) (with type_form typed_item))

abbrev pub type_parameter : Form Token
type_parameter = Form.declare (λ t. names.declared t.text true) name

abbrev pub type_parameters : Form (List Token)
type_parameters = Form.maybe (between s.Less s.Greater (listed type_parameter)) []

abbrev pub items : Form (List Sig)
items = between s.LBrace s.RBrace (repeated begins_item (Form.sub Phrase.item (λ x. x)))

abbrev pub interface_of : Token → List Token → List Attr → List Sig → Part
interface_of x ts l is = part.Interface (record { name = x.text; params = each (λ t. t.text) ts; items = is; attrs = l })

abbrev pub interface_form : Form Part
interface_form = with (behind (one s.Interface) name) (with type_parameters (Form.seq (λ l is ts x. interface_of x ts l is) attributes items))

abbrev pub unit_of : List Decl → Part → unit.Unit
unit_of ds p = record { decls = ds; part = p }

abbrev pub interface_part : Sort → Form Part
interface_part s.Interface = interface_form
interface_part _ = Form.none

-- behind declarations of headers; names of its own end with it
abbrev pub interface_unit : Form unit.Unit
interface_unit = Form.seq unit_of (decls_before site.Header) (Form.scope (Form.by interface_part))

-- ---- heads of components

abbrev pub generic_parameter_of : Sort → Form GenericParam
generic_parameter_of s.Typedef = Form.seq (λ t _. record { name = t.text; ty = None }) (behind (one s.Typedef) type_parameter) inner.attributes
generic_parameter_of x = when (begins_type x) (Form.seq (λ t n. record { name = n.text; ty = Some t.ty }) type_form (Form.declare (λ n. hidden n.text) name))

abbrev pub generics : Form (List GenericParam)
generics = between s.LParen s.RParen (Form.maybe (listed (Form.by generic_parameter_of)) [])

abbrev pub type_arguments : Form (List CastType)
type_arguments = Form.maybe (between s.Less s.Greater (listed type_form)) []

abbrev pub alias : Form (Option Token)
alias = some (behind (one s.As) name)

abbrev pub either_name : Token → Option Token → Token
either_name t None = t
either_name t (Some u) = u

-- the type of the parameter in a bracket
abbrev pub element_bracket : Form (Option CastType)
element_bracket = some (between s.LBracket s.RBracket (before type_form name))

abbrev pub type_in : Option CastType → Option TypeSpec
type_in None = None
type_in (Some t) = Some t.ty

abbrev pub element_of : Option Token → Option CastType → List CastType → Token → Bool → Elem
element_of u p ts t provides = record { provides = provides; iface = t.text; args = each (λ t. t.ty) ts; name = (either_name t u).text; param = type_in p; pos = (either_name t u).pos }

abbrev pub element : Form (Bool → Elem)
element = with (behind (one s.Interface) name) (with type_arguments (Form.seq element_of alias (before element_bracket inner.attributes)))

abbrev pub closed_element : Form (Bool → Elem)
closed_element = before element (one s.Semi)

abbrev pub is_interface : Sort → Bool
is_interface s.Interface = true
is_interface _ = false

abbrev pub elements_of : Sort → Form (List (Bool → Elem))
elements_of s.LBrace = between s.LBrace s.RBrace (repeated is_interface closed_element)
elements_of s.Interface = map (λ f. f ∷ []) closed_element
elements_of _ = Form.none

unfoldable pub provides : Token → Bool
provides t = spelled t (codes "provides")

abbrev pub specification : Form (List Elem)
specification = Form.seq (λ t fs. each (λ f. f (provides t)) fs) (one s.Specify) (Form.by elements_of)

abbrev pub is_specify : Sort → Bool
is_specify s.Specify = true
is_specify _ = false

abbrev pub elements : Form (List Elem)
elements = between s.LBrace s.RBrace (Form.many is_specify [] (λ x. when (is_specify x) (map (λ es l. l ++ es) (Form.sub Phrase.spec (λ x. x)))))

-- `generic` or parameters make a component generic
abbrev pub generic_of : Bool → Option (List GenericParam) → Option (List GenericParam)
generic_of true None = Some []
generic_of _ x = x

abbrev pub head_end : Form (Token → Option (List GenericParam) → Head)
head_end = Form.seq (λ l es t ps. record { name = t.text; generic = ps; elems = es; attrs = l }) attributes elements

abbrev pub head : Form (Bool → Head)
head = with name (Form.seq (λ ps f t g. f t (generic_of g ps)) (some (Form.sub Phrase.generics (λ x. x))) head_end)

-- ---- the lines of a configuration

abbrev pub generic_argument_of : Sort → Form GenericArg
generic_argument_of x = if_type (begins_type x) (map (λ t. garg.Ty t.ty) type_form) (when (begins_expr x) (map (λ a. garg.Value a.expr) (expr level.conditional)))

abbrev pub generic_arguments : Form (List GenericArg)
generic_arguments = between s.LParen s.RParen (Form.maybe (listed (Form.by generic_argument_of)) [])

abbrev pub component_line : Option (List GenericArg) → Option Token → Token → ConfLine
component_line l u t = line.Component t.text l (either_name t u).text t.pos

abbrev pub new_component : Form ConfLine
new_component = with (behind (one s.New) name) (Form.seq (λ l. component_line (Some l)) generic_arguments alias)

abbrev pub old_component : Form ConfLine
old_component = with name (map (component_line None) alias)

abbrev pub component_of : Sort → Form ConfLine
component_of s.New = new_component
component_of _ = old_component

abbrev pub components_line : Form (List ConfLine)
components_line = behind (one s.Components) (before (listed (Form.by component_of)) (one s.Semi))

abbrev pub end_of : Option Token → Option Operand → Token → WireEnd
end_of u p t = record { first = t.text; second = text_of u; param = value_of p }

-- behind its first name
abbrev pub end_rest : Form (Token → WireEnd)
end_rest = Form.seq end_of (some (behind (one s.Dot) name)) (some (between s.LBracket s.RBracket (expr level.conditional)))

abbrev pub end : Form WireEnd
end = with name end_rest

abbrev pub joined : Sort → WireEnd → WireEnd → Pos → ConfLine
joined s.Arrow x y at = line.Link x y at
joined s.BackArrow x y at = line.Link y x at
joined _ x y at = line.Equate x y at

abbrev pub is_joint : Sort → Bool
is_joint s.Arrow = true
is_joint s.BackArrow = true
is_joint s.Assign = true
is_joint _ = false

abbrev pub joint_of : Sort → Form (WireEnd → Pos → ConfLine)
joint_of z = when (is_joint z) (Form.seq (λ _ y x at. joined z x y at) (one z) (before end (one s.Semi)))

abbrev pub wire_rest : Form (Token → List ConfLine)
wire_rest = Form.seq (λ f g t. g (f t) t.pos ∷ []) end_rest (Form.by joint_of)

abbrev pub type_line : CastType → List ConfLine
type_line t = line.Decl (d.TypeOnly t.ty t.from) ∷ []

-- a type of this name, and what may be behind it
abbrev pub named_type : Form (Token → List ConfLine)
named_type = Form.seq (λ q _ t. type_line (type_of no_qualifiers (plain (b.Named t.text) 0 t.pos) q)) qualifiers (one s.Semi)

abbrev pub behind_type_name : Sort → Form (Token → List ConfLine)
behind_type_name s.Semi = named_type
behind_type_name s.Qualifier = named_type
behind_type_name s.Dot = wire_rest
behind_type_name s.LBracket = wire_rest
behind_type_name s.Arrow = wire_rest
behind_type_name s.BackArrow = wire_rest
behind_type_name s.Assign = wire_rest
behind_type_name _ = Form.none

abbrev pub line_of : Sort → Form (List ConfLine)
line_of s.Components = components_line
line_of s.Word = with (one s.Word) wire_rest
line_of s.TypeName = with (one s.TypeName) (Form.by behind_type_name)
line_of s.Typedef = map (λ x. line.Decl x ∷ []) typedef_decl
line_of x = when (begins_type x) (Form.seq (λ t _. type_line t) type_form (one s.Semi))

-- ---- components

abbrev pub module_of : Form (Bool → Part)
module_of = behind (one s.Module) (Form.seq (λ f ds g. part.Module (record { head = f g; decls = ds })) head (behind (one s.Implementation) (between s.LBrace s.RBrace (decls_before site.Module))))

abbrev pub lines : Form (List ConfLine)
lines = between s.LBrace s.RBrace (Form.many begins_line [] (λ x. when (begins_line x) (map (λ ls l. l ++ ls) (Form.sub Phrase.line (λ x. x)))))

abbrev pub configuration_of : Form (Bool → Part)
configuration_of = behind (one s.Configuration) (Form.seq (λ f ls g. part.Config (record { head = f g; lines = ls })) head (behind (one s.Implementation) lines))

abbrev pub component_by : Sort → Form (Bool → Part)
component_by s.Module = module_of
component_by s.Configuration = configuration_of
component_by _ = Form.none

abbrev pub component_part : Sort → Form Part
component_part s.Generic = map (λ f. f true) (behind (one s.Generic) (Form.by component_by))
component_part x = map (λ f. f false) (component_by x)

abbrev pub component_unit : Form unit.Unit
component_unit = Form.seq unit_of (decls_before site.Header) (Form.scope (Form.by component_part))
