-- Declarations of C99 6.7 and of the nesC 1.3 Reference: initialisers, attributes, variables, type names, functions.
use Rattle.std.specs.Prelude.{ℕ, zero, Bool, true, false, if◌then◌else◌, List, [], ◌∷◌, ◌++◌, map as each, Option, Some, None, codes}
use Rattle.nm_base.specs.declared.token.Token.{Token}
use Rattle.nesc_tree.specs.declared.sorts.Sort.{Sort}
use Rattle.nesc_tree.specs.declared.sorts.Sort.TheVariants as s
use Rattle.nesc_tree.specs.declared.contexts.Jumps.TheVariants as jumps
use Rattle.nesc_tree.specs.declared.contexts.Site.{Site}
use Rattle.nesc_tree.specs.declared.contexts.Site.TheVariants as site
use Rattle.nesc_tree.specs.declared.tree.Param.{Param}
use Rattle.nesc_tree.specs.declared.tree.TypeSpec.{TypeSpec}
use Rattle.nesc_tree.specs.declared.tree.Expr.{Expr}
use Rattle.nesc_tree.specs.declared.declarations.Attr.{Attr}
use Rattle.nesc_tree.specs.declared.declarations.AttrArg.{AttrArg}
use Rattle.nesc_tree.specs.declared.declarations.AttrArg.TheVariants as arg
use Rattle.nesc_tree.specs.declared.declarations.Decl.{Decl}
use Rattle.nesc_tree.specs.declared.declarations.Decl.TheVariants as d
use Rattle.nesc_tree.specs.declared.declarations.FuncHead.{FuncHead}
use Rattle.nesc_tree.specs.declared.declarations.FuncKind.{FuncKind}
use Rattle.nesc_tree.specs.declared.declarations.FuncKind.TheVariants as kind
use Rattle.nesc_tree.specs.declared.declarations.Init.{Init}
use Rattle.nesc_tree.specs.declared.declarations.Init.TheVariants as i
use Rattle.nesc_tree.specs.declared.declarations.Stmt.{Stmt}
use Rattle.nesc_tree.specs.declared.declarations.Variable.{Variable}
use Rattle.nesc_tree.specs.declared.declarations.VarGroup.{VarGroup}
use Rattle.nesc_tree.specs.declared.operand.CastType.{CastType}
use Rattle.nesc_tree.specs.declared.operand.Dims.{Dims}
use Rattle.nesc_tree.specs.declared.operand.Inits.{Inits}
use Rattle.nesc_tree.specs.Level as level
use Rattle.nesc_tree.specs.Sorts.{Names, same_sort, is_type}
use Rattle.nesc_tree.specs.Sorts as names
use Rattle.nesc_tree.specs.Plain as plain
use Rattle.nesc_tree.specs.View.{base_of}
use Rattle.nesc_tree.specs.Phrase.{Phrase, begins_expr, begins_type, begins_decl, ends_decls, has_variables}
use Rattle.nesc_tree.specs.Form.{Form}
use Rattle.nesc_grammar.specs.Grammar.{one, map, expr, behind, before, with, name, if_type, when, spelled, is_comma, type_form, stars, dims}

-- ---- lists

-- with commas between them
abbrev pub added : {A : Type 0} → A → List A → List A
added a l = l ++ (a ∷ [])

abbrev pub listed : {A : Type 0} → Form A → Form (List A)
listed g = Form.loop is_comma (λ _ _. true) (λ _. 0) (map (λ a. a ∷ []) g) (λ x. when (is_comma x) (map added (behind (one s.Comma) g)))

-- one behind the other, as long as a token goes on
abbrev pub repeated : {A : Type 0} → (Sort → Bool) → Form A → Form (List A)
repeated go g = Form.many go [] (λ x. when (go x) (map added g))

abbrev pub between : {A : Type 0} → Sort → Sort → Form A → Form A
between x y g = behind (one x) (before g (one y))

-- left out, it is no list at all
abbrev pub some : {A : Type 0} → Form A → Form (Option A)
some g = Form.maybe (map Some g) None

-- ---- names that declarations make and hide

-- a variable, function or parameter hides a type name
abbrev pub hidden : List ℕ → Names → Names
hidden text ns = if is_type ns text then names.declared text false ns else ns

abbrev pub all_hidden : List (List ℕ) → Names → Names
all_hidden [] ns = ns
all_hidden (text ∷ texts) ns = all_hidden texts (hidden text ns)

-- ---- attributes

abbrev pub attribute_argument_of : Sort → Form AttrArg
attribute_argument_of s.Text = map (λ t. arg.Text t.text) (one s.Text)
attribute_argument_of _ = map (λ a. arg.Value a.expr) (expr level.conditional)

abbrev pub attribute_arguments : Form (List AttrArg)
attribute_arguments = between s.LParen s.RParen (Form.maybe (listed (Form.by attribute_argument_of)) [])

abbrev pub attribute : Form Attr
attribute = Form.seq (λ t l. record { name = t.text; args = l }) (behind (one s.At) name) attribute_arguments

abbrev pub is_at : Sort → Bool
is_at s.At = true
is_at _ = false

abbrev pub attributes : Form (List Attr)
attributes = repeated is_at attribute

-- ---- initialisers (C99 6.7.8); one that is an expression has the levels of that expression

abbrev pub init_of : Sort → Form Init
init_of s.LBrace = Form.sub Phrase.braces (λ v. v)
init_of _ = map (λ a. i.One a.expr) (expr level.assignment)

abbrev pub init : Form Init
init = Form.by init_of

abbrev pub first_init : Init → Inits
first_init v = record { list = v ∷ []; ended = false }

abbrev pub more_inits : Option Init → Inits → Inits
more_inits None l = record { list = l.list; ended = true }
more_inits (Some v) l = record { list = l.list ++ (v ∷ []); ended = false }

abbrev pub is_open : Inits → Sort → Bool
is_open l x = if l.ended then false else true

abbrev pub another_init : Form (Inits → Inits)
another_init = map more_inits (behind (one s.Comma) (some init))

abbrev pub inits : Form Inits
inits = Form.loop is_comma is_open (λ _. 0) (map first_init init) (λ x. when (is_comma x) another_init)

abbrev pub braced_inits : Form Init
braced_inits = map (λ l. i.Many l.list) (between s.LBrace s.RBrace inits)

abbrev pub braces_of : Sort → Form Init
braces_of s.LBrace = braced_inits
braces_of _ = Form.none

abbrev pub some_init : Form (Option Init)
some_init = some (behind (one s.Assign) init)

-- ---- declarators (C99 6.7.5); the name is in force from behind its declarator on

abbrev pub variable_of : Token → Dims → ℕ → Variable
variable_of t l n = record { declarator = record { stars = n; name = t.text; dims = l.exprs }; init = None; pos = t.pos }

abbrev pub plain_variable : Form Variable
plain_variable = with stars (Form.seq variable_of name dims)

abbrev pub with_init : Variable → Option Init → Variable
with_init v x = record { declarator = v.declarator; init = x; pos = v.pos }

abbrev pub variable : Form Variable
variable = Form.seq with_init (before (Form.declare (λ v. hidden v.declarator.name) plain_variable) attributes) some_init

abbrev pub variables : Form (List Variable)
variables = listed variable

abbrev pub group : Bool → CastType → List Variable → VarGroup
group norace t vs = record { ty = t.ty; norace = norace; vars = vs }

-- the type of what a declarator declares
abbrev pub declared_type : CastType → ℕ → List Expr → TypeSpec
declared_type t n l = record { base = t.ty.base; stars = n; dims = l; is_const = t.ty.is_const }

abbrev pub type_name : Variable → List Attr → CastType → Decl
type_name v l t = d.Typedef v.declarator.name (declared_type t v.declarator.stars v.declarator.dims) l v.pos

-- behind `typedef`
abbrev pub type_name_of : Form (CastType → Decl)
type_name_of = Form.seq type_name (Form.declare (λ v. names.declared v.declarator.name true) plain_variable) (before attributes (one s.Semi))

abbrev pub typedef : Form (Token → Decl)
typedef = map (λ x _. x) (with type_form type_name_of)

abbrev pub typedef_decl : Form Decl
typedef_decl = with (one s.Typedef) typedef

-- variables, or a type alone
abbrev pub type_or_group : CastType → List Variable → Decl
type_or_group t [] = d.TypeOnly t.ty t.from
type_or_group t (v ∷ vs) = d.Vars (group false t (v ∷ vs))

-- ---- parameters

-- with its name and its dimension, or without
abbrev pub Parameter : Type 0
Parameter = Option Token × List Expr

abbrev pub is_named : Parameter → Names → Names
is_named (None, l) ns = ns
is_named (Some t, l) ns = hidden t.text ns

abbrev pub dimension : Form Expr
dimension = map (λ a. a.expr) (between s.LBracket s.RBracket (expr level.conditional))

abbrev pub listed_dimension : Option Expr → List Expr
listed_dimension None = []
listed_dimension (Some a) = a ∷ []

abbrev pub named_parameter : Form Token → Form Parameter
named_parameter g = Form.declare is_named (Form.seq (λ t l. (Some t, listed_dimension l)) g (some dimension))

abbrev pub parameter_of : Sort → Form Parameter
parameter_of s.Word = named_parameter (one s.Word)
parameter_of s.TypeName = named_parameter (one s.TypeName)
parameter_of s.LBracket = map (λ a. (None, a ∷ [])) dimension
parameter_of _ = Form.none

abbrev pub text_of : Option Token → Option (List ℕ)
text_of None = None
text_of (Some t) = Some t.text

abbrev pub param_of : CastType → ℕ → Parameter → Param
param_of t n p = record { ty = declared_type t n p.1; name = text_of p.0 }

abbrev pub param : Form Param
param = with type_form (Form.seq (λ n p t. param_of t n p) stars (Form.maybe (Form.by parameter_of) (None, [])))

-- `void` alone is no parameter
abbrev pub is_nothing : ℕ → List Expr → Bool → Option (List ℕ) → plain.Base → Bool
is_nothing zero [] false None plain.void = true
is_nothing n l c word base = false

abbrev pub is_void : Param → Bool
is_void p = is_nothing p.ty.stars p.ty.dims p.ty.is_const p.name (base_of p.ty.base)

abbrev pub without_void : List Param → List Param
without_void [] = []
without_void (p ∷ []) = if is_void p then [] else p ∷ []
without_void (p ∷ q ∷ ps) = p ∷ q ∷ ps

abbrev pub parameters : Form (List Param)
parameters = map without_void (between s.LParen s.RParen (Form.maybe (listed param) []))

-- ---- functions, tasks, commands and events

-- the words before the type of a function
pub record Words : Type 0 where
  pub kind : FuncKind
  pub is_async : Bool
  pub is_default : Bool

abbrev pub no_words : Words
no_words = record { kind = kind.Plain; is_async = false; is_default = false }

abbrev pub is_modifier : Sort → Bool
is_modifier s.Async = true
is_modifier s.Default = true
is_modifier s.Static = true
is_modifier s.Inline = true
is_modifier _ = false

abbrev pub modified : Sort → Words → Words
modified s.Async w = record { kind = w.kind; is_async = true; is_default = w.is_default }
modified s.Default w = record { kind = w.kind; is_async = w.is_async; is_default = true }
modified _ w = w

abbrev pub modifiers : Form Words
modifiers = Form.many is_modifier no_words (λ x. when (is_modifier x) (map (λ _. modified x) (one x)))

unfoldable pub is_event : Token → Bool
is_event t = spelled t (codes "event")

abbrev pub item_kind : Token → FuncKind
item_kind t = if is_event t then kind.Event else kind.Command

abbrev pub kind_of : Sort → Form FuncKind
kind_of s.Task = map (λ _. kind.Task) (one s.Task)
kind_of s.Item = map item_kind (one s.Item)
kind_of _ = Form.none

abbrev pub function_words : Form Words
function_words = Form.seq (λ w k. record { kind = k; is_async = w.is_async; is_default = w.is_default }) modifiers (Form.maybe (Form.by kind_of) kind.Plain)

-- a type, stars and a name, and what is made of them by what stands behind
pub record Start : Type 0 where
  pub ty : CastType
  pub stars : ℕ
  pub name : Token

-- the declaration, and the names that it hides from its end on
pub record Declaring : Type 0 where
  pub decl : Decl
  pub hides : List (List ℕ)

abbrev pub Behind : Type 0
Behind = Words → Start → Declaring

-- what is behind the name of a function: an item of an interface, a parameter in a bracket, parameters, attributes, a body
abbrev pub head_of : Option Token → Option Param → List Param → List Attr → Words → Start → FuncHead
head_of item bracket ps l w x = record { kind = w.kind; name = x.name.text; item = text_of item; bracket = bracket; is_async = w.is_async; is_default = w.is_default; result = declared_type x.ty x.stars []; params = ps; attrs = l; pos = x.name.pos }

abbrev pub own_name : Option Token → Token → List (List ℕ)
own_name None t = t.text ∷ []
own_name (Some x) t = []

abbrev pub body_of : Sort → Form (Option Stmt)
body_of s.LBrace = map Some (Form.sub (Phrase.stmt jumps.Neither) (λ x. x))
body_of s.Semi = map (λ _. None) (one s.Semi)
body_of _ = Form.none

abbrev pub Called : Type 0
Called = Option Token → Option Param → Behind

abbrev pub called : List Param → List Attr → Option Stmt → Called
called ps l body item bracket w x = record { decl = d.Func (head_of item bracket ps l w x) body; hides = own_name item x.name }

-- from the parameters on; they end with the function
abbrev pub call_form : Form Called
call_form = with parameters (Form.seq (λ l body ps. called ps l body) attributes (Form.by body_of))

abbrev pub bracket_of : CastType → Token → Param
bracket_of t n = record { ty = t.ty; name = Some n.text }

-- behind `[`
abbrev pub bracket_rest : Form Param
bracket_rest = Form.seq bracket_of type_form (before (Form.declare (λ t. hidden t.text) name) (one s.RBracket))

abbrev pub bracket : Form (Option Param)
bracket = some (behind (one s.LBracket) bracket_rest)

-- from a bracket or the parameters on
abbrev pub function_rest : Form (Option Token → Behind)
function_rest = Form.scope (Form.seq (λ p f item. f item p) bracket call_form)

abbrev pub item_name : Form Token
item_name = behind (one s.Dot) name

abbrev pub function_end : Form Behind
function_end = Form.seq (λ item f. f item) (some item_name) function_rest

abbrev pub named_rest : Form Behind → Form (ℕ → CastType → Words → Declaring)
named_rest g = Form.seq (λ x f n t w. f w (record { ty = t; stars = n; name = x })) name g

-- stars, a name and what is behind it
abbrev pub named : Form Behind → Form (CastType → Words → Declaring)
named g = with stars (named_rest g)

abbrev pub start : Form Behind → Form (Words → Declaring)
start g = with type_form (named g)

abbrev pub function : Form Declaring
function = Form.seq (λ w f. f w) function_words (start function_end)

-- ---- variables outside of blocks

abbrev pub variable_at : Start → List Expr → Variable
variable_at x l = record { declarator = record { stars = x.stars; name = x.name.text; dims = l }; init = None; pos = x.name.pos }

abbrev pub texts : List Variable → List (List ℕ)
texts vs = each (λ v. v.declarator.name) vs

abbrev pub grouped : Bool → CastType → List Variable → Declaring
grouped norace t vs = record { decl = d.Vars (group norace t vs); hides = texts vs }

abbrev pub more_variables : Form (List Variable)
more_variables = repeated is_comma (behind (one s.Comma) variable)

-- behind the dimensions of the first variable
abbrev pub first_variable : Form (List Expr → Behind)
first_variable = behind attributes (Form.seq (λ v vs l w x. grouped false x.ty (with_init (variable_at x l) v ∷ vs)) some_init (before more_variables (one s.Semi)))

-- behind `[`: a type begins the parameter of a function's bracket, all else a dimension
abbrev pub bracketed_function : Form Behind
bracketed_function = Form.scope (Form.seq (λ p f. f None (Some p)) bracket_rest call_form)

abbrev pub first_dimension : Form Dims
first_dimension = Form.seq (λ a l. record { exprs = a.expr ∷ l.exprs; height = l.height }) (before (expr level.conditional) (one s.RBracket)) dims

abbrev pub dimensioned : Form Behind
dimensioned = Form.seq (λ l f. f l.exprs) first_dimension first_variable

abbrev pub bracketed_of : Sort → Form Behind
bracketed_of x = if_type (begins_type x) bracketed_function (when (begins_expr x) dimensioned)

-- behind the name, where a variable may be declared
abbrev pub end_of : Sort → Form Behind
end_of s.LParen = map (λ f. f None) function_rest
end_of s.Dot = function_end
end_of s.LBracket = behind (one s.LBracket) (Form.by bracketed_of)
end_of s.At = map (λ f. f []) first_variable
end_of s.Assign = map (λ f. f []) first_variable
end_of s.Comma = map (λ f. f []) first_variable
end_of s.Semi = map (λ f. f []) first_variable
end_of _ = Form.none

-- where it may not
abbrev pub header_end_of : Sort → Form Behind
header_end_of s.LParen = map (λ f. f None) function_rest
header_end_of s.Dot = function_end
header_end_of _ = Form.none

abbrev pub ending : Site → Sort → Form Behind
ending site.Header x = header_end_of x
ending site.Module x = end_of x

-- `norace` and `static` before variables
abbrev pub is_storage : Sort → Bool
is_storage s.Norace = true
is_storage s.Static = true
is_storage _ = false

abbrev pub storages : Form (List Token)
storages = Form.many is_storage [] (λ x. when (is_storage x) (map added (one x)))

abbrev pub norace_variables : Form Declaring
norace_variables = behind (one s.Norace) (behind storages (Form.seq (grouped true) type_form (before variables (one s.Semi))))

-- a variable or a function
abbrev pub named_in : Site → Form (CastType → Declaring)
named_in m = map (λ f t. f t no_words) (named (Form.by (ending m)))

abbrev pub type_alone : Form (CastType → Declaring)
type_alone = map (λ _ t. record { decl = d.TypeOnly t.ty t.from; hides = [] }) (one s.Semi)

abbrev pub typed_of : Site → Sort → Form (CastType → Declaring)
typed_of m s.Semi = type_alone
typed_of m s.Star = named_in m
typed_of m s.Word = named_in m
typed_of m s.TypeName = named_in m
typed_of m _ = Form.none

abbrev pub is_static : Sort → Bool
is_static s.Static = true
is_static _ = false

abbrev pub statics : Form (List Token)
statics = repeated is_static (one s.Static)

-- behind `static`, where variables stand
abbrev pub static_of : Sort → Form Declaring
static_of s.Norace = norace_variables
static_of s.Async = function
static_of s.Default = function
static_of s.Inline = function
static_of s.Task = function
static_of s.Item = function
static_of x = when (begins_type x) (with type_form (named_in site.Module))

abbrev pub static_decl : Site → Form Declaring
static_decl site.Header = function
static_decl site.Module = behind (one s.Static) (behind statics (Form.by static_of))

abbrev pub declaring : Site → Sort → Form Declaring
declaring m s.Norace = when (has_variables m) norace_variables
declaring m s.Static = static_decl m
declaring m s.Async = function
declaring m s.Default = function
declaring m s.Inline = function
declaring m s.Task = function
declaring m s.Item = function
declaring m x = when (begins_type x) (with type_form (Form.by (typed_of m)))

-- outside of blocks a name hides a type name from the end of its declaration on
abbrev pub hiding : Form Declaring → Form Decl
hiding g = map (λ x. x.decl) (Form.declare (λ x. all_hidden x.hides) g)

abbrev pub decl_of : Site → Sort → Form Decl
decl_of m s.Typedef = typedef_decl
decl_of m x = hiding (declaring m x)

abbrev pub decl : Site → Form Decl
decl m = Form.sub (Phrase.decl m) (λ x. x)

abbrev pub decls_before : Site → Form (List Decl)
decls_before m = repeated (begins_decl m) (decl m)

-- the token that ends the declarations of a header or a module
abbrev pub end_token : Sort → Form Token
end_token x = when (ends_decls x) (one x)

abbrev pub ended_decls : Site → Form (List Decl)
ended_decls m = before (decls_before m) (Form.by end_token)
