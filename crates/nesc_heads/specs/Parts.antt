-- Parts of forms of the grammar, each read by a function of its own.
use Rattle.std.specs.Prelude.{ℕ, zero, Bool, true, false, List, [], ◌∷◌, Option, Some, None}
use Rattle.nm_base.specs.declared.token.Token.{Token}
use Rattle.nesc_tree.specs.declared.sorts.Sort.{Sort}
use Rattle.nesc_tree.specs.declared.sorts.Sort.TheVariants as s
use Rattle.nesc_tree.specs.declared.operand.CastType.{CastType}
use Rattle.nesc_tree.specs.declared.declarations.FuncKind.{FuncKind}
use Rattle.nesc_tree.specs.declared.declarations.FuncKind.TheVariants as kind
use Rattle.nesc_tree.specs.declared.tree.Expr.{Expr}
use Rattle.nesc_tree.specs.declared.tree.Param.{Param}
use Rattle.nesc_tree.specs.Plain as plain
use Rattle.nesc_tree.specs.Form.{Form}
use Rattle.nesc_grammar.specs.Grammar as grammar
use Rattle.nesc_grammar.specs.Declarations as spec

-- ---- parameters

-- the name and the dimension of a parameter
abbrev pub Parameter : Type 0
Parameter = Option (List ℕ) × List Expr

abbrev pub texts : spec.Parameter → Parameter
texts p = (spec.text_of p.0, p.1)

abbrev pub some_dimension : Form (Option Expr)
some_dimension = spec.some spec.dimension

abbrev pub named_parameter : Sort → Form Parameter
named_parameter x = grammar.map texts (spec.named_parameter (grammar.one x))

abbrev pub unnamed : Option Expr → Parameter
unnamed l = (None, spec.listed_dimension l)

abbrev pub unnamed_parameter : Form Parameter
unnamed_parameter = grammar.map unnamed some_dimension

abbrev pub either_parameter : Form spec.Parameter
either_parameter = Form.maybe (Form.by spec.parameter_of) (None, [])

abbrev pub parameter : Form Parameter
parameter = grammar.map texts either_parameter

abbrev pub param_of : CastType → ℕ → Parameter → Param
param_of t n p = record { ty = spec.declared_type t n p.1; name = p.0 }

-- behind the type
abbrev pub param_end : Form (CastType → Param)
param_end = Form.seq (λ n p t. param_of t n p) grammar.stars parameter

abbrev pub joined_param : Form Param
joined_param = grammar.with grammar.type_form param_end

abbrev pub another_param : Form (List Param → List Param)
another_param = grammar.map spec.added (grammar.behind (grammar.one s.Comma) spec.param)

abbrev pub some_params : Form (List Param)
some_params = spec.listed spec.param

abbrev pub maybe_params : Form (List Param)
maybe_params = Form.maybe some_params []

abbrev pub bracketed_params : Form (List Param)
bracketed_params = spec.between s.LParen s.RParen maybe_params

-- ---- words

abbrev pub another_modifier : Sort → Form (spec.Words → spec.Words)
another_modifier x = grammar.map (λ _. spec.modified x) (grammar.one x)

abbrev pub some_kind : Form FuncKind
some_kind = Form.maybe (Form.by spec.kind_of) kind.Plain

-- ---- brackets

-- a name that is in force from here on, and the bracket behind it
abbrev pub bracket_name : Form Token
bracket_name = grammar.before (Form.declare (λ t. spec.hidden t.text) grammar.name) (grammar.one s.RBracket)

abbrev pub hiding_name : Form Token
hiding_name = Form.declare (λ t. spec.hidden t.text) grammar.name

-- whether it is `void`
abbrev pub is_void_base : plain.Base → Bool
is_void_base plain.void = true
is_void_base _ = false

-- whether `void` is all that is listed
abbrev pub is_nothing : List Param → Bool
is_nothing (p ∷ []) = spec.is_void p
is_nothing _ = false
