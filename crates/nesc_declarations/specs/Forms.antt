-- Parts of forms of the grammar, each read by a function of its own.
use Rattle.std.specs.Prelude.{ℕ, true, false, List, [], ◌∷◌, Option, Some, None}
use Rattle.nm_base.specs.declared.token.Token.{Token}
use Rattle.nesc_tree.specs.declared.sorts.Sort.TheVariants as s
use Rattle.nesc_tree.specs.declared.contexts.Site.{Site}
use Rattle.nesc_tree.specs.declared.contexts.Site.TheVariants as site
use Rattle.nesc_tree.specs.declared.operand.CastType.{CastType}
use Rattle.nesc_tree.specs.declared.declarations.Decl.{Decl}
use Rattle.nesc_tree.specs.declared.declarations.Stmt.{Stmt}
use Rattle.nesc_tree.specs.declared.declarations.Variable.{Variable}
use Rattle.nesc_tree.specs.declared.tree.Expr.{Expr}
use Rattle.nesc_tree.specs.Level as level
use Rattle.nesc_tree.specs.declared.tree.Param.{Param}
use Rattle.nesc_tree.specs.declared.contexts.Jumps.TheVariants as jumps
use Rattle.nesc_tree.specs.Phrase.{Phrase}
use Rattle.nesc_tree.specs.Sorts.{Names}
use Rattle.nesc_tree.specs.Form.{Form}
use Rattle.nesc_tree.specs.Reading.{Answer, phrase}
use Rattle.nesc_grammar.specs.Production.{production}
use Rattle.nesc_parse_types.specs.Gives.{place}
use Rattle.nesc_grammar.specs.Grammar as grammar
use Rattle.nesc_grammar.specs.Declarations as spec
use Rattle.nesc_declarations.specs.declared.ends.Behind.{Behind}
use Rattle.nesc_declarations.specs.declared.ends.Behind.TheVariants as b

-- ---- functions

abbrev pub no_body : Form (Option Stmt)
no_body = grammar.map (λ _. None) (grammar.one s.Semi)

abbrev pub body : Form (Option Stmt)
body = grammar.map Some (Form.sub (Phrase.stmt jumps.Neither) (λ x. x))

abbrev pub some_body : Form (Option Stmt)
some_body = Form.by spec.body_of

-- behind the parameters
abbrev pub call_end : Form (List Param → spec.Called)
call_end = Form.seq (λ l body ps. spec.called ps l body) spec.attributes some_body

-- from a bracket or the parameters on, before the names are given back
abbrev pub open_function : Form (Option Token → spec.Behind)
open_function = Form.seq (λ p f item. f item p) spec.bracket spec.call_form

abbrev pub open_bracketed : Form spec.Behind
open_bracketed = Form.seq (λ p f. f None (Some p)) spec.bracket_rest spec.call_form

-- where no item of an interface is named
abbrev pub own_function : Form spec.Behind
own_function = grammar.map (λ f. f None) spec.function_rest

-- ---- variables

abbrev pub closed_more : Form (List Variable)
closed_more = grammar.before spec.more_variables (grammar.one s.Semi)

abbrev pub first_end : Form (List Expr → spec.Behind)
first_end = Form.seq (λ v vs l w x. spec.grouped false x.ty (spec.with_init (spec.variable_at x l) v ∷ vs)) spec.some_init closed_more

abbrev pub plain_variables : Form spec.Behind
plain_variables = grammar.map (λ f. f []) spec.first_variable

abbrev pub dimension : Form Expr
dimension = grammar.map (λ a. a.expr) (grammar.before (grammar.expr level.conditional) (grammar.one s.RBracket))

abbrev pub first_dimension : Form (List Expr)
first_dimension = Form.seq (λ a l. a ∷ l.exprs) dimension grammar.dims

abbrev pub joined_dimensioned : Form spec.Behind
joined_dimensioned = Form.seq (λ l f. f l) first_dimension spec.first_variable

abbrev pub behind_bracket : Form spec.Behind
behind_bracket = Form.by spec.bracketed_of

abbrev pub bracketed : Form spec.Behind
bracketed = grammar.behind (grammar.one s.LBracket) behind_bracket

-- ---- what is behind a name

abbrev pub form_behind : Behind → Form spec.Behind
form_behind b.Function = spec.function_end
form_behind (b.Either m) = Form.by (spec.ending m)

-- stars, a name and what is behind it, of this type and with these words
abbrev pub named : spec.Words → CastType → Behind → Form spec.Declaring
named w t x = grammar.applied w (grammar.applied t (spec.named (form_behind x)))

-- words that are read and have no effect
abbrev pub skipped : {A : Type 0} → Form A → Form (Unit {0})
skipped g = grammar.map (λ _. tt) g

abbrev pub norace_group : Form spec.Declaring
norace_group = Form.seq (spec.grouped true) grammar.type_form (grammar.before spec.variables (grammar.one s.Semi))

abbrev pub joined_norace : Form spec.Declaring
joined_norace = grammar.behind (grammar.one s.Norace) (grammar.behind (skipped spec.storages) norace_group)

-- ---- declarations

abbrev pub typed_end : Site → Form (CastType → spec.Declaring)
typed_end m = Form.by (spec.typed_of m)

abbrev pub typed : Site → Form spec.Declaring
typed m = grammar.with grammar.type_form (typed_end m)

abbrev pub static_typed : Form spec.Declaring
static_typed = grammar.with grammar.type_form (spec.named_in site.Module)

abbrev pub static_end : Form spec.Declaring
static_end = Form.by spec.static_of

abbrev pub joined_static : Form spec.Declaring
joined_static = grammar.behind (grammar.one s.Static) (grammar.behind (skipped spec.statics) static_end)

abbrev pub another_decl : Site → Form (List Decl → List Decl)
another_decl m = grammar.map spec.added (spec.decl m)

-- with at most so many levels
abbrev pub decl_in : ℕ → Site → Names → List Token → Answer Decl
decl_in levels m names ts = phrase production levels (Phrase.decl m) (place names ts)
