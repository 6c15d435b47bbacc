-- What was read behind the name of a function or a variable, as the grammar has it: what it makes of the words, the type and the name before it.
use Rattle.std.specs.Prelude.{ℕ, false, List, [], ◌∷◌, Option, Some, None}
use denote.Ref.{Bor}
use Rattle.nm_base.specs.declared.token.Token.{Token}
use Rattle.nesc_tree.specs.declared.declarations.Decl.TheVariants as d
use Rattle.nesc_tree.specs.declared.declarations.Init.{Init}
use Rattle.nesc_tree.specs.declared.declarations.Variable.{Variable}
use Rattle.nm_base.specs.declared.pos.Pos.{Pos}
use Rattle.nesc_tree.specs.declared.operand.CastType.{CastType}
use Rattle.nesc_tree.specs.declared.tree.Expr.{Expr}
use Rattle.nesc_tree.specs.declared.tree.TypeSpec.{TypeSpec}
use Rattle.nesc_grammar.specs.Declarations as spec
use Rattle.nesc_heads.specs.Gives.{token_in}
use Rattle.nesc_heads.specs.declared.words.Words.{Words}
use Rattle.nesc_declarations.specs.declared.ends.CallEnd.{CallEnd}
use Rattle.nesc_declarations.specs.declared.ends.FunctionRest.{FunctionRest}
use Rattle.nesc_declarations.specs.declared.ends.FirstEnd.{FirstEnd}
use Rattle.nesc_declarations.specs.declared.ends.End.{End}
use Rattle.nesc_declarations.specs.declared.ends.End.TheVariants as end
use Rattle.nesc_declarations.specs.declared.ends.Declared.{Declared}
use Rattle.nesc_declarations.specs.declared.ends.Declared.TheVariants as found

-- from the parameters on
abbrev pub called_of : CallEnd → spec.Called
called_of c item bracket = spec.called c.params c.attrs c.body item bracket

-- from the bracket on
abbrev pub function_of : FunctionRest → Option Token → spec.Behind
function_of f item = called_of f.call item f.bracket

-- a variable by its stars, its name, its dimensions and its initialiser
abbrev pub named_variable : ℕ → Token → List Expr → Option Init → Variable
named_variable stars name dims init = record { declarator = record { stars = stars; name = name.text; dims = dims }; init = init; pos = name.pos }

-- behind the dimensions of the first variable
abbrev pub first_of : FirstEnd → List Expr → spec.Behind
first_of e l w x = spec.grouped false x.ty (spec.with_init (spec.variable_at x l) e.init ∷ e.more)

abbrev pub behind_of : End → spec.Behind
behind_of (end.Function item f) = function_of f (token_in item)
behind_of (end.Variables l e) = first_of e l

-- the name of a function of its own, and no name of an interface's item
abbrev pub hidden_by : Option (List ℕ) → List ℕ → List (List ℕ)
hidden_by None text = text ∷ []
hidden_by (Some item) text = []

abbrev pub declaring_of : Declared → spec.Declaring
declaring_of (found.Type ty from) = record { decl = d.TypeOnly ty from; hides = [] }
declaring_of (found.Vars g) = record { decl = d.Vars g; hides = spec.texts g.vars }
declaring_of (found.Func head body) = record { decl = d.Func head body; hides = hidden_by head.item head.name }

-- a function of this result, with these names
abbrev pub named_function : Words → TypeSpec → List ℕ → Pos → Option (List ℕ) → FunctionRest → spec.Declaring
named_function w returns name pos item f = record {
  decl = d.Func (record { kind = w.kind; name = name; item = item; bracket = f.bracket; is_async = w.is_async; is_default = w.is_default; result = returns; params = f.call.params; attrs = f.call.attrs; pos = pos }) f.call.body;
  hides = hidden_by item name;
}

abbrev pub start : CastType → ℕ → Token → spec.Start
start t n x = record { ty = t; stars = n; name = x }

abbrev pub type_of : CastType → spec.Declaring
type_of t = record { decl = d.TypeOnly t.ty t.from; hides = [] }
