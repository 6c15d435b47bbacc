-- What the lines of a configuration ask of creation. The implementation is one block: the names of its components and of its
-- declarations. What stands behind a refused line is not asked for.
use Rattle.std.specs.Prelude.{ℕ, List, [], ◌∷◌, length, Option, Some, None, Result, Ok, Err}
use Rattle.nm_base.specs.declared.pos.Pos.{Pos}
use Rattle.nesc_tree.specs.declared.components.ConfLine.{ConfLine}
use Rattle.nesc_tree.specs.declared.components.ConfLine.TheVariants as conf
use Rattle.nesc_tree.specs.declared.components.GenericArg.{GenericArg}
use Rattle.nesc_tree.specs.declared.declarations.Decl.{Decl, Decl-F, out-Decl}
use Rattle.nesc_tree.specs.declared.declarations.Stmt.{Stmt}
use Rattle.nesc_tree.specs.declared.declarations.Decl.TheOpen as D
use Rattle.nesc_tree.specs.View.{spec_of}
use Rattle.wire_instances.specs.declared.plan.Line.{Line}
use Rattle.wire_instances.specs.declared.plan.Line.TheVariants as line
use Rattle.wire_instances.specs.declared.plan.Unmet.{Unmet}
use Rattle.wire_instances.specs.declared.plan.Unmet.TheVariants as unmet
use Rattle.wire_units.specs.declared.loaded.Loaded.{Loaded}
use Rattle.wire_units.specs.declared.block.Block.{Block}
use Rattle.wire_units.specs.Units.{Name, component_of}
use Rattle.wire_units.specs.Scope.{◌>>=◌}
use Rattle.wire_units.specs.Block.{Blocked, name_in, type_in, nothing}

-- neither variables nor functions stand in a configuration
abbrev pub layer_in : Decl-F Decl Stmt → Block → Blocked
layer_in (D.Typedef name ty attrs pos) b = type_in pos (spec_of ty) b >>= λ more. name_in more name pos
layer_in (D.TypeOnly ty pos) b = type_in pos (spec_of ty) b
layer_in (D.Vars group) b = Ok b
layer_in (D.Func head body) b = Ok b

abbrev pub decl_in : Decl → Block → Blocked
decl_in d b = layer_in (out-Decl d) b

-- what a line asks for, and the block behind it
abbrev pub Asked : Type 0
Asked = Result (Line × Block) Unmet

abbrev pub asking : Line → Block → Asked
asking l b = Ok (l, b)

abbrev pub given : Option (List GenericArg) → Option ℕ
given None = None
given (Some args) = Some (length args)

abbrev pub with_component : Option ℕ → Option (List GenericArg) → Name → Pos → Block → Asked
with_component None args alias pos b = Err (unmet.UnknownName pos)
with_component (Some component) args alias pos b = name_in b alias pos >>= λ more. asking (line.Names component (given args) pos) more

abbrev pub asked : List Loaded → Block → ConfLine → Asked
asked units b (conf.Component name args alias pos) = with_component (component_of units name) args alias pos b
asked units b (conf.Link from to pos) = asking line.Nothing b
asked units b (conf.Equate a z pos) = asking line.Nothing b
asked units b (conf.Decl d) = decl_in d b >>= λ more. asking line.Nothing more

abbrev pub and_behind : Asked → (Block → List Line) → List Line
and_behind (Ok p) next = p.0 ∷ next p.1
and_behind (Err e) next = line.Refused e ∷ []

abbrev pub lines_from : List Loaded → Block → List ConfLine → List Line
lines_from units b [] = []
lines_from units b (l ∷ ls) = and_behind (asked units b l) (λ more. lines_from units more ls)

abbrev pub lines_of : List Loaded → List ConfLine → List Line
lines_of units ls = lines_from units nothing ls
