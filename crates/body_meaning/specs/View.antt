-- Trees of declarations and statements seen as plain data (own).
use Rattle.std.specs.Prelude.{ℕ, List, [], ◌∷◌, map, Option, Some, None, option_map}
use Rattle.nm_base.specs.declared.pos.Pos.{Pos}
use Rattle.nesc_tree.specs.declared.tree.Expr as expr
use Rattle.nesc_tree.specs.declared.tree.Param as param
use Rattle.nesc_tree.specs.declared.tree.TypeSpec as spec
use Rattle.nesc_tree.specs.declared.declarations.Attr as attr
use Rattle.nesc_tree.specs.declared.declarations.AttrArg as attr_arg
use Rattle.nesc_tree.specs.declared.declarations.AttrArg.TheVariants as A
use Rattle.nesc_tree.specs.declared.declarations.Decl as decl
use Rattle.nesc_tree.specs.declared.declarations.Decl.{Decl-F, fold-Decl}
use Rattle.nesc_tree.specs.declared.declarations.Decl.TheOpen as D
use Rattle.nesc_tree.specs.declared.declarations.Decl.TheFolds.{fold-Stmt}
use Rattle.nesc_tree.specs.declared.declarations.ForStart as for_start
use Rattle.nesc_tree.specs.declared.declarations.ForStart.TheVariants as F
use Rattle.nesc_tree.specs.declared.declarations.FuncHead as head
use Rattle.nesc_tree.specs.declared.declarations.Init as init
use Rattle.nesc_tree.specs.declared.declarations.Init.{Init-F, fold-Init}
use Rattle.nesc_tree.specs.declared.declarations.Init.TheOpen as I
use Rattle.nesc_tree.specs.declared.declarations.Stmt as stmt
use Rattle.nesc_tree.specs.declared.declarations.VarGroup as group
use Rattle.nesc_tree.specs.declared.declarations.Variable as variable
use Rattle.nesc_tree.specs.Plain as s
use Rattle.nesc_tree.specs.Plain.{MaybeExpr}
use Rattle.nesc_tree.specs.View.{expr_of, exprs_of, spec_of, maybe_expr}
use Rattle.body_meaning.specs.Tree as tree
use Rattle.body_meaning.specs.Tree.{Init, Inits, Variable, Attr, AttrArg, Param, Head, Decl, Start, Stmt, Stmts, MaybeStmt}

abbrev pub inits : List Init → Inits
inits [] = tree.no_inits
inits (i ∷ is) = tree.more_inits i (inits is)

abbrev pub init_layer : Init-F Init → Init
init_layer (I.One e) = tree.one (expr_of e)
init_layer (I.Many is) = tree.many (inits is)

abbrev pub init_of : init.Init → Init
init_of i = fold-Init Init init_layer i

abbrev pub variable_of : variable.Variable → Variable
variable_of v = record {
  stars = v.declarator.stars;
  name = v.declarator.name;
  dims = exprs_of v.declarator.dims;
  init = option_map init_of v.init;
  at = v.pos;
}

abbrev pub attr_arg_of : attr_arg.AttrArg → AttrArg
attr_arg_of (A.Text t) = tree.text t
attr_arg_of (A.Value e) = tree.value (expr_of e)

abbrev pub attr_of : attr.Attr → Attr
attr_of a = record { name = a.name; args = map attr_arg_of a.args }

abbrev pub param_of : param.Param → Param
param_of p = record { ty = spec_of p.ty; name = p.name }

abbrev pub head_of : head.FuncHead → Head
head_of h = record {
  kind = h.kind;
  name = h.name;
  item = h.item;
  bracket = option_map param_of h.bracket;
  is_async = h.is_async;
  is_default = h.is_default;
  result = spec_of h.result;
  params = map param_of h.params;
  attrs = map attr_of h.attrs;
  at = h.pos;
}

abbrev pub variables_of : group.VarGroup → List Variable
variables_of g = map variable_of g.vars

abbrev pub start_of : for_start.ForStart → Start
start_of F.Nothing = tree.nothing
start_of (F.Eval e) = tree.first (expr_of e)
start_of (F.Vars g) = tree.declared (spec_of g.ty) (variables_of g)

abbrev pub maybe_of : Option expr.Expr → MaybeExpr
maybe_of e = maybe_expr (option_map expr_of e)

abbrev pub stmts : List Stmt → Stmts
stmts [] = tree.no_stmts
stmts (x ∷ xs) = tree.more_stmts x (stmts xs)

abbrev pub maybe_stmt : Option Stmt → MaybeStmt
maybe_stmt None = tree.no_stmt
maybe_stmt (Some x) = tree.some_stmt x

abbrev pub decl_layer : Decl-F Decl Stmt → Decl
decl_layer (D.Typedef name t attrs at) = tree.typedef name (spec_of t) (map attr_of attrs) at
decl_layer (D.TypeOnly t at) = tree.type_only (spec_of t) at
decl_layer (D.Vars g) = tree.variables (spec_of g.ty) g.norace (variables_of g)
decl_layer (D.Func head body) = tree.function (head_of head) (maybe_stmt body)

abbrev pub stmt_layer : D.Stmt-F Decl Stmt → Stmt
stmt_layer (D.Block xs at) = tree.block (stmts xs) at
stmt_layer (D.Empty at) = tree.empty at
stmt_layer (D.Eval e at) = tree.eval (expr_of e) at
stmt_layer (D.Atomic x at) = tree.atomic x at
stmt_layer (D.If e x other at) = tree.branch (expr_of e) x (maybe_stmt other) at
stmt_layer (D.While e x at) = tree.while (expr_of e) x at
stmt_layer (D.DoWhile x e at) = tree.do_while x (expr_of e) at
stmt_layer (D.For start test step x at) = tree.for (start_of start) (maybe_of test) (maybe_of step) x at
stmt_layer (D.Switch e x at) = tree.switch (expr_of e) x at
stmt_layer (D.Case e x at) = tree.case (expr_of e) x at
stmt_layer (D.Default x at) = tree.default x at
stmt_layer (D.Break at) = tree.break at
stmt_layer (D.Continue at) = tree.continue at
stmt_layer (D.Return e at) = tree.return (maybe_of e) at
stmt_layer (D.Local d at) = tree.local d at

abbrev pub decl_of : decl.Decl → Decl
decl_of d = fold-Decl Decl Stmt decl_layer stmt_layer d

abbrev pub stmt_of : stmt.Stmt → Stmt
stmt_of x = fold-Stmt Decl Stmt decl_layer stmt_layer x
