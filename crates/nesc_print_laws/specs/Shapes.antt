-- Trees of declarations in blocks and of statements without the places of their tokens.
use Rattle.std.specs.Prelude.{ℕ, Bool, List, [], ◌∷◌, map, Option, Some, None, option_map}
use Rattle.nesc_tree.specs.Plain as p
use Rattle.nesc_tree.specs.View.{expr_of, exprs_of, spec_of}
use Rattle.nesc_tree.specs.declared.tree.Expr as tree
use Rattle.nesc_tree.specs.declared.tree.Param as tree_param
use Rattle.nesc_tree.specs.declared.declarations.Init as tree_init
use Rattle.nesc_tree.specs.declared.declarations.Init.{Init-F, fold-Init}
use Rattle.nesc_tree.specs.declared.declarations.Init.TheOpen as I
use Rattle.nesc_tree.specs.declared.declarations.Variable as tree_variable
use Rattle.nesc_tree.specs.declared.declarations.VarGroup as tree_group
use Rattle.nesc_tree.specs.declared.declarations.Attr as tree_attr
use Rattle.nesc_tree.specs.declared.declarations.AttrArg as tree_arg
use Rattle.nesc_tree.specs.declared.declarations.AttrArg.TheVariants as given
use Rattle.nesc_tree.specs.declared.declarations.FuncHead as tree_head
use Rattle.nesc_tree.specs.declared.declarations.FuncKind.{FuncKind}
use Rattle.nesc_tree.specs.declared.declarations.ForStart as tree_start
use Rattle.nesc_tree.specs.declared.declarations.ForStart.TheVariants as begun
use Rattle.nesc_tree.specs.declared.declarations.Decl as tree_decl
use Rattle.nesc_tree.specs.declared.declarations.Decl.{Decl-F, fold-Decl}
use Rattle.nesc_tree.specs.declared.declarations.Decl.TheFolds.{fold-Stmt}
use Rattle.nesc_tree.specs.declared.declarations.Decl.TheOpen as D
use Rattle.nesc_tree.specs.declared.declarations.Stmt as tree_stmt
use Rattle.nesc_print_laws.specs.Placeless.{placeless, placeless_exprs, placeless_type}

mutual
  pub data Init : Type 0 where
    one : p.Expr → Init
    many : Inits → Init

  pub data Inits : Type 0 where
    no_inits : Inits
    more_inits : Init → Inits → Inits

pub record Variable : Type 0 where
  pub stars : ℕ
  pub name : List ℕ
  pub dims : p.Exprs
  pub init : Option Init

pub record Group : Type 0 where
  pub ty : p.TypeSpec
  pub norace : Bool
  pub variables : List Variable

pub data Start : Type 0 where
  nothing : Start
  eval : p.Expr → Start
  variables : Group → Start

pub data AttrArg : Type 0 where
  text : List ℕ → AttrArg
  value : p.Expr → AttrArg

pub record Attr : Type 0 where
  pub name : List ℕ
  pub args : List AttrArg

pub record Param : Type 0 where
  pub ty : p.TypeSpec
  pub name : Option (List ℕ)

pub record Head : Type 0 where
  pub kind : FuncKind
  pub name : List ℕ
  pub item : Option (List ℕ)
  pub bracket : Option Param
  pub is_async : Bool
  pub is_default : Bool
  pub result : p.TypeSpec
  pub params : List Param
  pub attrs : List Attr

mutual
  pub data Decl : Type 0 where
    type_name : List ℕ → p.TypeSpec → List Attr → Decl
    type_only : p.TypeSpec → Decl
    variables : Group → Decl
    function : Head → MaybeStmt → Decl

  pub data Stmt : Type 0 where
    block : Stmts → Stmt
    empty : Stmt
    eval : p.Expr → Stmt
    atomic : Stmt → Stmt
    branch : p.Expr → Stmt → (otherwise : MaybeStmt) → Stmt
    while : p.Expr → Stmt → Stmt
    do_while : Stmt → p.Expr → Stmt
    for : Start → (test step : Option p.Expr) → Stmt → Stmt
    switch : p.Expr → Stmt → Stmt
    case : p.Expr → Stmt → Stmt
    default : Stmt → Stmt
    break : Stmt
    continue : Stmt
    return : Option p.Expr → Stmt
    local : Decl → Stmt

  pub data Stmts : Type 0 where
    no_stmts : Stmts
    more_stmts : Stmt → Stmts → Stmts

  pub data MaybeStmt : Type 0 where
    no_stmt : MaybeStmt
    some_stmt : Stmt → MaybeStmt

-- ---- the shape of a tree

abbrev pub expr_shape : tree.Expr → p.Expr
expr_shape e = placeless (expr_of e)

abbrev pub inits : List Init → Inits
inits [] = Inits.no_inits
inits (x ∷ xs) = Inits.more_inits x (inits xs)

abbrev pub init_layer : Init-F Init → Init
init_layer (I.One e) = Init.one (expr_shape e)
init_layer (I.Many xs) = Init.many (inits xs)

abbrev pub init_shape : tree_init.Init → Init
init_shape x = fold-Init Init init_layer x

abbrev pub variable_shape : tree_variable.Variable → Variable
variable_shape v = record { stars = v.declarator.stars; name = v.declarator.name; dims = placeless_exprs (exprs_of v.declarator.dims); init = option_map init_shape v.init }

abbrev pub group_shape : tree_group.VarGroup → Group
group_shape g = record { ty = placeless_type (spec_of g.ty); norace = g.norace; variables = map variable_shape g.vars }

abbrev pub start_shape : tree_start.ForStart → Start
start_shape begun.Nothing = Start.nothing
start_shape (begun.Eval e) = Start.eval (expr_shape e)
start_shape (begun.Vars g) = Start.variables (group_shape g)

abbrev pub arg_shape : tree_arg.AttrArg → AttrArg
arg_shape (given.Text literal) = AttrArg.text literal
arg_shape (given.Value e) = AttrArg.value (expr_shape e)

abbrev pub attr_shape : tree_attr.Attr → Attr
attr_shape a = record { name = a.name; args = map arg_shape a.args }

abbrev pub param_shape : tree_param.Param → Param
param_shape x = record { ty = placeless_type (spec_of x.ty); name = x.name }

abbrev pub head_shape : tree_head.FuncHead → Head
head_shape h = record {
  kind = h.kind;
  name = h.name;
  item = h.item;
  bracket = option_map param_shape h.bracket;
  is_async = h.is_async;
  is_default = h.is_default;
  result = placeless_type (spec_of h.result);
  params = map param_shape h.params;
  attrs = map attr_shape h.attrs;
}

abbrev pub stmts : List Stmt → Stmts
stmts [] = Stmts.no_stmts
stmts (x ∷ xs) = Stmts.more_stmts x (stmts xs)

abbrev pub maybe_stmt : Option Stmt → MaybeStmt
maybe_stmt None = MaybeStmt.no_stmt
maybe_stmt (Some x) = MaybeStmt.some_stmt x

abbrev pub decl_layer : Decl-F Decl Stmt → Decl
decl_layer (D.Typedef name t attrs at) = Decl.type_name name (placeless_type (spec_of t)) (map attr_shape attrs)
decl_layer (D.TypeOnly t at) = Decl.type_only (placeless_type (spec_of t))
decl_layer (D.Vars g) = Decl.variables (group_shape g)
decl_layer (D.Func h body) = Decl.function (head_shape h) (maybe_stmt body)

abbrev pub stmt_layer : D.Stmt-F Decl Stmt → Stmt
stmt_layer (D.Block xs at) = Stmt.block (stmts xs)
stmt_layer (D.Empty at) = Stmt.empty
stmt_layer (D.Eval e at) = Stmt.eval (expr_shape e)
stmt_layer (D.Atomic x at) = Stmt.atomic x
stmt_layer (D.If e x z at) = Stmt.branch (expr_shape e) x (maybe_stmt z)
stmt_layer (D.While e x at) = Stmt.while (expr_shape e) x
stmt_layer (D.DoWhile x e at) = Stmt.do_while x (expr_shape e)
stmt_layer (D.For begin test step body at) = Stmt.for (start_shape begin) (option_map expr_shape test) (option_map expr_shape step) body
stmt_layer (D.Switch e x at) = Stmt.switch (expr_shape e) x
stmt_layer (D.Case e x at) = Stmt.case (expr_shape e) x
stmt_layer (D.Default x at) = Stmt.default x
stmt_layer (D.Break at) = Stmt.break
stmt_layer (D.Continue at) = Stmt.continue
stmt_layer (D.Return e at) = Stmt.return (option_map expr_shape e)
stmt_layer (D.Local d at) = Stmt.local d

abbrev pub decl_shape : tree_decl.Decl → Decl
decl_shape d = fold-Decl Decl Stmt decl_layer stmt_layer d

abbrev pub stmt_shape : tree_stmt.Stmt → Stmt
stmt_shape x = fold-Stmt Decl Stmt decl_layer stmt_layer x
