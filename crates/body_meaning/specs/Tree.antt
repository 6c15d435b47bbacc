-- Trees of declarations and statements as plain data, over which meanings are written.
use Rattle.std.specs.Prelude.{ℕ, Bool, List, Option}
use Rattle.nm_base.specs.declared.pos.Pos.{Pos}
use Rattle.nesc_tree.specs.declared.declarations.FuncKind.{FuncKind}
use Rattle.nesc_tree.specs.Plain.{Expr, Exprs, MaybeExpr, TypeSpec}

-- in braces or without
mutual
  pub data Init : Type 0 where
    one : Expr → Init
    many : Inits → Init

  pub data Inits : Type 0 where
    no_inits : Inits
    more_inits : Init → Inits → Inits

-- a variable, at its name
pub record Variable : Type 0 where
  pub stars : ℕ
  pub name : List ℕ
  pub dims : Exprs
  pub init : Option Init
  pub at : Pos

-- what stands before the first `;` of a `for`
pub data Start : Type 0 where
  nothing : Start
  first : Expr → Start
  declared : TypeSpec → List Variable → Start

-- what an attribute is given
pub data AttrArg : Type 0 where
  text : List ℕ → AttrArg
  value : Expr → AttrArg

pub record Attr : Type 0 where
  pub name : List ℕ
  pub args : List AttrArg

pub record Param : Type 0 where
  pub ty : TypeSpec
  pub name : Option (List ℕ)

-- the head of a function, of a task, or of a command or event `name.item`, with the parameter of its bracket, at its name
pub record Head : Type 0 where
  pub kind : FuncKind
  pub name : List ℕ
  pub item : Option (List ℕ)
  pub bracket : Option Param
  pub is_async : Bool
  pub is_default : Bool
  pub result : TypeSpec
  pub params : List Param
  pub attrs : List Attr
  pub at : Pos

-- A declaration: the name of a type, at that name; a type alone; variables that share a type; a function, or its prototype. Each
-- statement stands at its first token
mutual
  pub data Decl : Type 0 where
    typedef : (name : List ℕ) → TypeSpec → List Attr → Pos → Decl
    type_only : TypeSpec → Pos → Decl
    variables : TypeSpec → (norace : Bool) → List Variable → Decl
    function : Head → MaybeStmt → Decl

  pub data Stmt : Type 0 where
    block : Stmts → Pos → Stmt
    empty : Pos → Stmt
    eval : Expr → Pos → Stmt
    atomic : Stmt → Pos → Stmt
    branch : Expr → Stmt → (otherwise : MaybeStmt) → Pos → Stmt
    while : Expr → Stmt → Pos → Stmt
    do_while : Stmt → Expr → Pos → Stmt
    for : Start → (test step : MaybeExpr) → Stmt → Pos → Stmt
    switch : Expr → Stmt → Pos → Stmt
    case : Expr → Stmt → Pos → Stmt
    default : Stmt → Pos → Stmt
    break : Pos → Stmt
    continue : Pos → Stmt
    return : MaybeExpr → Pos → Stmt
    local : Decl → Pos → Stmt

  pub data Stmts : Type 0 where
    no_stmts : Stmts
    more_stmts : Stmt → Stmts → Stmts

  pub data MaybeStmt : Type 0 where
    no_stmt : MaybeStmt
    some_stmt : Stmt → MaybeStmt
