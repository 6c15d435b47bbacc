-- Trees of expressions and types as plain data, over which meanings are written.
use Rattle.std.specs.Prelude.{ℕ, Bool, List, Option}
use Rattle.nm_base.specs.declared.int_type.IntType.{IntType}
use Rattle.nm_base.specs.declared.pos.Pos.{Pos}
use Rattle.nesc_tree.specs.declared.tree.PreOp.{PreOp}
use Rattle.nesc_tree.specs.declared.tree.PostOp.{PostOp}
use Rattle.nesc_tree.specs.declared.tree.InOp.{InOp}

mutual
  pub data Expr : Type 0 where
    name : List ℕ → Pos → Expr
    number : List ℕ → Pos → Expr
    char : List ℕ → Pos → Expr
    null : Pos → Expr
    unique : List ℕ → Pos → Expr
    unique_count : List ℕ → Pos → Expr
    unary : PreOp → Expr → Pos → Expr
    postfix : PostOp → Expr → Pos → Expr
    binary : InOp → Expr → Expr → Pos → Expr
    assign : Option InOp → Expr → Expr → Pos → Expr
    choice : Expr → Expr → Expr → Pos → Expr
    comma : Expr → Expr → Pos → Expr
    cast : TypeSpec → Expr → Pos → Expr
    size_of_expr : Expr → Pos → Expr
    size_of_type : TypeSpec → Pos → Expr
    index : Expr → Expr → Pos → Expr
    member : Expr → List ℕ → Pos → Expr
    arrow : Expr → List ℕ → Pos → Expr
    call_fn : Expr → Exprs → Pos → Expr
    call_item : (signal : Bool) (element item : List ℕ) (param : MaybeExpr) (arguments : Exprs) (at : Pos) → Expr
    port_read : Expr → Pos → Expr
    port_write : Expr → Expr → Pos → Expr
    post : List ℕ → Pos → Expr

  pub data Exprs : Type 0 where
    no_exprs : Exprs
    more_exprs : Expr → Exprs → Exprs

  pub data MaybeExpr : Type 0 where
    no_expr : MaybeExpr
    some_expr : Expr → MaybeExpr

  pub data TypeSpec : Type 0 where
    type_spec : (base : Base) (stars : ℕ) (dims : Exprs) (is_const : Bool) → TypeSpec

  -- a struct or an enum is named, or defined with a tag or without
  pub data Base : Type 0 where
    void : Base
    int : IntType → Base
    named : List ℕ → Base
    struct : (tag : Option (List ℕ)) → Base
    struct_of : (tag : Option (List ℕ)) → Groups → Base
    enum : (tag : Option (List ℕ)) → Base
    enum_of : (tag : Option (List ℕ)) → Items → Base

  -- fields that share a type
  pub data Groups : Type 0 where
    no_groups : Groups
    more_groups : TypeSpec → Declarators → Groups → Groups

  pub data Declarators : Type 0 where
    no_declarators : Declarators
    more_declarators : (stars : ℕ) (name : List ℕ) (dims : Exprs) → Declarators → Declarators

  pub data Items : Type 0 where
    no_items : Items
    more_items : (name : List ℕ) (value : MaybeExpr) (at : Pos) → Items → Items
