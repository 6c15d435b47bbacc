-- Trees of expressions and types seen as plain data (own).
use Rattle.std.specs.Prelude.{ℕ, List, [], ◌∷◌, map, Option, Some, None}
use Rattle.nm_base.specs.declared.pos.Pos.{Pos}
use Rattle.nesc_tree.specs.declared.tree.Expr as expr
use Rattle.nesc_tree.specs.declared.tree.Expr.{Expr-F, fold-Expr}
use Rattle.nesc_tree.specs.declared.tree.Base.TheOpen as E
use Rattle.nesc_tree.specs.declared.tree.Base.TheFolds.{fold-TypeSpec, fold-Base}
use Rattle.nesc_tree.specs.declared.tree.TypeSpec as spec
use Rattle.nesc_tree.specs.declared.tree.Base as base
use Rattle.nesc_tree.specs.Plain as p
use Rattle.nesc_tree.specs.Plain.{Expr, Exprs, MaybeExpr, TypeSpec, Base, Groups, Declarators, Items}

abbrev pub exprs : List Expr → Exprs
exprs [] = p.no_exprs
exprs (e ∷ es) = p.more_exprs e (exprs es)

abbrev pub maybe_expr : Option Expr → MaybeExpr
maybe_expr None = p.no_expr
maybe_expr (Some e) = p.some_expr e

-- a declared name with its stars and dimensions
abbrev pub Declarator : Type 0
Declarator = ℕ × List ℕ × Exprs

abbrev pub declarators : List Declarator → Declarators
declarators [] = p.no_declarators
declarators (x ∷ xs) = p.more_declarators x.0 x.1 x.2 (declarators xs)

-- fields that share a type
abbrev pub Group : Type 0
Group = TypeSpec × Declarators

abbrev pub groups : List Group → Groups
groups [] = p.no_groups
groups (x ∷ xs) = p.more_groups x.0 x.1 (groups xs)

-- a constant of an enum
abbrev pub Item : Type 0
Item = List ℕ × MaybeExpr × Pos

abbrev pub items : List Item → Items
items [] = p.no_items
items (x ∷ xs) = p.more_items x.0 x.1 x.2 (items xs)

abbrev pub expr_layer : Expr-F Base Expr Declarator Item Group TypeSpec → Expr
expr_layer (E.Name n at) = p.name n at
expr_layer (E.Number n at) = p.number n at
expr_layer (E.Char n at) = p.char n at
expr_layer (E.Null at) = p.null at
expr_layer (E.Unique n at) = p.unique n at
expr_layer (E.UniqueCount n at) = p.unique_count n at
expr_layer (E.Unary op e at) = p.unary op e at
expr_layer (E.Postfix op e at) = p.postfix op e at
expr_layer (E.Binary op a b at) = p.binary op a b at
expr_layer (E.Assign op a b at) = p.assign op a b at
expr_layer (E.Cond a b c at) = p.choice a b c at
expr_layer (E.Comma a b at) = p.comma a b at
expr_layer (E.Cast t e at) = p.cast t e at
expr_layer (E.SizeOfExpr e at) = p.size_of_expr e at
expr_layer (E.SizeOfType t at) = p.size_of_type t at
expr_layer (E.Index a i at) = p.index a i at
expr_layer (E.Member e n at) = p.member e n at
expr_layer (E.Arrow e n at) = p.arrow e n at
expr_layer (E.CallFn f arguments at) = p.call_fn f (exprs arguments) at
expr_layer (E.CallItem signal element item param arguments at) = p.call_item signal element item (maybe_expr param) (exprs arguments) at
expr_layer (E.PortRead port at) = p.port_read port at
expr_layer (E.PortWrite port e at) = p.port_write port e at
expr_layer (E.Post n at) = p.post n at

abbrev pub spec_layer : E.TypeSpec-F Base Expr Declarator Item Group TypeSpec → TypeSpec
spec_layer t = p.type_spec t.base t.stars (exprs t.dims) t.is_const

abbrev pub base_layer : E.Base-F Base Expr Declarator Item Group TypeSpec → Base
base_layer E.Void = p.void
base_layer (E.Int t) = p.int t
base_layer (E.Named n) = p.named n
base_layer (E.Struct tag None) = p.struct tag
base_layer (E.Struct tag (Some fields)) = p.struct_of tag (groups fields)
base_layer (E.Enum tag None) = p.enum tag
base_layer (E.Enum tag (Some constants)) = p.enum_of tag (items constants)

abbrev pub declarator_layer : E.Declarator-F Base Expr Declarator Item Group TypeSpec → Declarator
declarator_layer x = (x.stars, x.name, exprs x.dims)

abbrev pub group_layer : E.FieldGroup-F Base Expr Declarator Item Group TypeSpec → Group
group_layer x = (x.ty, declarators x.fields)

abbrev pub item_layer : E.EnumItem-F Base Expr Declarator Item Group TypeSpec → Item
item_layer x = (x.name, maybe_expr x.value, x.pos)

abbrev pub expr_of : expr.Expr → Expr
expr_of e = fold-Expr Base Expr Declarator Item Group TypeSpec base_layer expr_layer declarator_layer item_layer group_layer spec_layer e

abbrev pub spec_of : spec.TypeSpec → TypeSpec
spec_of t = fold-TypeSpec Base Expr Declarator Item Group TypeSpec base_layer expr_layer declarator_layer item_layer group_layer spec_layer t

abbrev pub base_of : base.Base → Base
base_of b = fold-Base Base Expr Declarator Item Group TypeSpec base_layer expr_layer declarator_layer item_layer group_layer spec_layer b

abbrev pub exprs_of : List expr.Expr → Exprs
exprs_of es = exprs (map expr_of es)
