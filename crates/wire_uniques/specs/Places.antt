-- Where an expression begins.
use Rattle.std.specs.Prelude.{Bool, false, ◌&&◌, ◌||◌, nat_lt, ◌==◌}
use Rattle.nm_base.specs.declared.pos.Pos.{Pos}
use Rattle.nesc_tree.specs.Plain as p

abbrev pub pos_of : p.Expr → Pos
pos_of (p.name n at) = at
pos_of (p.number n at) = at
pos_of (p.char n at) = at
pos_of (p.null at) = at
pos_of (p.unique n at) = at
pos_of (p.unique_count n at) = at
pos_of (p.unary o e at) = at
pos_of (p.postfix o e at) = at
pos_of (p.binary o a b at) = at
pos_of (p.assign o a b at) = at
pos_of (p.choice a b c at) = at
pos_of (p.comma a b at) = at
pos_of (p.cast t e at) = at
pos_of (p.size_of_expr e at) = at
pos_of (p.size_of_type t at) = at
pos_of (p.index a i at) = at
pos_of (p.member e n at) = at
pos_of (p.arrow e n at) = at
pos_of (p.call_fn f arguments at) = at
pos_of (p.call_item signal element item param arguments at) = at
pos_of (p.port_read port at) = at
pos_of (p.port_write port e at) = at
pos_of (p.post n at) = at

-- in one file
abbrev pub is_before : Pos → Pos → Bool
is_before a b = nat_lt a.line b.line || (a.line == b.line && nat_lt a.col b.col)

abbrev pub begins_before : p.MaybeExpr → p.MaybeExpr → Bool
begins_before (p.some_expr a) (p.some_expr b) = is_before (pos_of a) (pos_of b)
begins_before a b = false
