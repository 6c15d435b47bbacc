-- How many struct definitions end in a part of a tree, so that a struct's number is known in its own fields (own: structs are
-- numbered at the ends of their definitions).
use Rattle.std.specs.Prelude.{ℕ, suc, ◌+◌}
use Rattle.nesc_tree.specs.Plain as s

abbrev mutual
  pub ends_in : s.Expr → ℕ
  ends_in (s.name n at) = 0
  ends_in (s.number n at) = 0
  ends_in (s.char n at) = 0
  ends_in (s.null at) = 0
  ends_in (s.unique n at) = 0
  ends_in (s.unique_count n at) = 0
  ends_in (s.unary o e at) = ends_in e
  ends_in (s.postfix o e at) = ends_in e
  ends_in (s.binary o a b at) = ends_in a + ends_in b
  ends_in (s.assign o a b at) = ends_in a + ends_in b
  ends_in (s.choice a b c at) = ends_in a + (ends_in b + ends_in c)
  ends_in (s.comma a b at) = ends_in a + ends_in b
  ends_in (s.cast t e at) = ends_in_type t + ends_in e
  ends_in (s.size_of_expr e at) = ends_in e
  ends_in (s.size_of_type t at) = ends_in_type t
  ends_in (s.index a i at) = ends_in a + ends_in i
  ends_in (s.member e n at) = ends_in e
  ends_in (s.arrow e n at) = ends_in e
  ends_in (s.call_fn f arguments at) = ends_in_all arguments
  ends_in (s.call_item signal element item param arguments at) = ends_in_maybe param + ends_in_all arguments
  ends_in (s.port_read port at) = ends_in port
  ends_in (s.port_write port e at) = ends_in port + ends_in e
  ends_in (s.post n at) = 0

  pub ends_in_all : s.Exprs → ℕ
  ends_in_all s.no_exprs = 0
  ends_in_all (s.more_exprs e es) = ends_in e + ends_in_all es

  pub ends_in_maybe : s.MaybeExpr → ℕ
  ends_in_maybe s.no_expr = 0
  ends_in_maybe (s.some_expr e) = ends_in e

  pub ends_in_type : s.TypeSpec → ℕ
  ends_in_type (s.type_spec base stars dims is_const) = ends_in_base base + ends_in_all dims

  pub ends_in_base : s.Base → ℕ
  ends_in_base s.void = 0
  ends_in_base (s.int t) = 0
  ends_in_base (s.named n) = 0
  ends_in_base (s.struct tag) = 0
  ends_in_base (s.struct_of tag groups) = suc (ends_in_groups groups)
  ends_in_base (s.enum tag) = 0
  ends_in_base (s.enum_of tag items) = ends_in_items items

  pub ends_in_groups : s.Groups → ℕ
  ends_in_groups s.no_groups = 0
  ends_in_groups (s.more_groups t names rest) = ends_in_type t + (ends_in_names names + ends_in_groups rest)

  pub ends_in_names : s.Declarators → ℕ
  ends_in_names s.no_declarators = 0
  ends_in_names (s.more_declarators stars name dims rest) = ends_in_all dims + ends_in_names rest

  pub ends_in_items : s.Items → ℕ
  ends_in_items s.no_items = 0
  ends_in_items (s.more_items name value at rest) = ends_in_maybe value + ends_in_items rest
