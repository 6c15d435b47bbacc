-- Trees without the places of their tokens.
use Rattle.nm_base.specs.declared.pos.Pos.{Pos}
use Rattle.nesc_tree.specs.Plain as p

abbrev pub nowhere : Pos
nowhere = record { file = 0; line = 0; col = 0 }

-- every place is this one
abbrev mutual
  pub placeless : p.Expr → p.Expr
  placeless (p.name n at) = p.name n nowhere
  placeless (p.number n at) = p.number n nowhere
  placeless (p.char n at) = p.char n nowhere
  placeless (p.null at) = p.null nowhere
  placeless (p.unique n at) = p.unique n nowhere
  placeless (p.unique_count n at) = p.unique_count n nowhere
  placeless (p.unary o e at) = p.unary o (placeless e) nowhere
  placeless (p.postfix o e at) = p.postfix o (placeless e) nowhere
  placeless (p.binary o a b at) = p.binary o (placeless a) (placeless b) nowhere
  placeless (p.assign o a b at) = p.assign o (placeless a) (placeless b) nowhere
  placeless (p.choice a b c at) = p.choice (placeless a) (placeless b) (placeless c) nowhere
  placeless (p.comma a b at) = p.comma (placeless a) (placeless b) nowhere
  placeless (p.cast t e at) = p.cast (placeless_type t) (placeless e) nowhere
  placeless (p.size_of_expr e at) = p.size_of_expr (placeless e) nowhere
  placeless (p.size_of_type t at) = p.size_of_type (placeless_type t) nowhere
  placeless (p.index a i at) = p.index (placeless a) (placeless i) nowhere
  placeless (p.member e n at) = p.member (placeless e) n nowhere
  placeless (p.arrow e n at) = p.arrow (placeless e) n nowhere
  placeless (p.call_fn f arguments at) = p.call_fn (placeless f) (placeless_exprs arguments) nowhere
  placeless (p.call_item signal element item param arguments at) = p.call_item signal element item (placeless_maybe param) (placeless_exprs arguments) nowhere
  placeless (p.port_read port at) = p.port_read (placeless port) nowhere
  placeless (p.port_write port e at) = p.port_write (placeless port) (placeless e) nowhere
  placeless (p.post n at) = p.post n nowhere

  pub placeless_exprs : p.Exprs → p.Exprs
  placeless_exprs p.no_exprs = p.no_exprs
  placeless_exprs (p.more_exprs e es) = p.more_exprs (placeless e) (placeless_exprs es)

  pub placeless_maybe : p.MaybeExpr → p.MaybeExpr
  placeless_maybe p.no_expr = p.no_expr
  placeless_maybe (p.some_expr e) = p.some_expr (placeless e)

  pub placeless_type : p.TypeSpec → p.TypeSpec
  placeless_type (p.type_spec base stars dims is_const) = p.type_spec (placeless_base base) stars (placeless_exprs dims) is_const

  pub placeless_base : p.Base → p.Base
  placeless_base p.void = p.void
  placeless_base (p.int t) = p.int t
  placeless_base (p.named n) = p.named n
  placeless_base (p.struct tag) = p.struct tag
  placeless_base (p.struct_of tag groups) = p.struct_of tag (placeless_groups groups)
  placeless_base (p.enum tag) = p.enum tag
  placeless_base (p.enum_of tag items) = p.enum_of tag (placeless_items items)

  pub placeless_groups : p.Groups → p.Groups
  placeless_groups p.no_groups = p.no_groups
  placeless_groups (p.more_groups t fields rest) = p.more_groups (placeless_type t) (placeless_declarators fields) (placeless_groups rest)

  pub placeless_declarators : p.Declarators → p.Declarators
  placeless_declarators p.no_declarators = p.no_declarators
  placeless_declarators (p.more_declarators stars name dims rest) = p.more_declarators stars name (placeless_exprs dims) (placeless_declarators rest)

  pub placeless_items : p.Items → p.Items
  placeless_items p.no_items = p.no_items
  placeless_items (p.more_items name value at rest) = p.more_items name (placeless_maybe value) nowhere (placeless_items rest)
