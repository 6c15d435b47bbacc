-- The uses of `unique` and `uniqueCount` in a part of a tree, each with its text and its place, in the order of the source.
use Rattle.std.specs.Prelude.{true, false, List, [], ◌∷◌, ◌++◌}
use Rattle.nesc_tree.specs.Plain as s
use Rattle.wire_uniques.specs.declared.used.Use.{Use}

abbrev pub Uses : Type 0
Uses = List Use

abbrev mutual
  pub in_expr : s.Expr → Uses
  in_expr (s.name n at) = []
  in_expr (s.number n at) = []
  in_expr (s.char n at) = []
  in_expr (s.null at) = []
  in_expr (s.unique n at) = record { text = n; at = at; is_count = false } ∷ []
  in_expr (s.unique_count n at) = record { text = n; at = at; is_count = true } ∷ []
  in_expr (s.unary o e at) = in_expr e
  in_expr (s.postfix o e at) = in_expr e
  in_expr (s.binary o a b at) = in_expr a ++ in_expr b
  in_expr (s.assign o a b at) = in_expr a ++ in_expr b
  in_expr (s.choice a b c at) = in_expr a ++ (in_expr b ++ in_expr c)
  in_expr (s.comma a b at) = in_expr a ++ in_expr b
  in_expr (s.cast t e at) = in_type t ++ in_expr e
  in_expr (s.size_of_expr e at) = in_expr e
  in_expr (s.size_of_type t at) = in_type t
  in_expr (s.index a i at) = in_expr a ++ in_expr i
  in_expr (s.member e n at) = in_expr e
  in_expr (s.arrow e n at) = in_expr e
  in_expr (s.call_fn f arguments at) = in_expr f ++ in_exprs arguments
  in_expr (s.call_item signal element item param arguments at) = in_maybe param ++ in_exprs arguments
  in_expr (s.port_read port at) = in_expr port
  in_expr (s.port_write port e at) = in_expr port ++ in_expr e
  in_expr (s.post n at) = []

  pub in_exprs : s.Exprs → Uses
  in_exprs s.no_exprs = []
  in_exprs (s.more_exprs e es) = in_expr e ++ in_exprs es

  pub in_maybe : s.MaybeExpr → Uses
  in_maybe s.no_expr = []
  in_maybe (s.some_expr e) = in_expr e

  pub in_type : s.TypeSpec → Uses
  in_type (s.type_spec base stars dims is_const) = in_base base ++ in_exprs dims

  pub in_base : s.Base → Uses
  in_base s.void = []
  in_base (s.int t) = []
  in_base (s.named n) = []
  in_base (s.struct tag) = []
  in_base (s.struct_of tag groups) = in_groups groups
  in_base (s.enum tag) = []
  in_base (s.enum_of tag items) = in_items items

  pub in_groups : s.Groups → Uses
  in_groups s.no_groups = []
  in_groups (s.more_groups t names rest) = in_type t ++ (in_names names ++ in_groups rest)

  pub in_names : s.Declarators → Uses
  in_names s.no_declarators = []
  in_names (s.more_declarators stars name dims rest) = in_exprs dims ++ in_names rest

  pub in_items : s.Items → Uses
  in_items s.no_items = []
  in_items (s.more_items name value at rest) = in_maybe value ++ in_items rest
