-- Source trees as they are read: fields that share a type have dimensions beside their names alone (C99, 6.7.2.1).
use Rattle.std.specs.Prelude.{⊤, ◌≡◌}
use Rattle.nesc_tree.specs.Plain as s

abbrev mutual
  pub HasPlainGroups : s.Expr → Type 0
  HasPlainGroups (s.name n at) = ⊤
  HasPlainGroups (s.number n at) = ⊤
  HasPlainGroups (s.char n at) = ⊤
  HasPlainGroups (s.null at) = ⊤
  HasPlainGroups (s.unique n at) = ⊤
  HasPlainGroups (s.unique_count n at) = ⊤
  HasPlainGroups (s.unary o e at) = HasPlainGroups e
  HasPlainGroups (s.postfix o e at) = HasPlainGroups e
  HasPlainGroups (s.binary o a b at) = HasPlainGroups a × HasPlainGroups b
  HasPlainGroups (s.assign o a b at) = HasPlainGroups a × HasPlainGroups b
  HasPlainGroups (s.choice a b c at) = HasPlainGroups a × HasPlainGroups b × HasPlainGroups c
  HasPlainGroups (s.comma a b at) = HasPlainGroups a × HasPlainGroups b
  HasPlainGroups (s.cast t e at) = TypeHasPlainGroups t × HasPlainGroups e
  HasPlainGroups (s.size_of_expr e at) = HasPlainGroups e
  HasPlainGroups (s.size_of_type t at) = TypeHasPlainGroups t
  HasPlainGroups (s.index a i at) = HasPlainGroups a × HasPlainGroups i
  HasPlainGroups (s.member e n at) = HasPlainGroups e
  HasPlainGroups (s.arrow e n at) = HasPlainGroups e
  HasPlainGroups (s.call_fn f arguments at) = AllHavePlainGroups arguments
  HasPlainGroups (s.call_item signal owner item param arguments at) = MaybeHasPlainGroups param × AllHavePlainGroups arguments
  HasPlainGroups (s.port_read port at) = HasPlainGroups port
  HasPlainGroups (s.port_write port e at) = HasPlainGroups port × HasPlainGroups e
  HasPlainGroups (s.post n at) = ⊤

  pub AllHavePlainGroups : s.Exprs → Type 0
  AllHavePlainGroups s.no_exprs = ⊤
  AllHavePlainGroups (s.more_exprs e es) = HasPlainGroups e × AllHavePlainGroups es

  pub MaybeHasPlainGroups : s.MaybeExpr → Type 0
  MaybeHasPlainGroups s.no_expr = ⊤
  MaybeHasPlainGroups (s.some_expr e) = HasPlainGroups e

  pub TypeHasPlainGroups : s.TypeSpec → Type 0
  TypeHasPlainGroups (s.type_spec base stars dims is_const) = BaseHasPlainGroups base × AllHavePlainGroups dims

  pub BaseHasPlainGroups : s.Base → Type 0
  BaseHasPlainGroups s.void = ⊤
  BaseHasPlainGroups (s.int t) = ⊤
  BaseHasPlainGroups (s.named n) = ⊤
  BaseHasPlainGroups (s.struct tag) = ⊤
  BaseHasPlainGroups (s.struct_of tag groups) = ArePlainGroups groups
  BaseHasPlainGroups (s.enum tag) = ⊤
  BaseHasPlainGroups (s.enum_of tag items) = ItemsHavePlainGroups items

  pub ArePlainGroups : s.Groups → Type 0
  ArePlainGroups s.no_groups = ⊤
  ArePlainGroups (s.more_groups (s.type_spec base stars dims is_const) names rest) =
      (dims ≡ s.no_exprs) × BaseHasPlainGroups base × NamesHavePlainGroups names × ArePlainGroups rest

  pub NamesHavePlainGroups : s.Declarators → Type 0
  NamesHavePlainGroups s.no_declarators = ⊤
  NamesHavePlainGroups (s.more_declarators stars name dims rest) = AllHavePlainGroups dims × NamesHavePlainGroups rest

  pub ItemsHavePlainGroups : s.Items → Type 0
  ItemsHavePlainGroups s.no_items = ⊤
  ItemsHavePlainGroups (s.more_items name value at rest) = MaybeHasPlainGroups value × ItemsHavePlainGroups rest
