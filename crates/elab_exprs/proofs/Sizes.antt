-- How large trees are: what a walk over them calls itself with is smaller.
use Rattle.std.proofs.Common.{◌≡◌, ℕ, ◌+◌, ◌<◌, List, drop, length, get_or, ap}
use Rattle.nesc_tree.specs.declared.tree.Expr as tree
use Rattle.nesc_tree.specs.declared.tree.Declarator as declarator
use Rattle.nesc_tree.specs.declared.tree.EnumItem as enum_item
use Rattle.nesc_tree.specs.declared.tree.FieldGroup as field_group
use Rattle.nesc_tree.specs.Plain as s
use Rattle.nesc_tree.specs.View.{expr_of, exprs_of}
use Rattle.elab_forms.specs.Trees.{group_of, groups_of, declarator_of, declarators_of, item_of, items_of}
use Rattle.elab_forms.proofs.Lists.{next_of}

abbrev mutual
  pub size : s.Expr → ℕ
  size (s.name n at) = 1
  size (s.number n at) = 1
  size (s.char n at) = 1
  size (s.null at) = 1
  size (s.unique n at) = 1
  size (s.unique_count n at) = 1
  size (s.unary o e at) = 1 + size e
  size (s.postfix o e at) = 1 + size e
  size (s.binary o a b at) = 1 + size a + size b
  size (s.assign o a b at) = 1 + size a + size b
  size (s.choice a b c at) = 1 + size a + size b + size c
  size (s.comma a b at) = 1 + size a + size b
  size (s.cast t e at) = 1 + type_size t + size e
  size (s.size_of_expr e at) = 1 + size e
  size (s.size_of_type t at) = 1 + type_size t
  size (s.index a i at) = 1 + size a + size i
  size (s.member e n at) = 1 + size e
  size (s.arrow e n at) = 1 + size e
  size (s.call_fn f arguments at) = 1 + size f + sizes arguments
  size (s.call_item signal element item param arguments at) = 1 + maybe_size param + sizes arguments
  size (s.port_read port at) = 1 + size port
  size (s.port_write port e at) = 1 + size port + size e
  size (s.post n at) = 1

  pub sizes : s.Exprs → ℕ
  sizes s.no_exprs = 0
  sizes (s.more_exprs e es) = size e + sizes es

  pub maybe_size : s.MaybeExpr → ℕ
  maybe_size s.no_expr = 0
  maybe_size (s.some_expr e) = size e

  pub type_size : s.TypeSpec → ℕ
  type_size (s.type_spec base stars dims is_const) = 1 + base_size base + sizes dims

  pub base_size : s.Base → ℕ
  base_size s.void = 1
  base_size (s.int t) = 1
  base_size (s.named n) = 1
  base_size (s.struct tag) = 1
  base_size (s.struct_of tag groups) = 1 + groups_size groups
  base_size (s.enum tag) = 1
  base_size (s.enum_of tag items) = 1 + items_size items

  pub groups_size : s.Groups → ℕ
  groups_size s.no_groups = 0
  groups_size (s.more_groups t names rest) = type_size t + names_size names + groups_size rest

  pub names_size : s.Declarators → ℕ
  names_size s.no_declarators = 0
  names_size (s.more_declarators stars name dims rest) = 1 + sizes dims + names_size rest

  pub items_size : s.Items → ℕ
  items_size s.no_items = 0
  items_size (s.more_items name value at rest) = 1 + maybe_size value + items_size rest

-- ---- lists, of which the first element that is left is at k

pub sizes_next : (xs : List tree.Expr) (k : ℕ) (x : tree.Expr) → k < length xs → x ≡ get_or xs k x
    → sizes (exprs_of (drop k xs)) ≡ size (expr_of x) + sizes (exprs_of (drop (k + 1) xs))
sizes_next xs k x below is = ap (λ ys. sizes (exprs_of ys)) (next_of xs k x below is)

pub groups_size_next : (xs : List field_group.FieldGroup) (k : ℕ) (x : field_group.FieldGroup) → k < length xs → x ≡ get_or xs k x
    → groups_size (groups_of (drop k xs)) ≡ type_size (group_of x).0 + names_size (group_of x).1 + groups_size (groups_of (drop (k + 1) xs))
groups_size_next xs k x below is = ap (λ ys. groups_size (groups_of ys)) (next_of xs k x below is)

pub names_size_next : (xs : List declarator.Declarator) (k : ℕ) (x : declarator.Declarator) → k < length xs → x ≡ get_or xs k x
    → names_size (declarators_of (drop k xs)) ≡ 1 + sizes (declarator_of x).2 + names_size (declarators_of (drop (k + 1) xs))
names_size_next xs k x below is = ap (λ ys. names_size (declarators_of ys)) (next_of xs k x below is)

pub items_size_next : (xs : List enum_item.EnumItem) (k : ℕ) (x : enum_item.EnumItem) → k < length xs → x ≡ get_or xs k x
    → items_size (items_of (drop k xs)) ≡ 1 + maybe_size (item_of x).1 + items_size (items_of (drop (k + 1) xs))
items_size_next xs k x below is = ap (λ ys. items_size (items_of ys)) (next_of xs k x below is)
