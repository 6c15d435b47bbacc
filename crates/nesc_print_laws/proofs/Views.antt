-- Each form of a tree as plain data.
use Rattle.std.proofs.Common.{◌≡◌, ℕ, Bool, List, map, Option, Some, None, rules}
use Rattle.std.specs.Prelude.{option_map}
use Rattle.nm_base.specs.declared.pos.Pos.{Pos}
use Rattle.nm_base.specs.declared.int_type.IntType.{IntType}
use Rattle.nesc_tree.specs.declared.tree.PreOp.{PreOp}
use Rattle.nesc_tree.specs.declared.tree.PostOp.{PostOp}
use Rattle.nesc_tree.specs.declared.tree.InOp.{InOp}
use Rattle.nesc_tree.specs.declared.tree.Expr as tree
use Rattle.nesc_tree.specs.declared.tree.TypeSpec as type
use Rattle.nesc_tree.specs.declared.tree.Base as base
use Rattle.nesc_tree.specs.declared.tree.EnumItem as enum_item
use Rattle.nesc_tree.specs.declared.tree.Declarator as declarator
use Rattle.nesc_tree.specs.declared.tree.FieldGroup as field_group
use Rattle.nesc_tree.specs.declared.tree.FieldGroup.{roll-FieldGroup}
use Rattle.nesc_tree.specs.Plain as p
use Rattle.nesc_tree.specs.View.{expr_of, spec_of, base_of, exprs, maybe_expr, groups, items, declarators}
use Rattle.nesc_print_words.specs.Trees.{item_of, declarator_of, group_of}

module _ (at : Pos) where
  pub name_view : (n : List ℕ) → expr_of (tree.Name n at) ≡ p.name n at
  name_view n = search (rules, tree.the_lemmas)

  pub number_view : (n : List ℕ) → expr_of (tree.Number n at) ≡ p.number n at
  number_view n = search (rules, tree.the_lemmas)

  pub char_view : (n : List ℕ) → expr_of (tree.Char n at) ≡ p.char n at
  char_view n = search (rules, tree.the_lemmas)

  pub null_view : expr_of (tree.Null at) ≡ p.null at
  null_view = search (rules, tree.the_lemmas)

  pub unique_view : (n : List ℕ) → expr_of (tree.Unique n at) ≡ p.unique n at
  unique_view n = search (rules, tree.the_lemmas)

  pub unique_count_view : (n : List ℕ) → expr_of (tree.UniqueCount n at) ≡ p.unique_count n at
  unique_count_view n = search (rules, tree.the_lemmas)

  pub unary_view : (o : PreOp) (a : tree.Expr) → expr_of (tree.Unary o a at) ≡ p.unary o (expr_of a) at
  unary_view o a = search (rules, tree.the_lemmas)

  pub postfix_view : (o : PostOp) (a : tree.Expr) → expr_of (tree.Postfix o a at) ≡ p.postfix o (expr_of a) at
  postfix_view o a = search (rules, tree.the_lemmas)

  pub binary_view : (o : InOp) (a b : tree.Expr) → expr_of (tree.Binary o a b at) ≡ p.binary o (expr_of a) (expr_of b) at
  binary_view o a b = search (rules, tree.the_lemmas)

  pub assign_view : (o : Option InOp) (a b : tree.Expr) → expr_of (tree.Assign o a b at) ≡ p.assign o (expr_of a) (expr_of b) at
  assign_view o a b = search (rules, tree.the_lemmas)

  pub choice_view : (a b c : tree.Expr) → expr_of (tree.Cond a b c at) ≡ p.choice (expr_of a) (expr_of b) (expr_of c) at
  choice_view a b c = search (rules, tree.the_lemmas)

  pub comma_view : (a b : tree.Expr) → expr_of (tree.Comma a b at) ≡ p.comma (expr_of a) (expr_of b) at
  comma_view a b = search (rules, tree.the_lemmas)

  pub cast_view : (t : type.TypeSpec) (a : tree.Expr) → expr_of (tree.Cast t a at) ≡ p.cast (spec_of t) (expr_of a) at
  cast_view t a = search (rules, tree.the_lemmas)

  pub size_of_expr_view : (a : tree.Expr) → expr_of (tree.SizeOfExpr a at) ≡ p.size_of_expr (expr_of a) at
  size_of_expr_view a = search (rules, tree.the_lemmas)

  pub size_of_type_view : (t : type.TypeSpec) → expr_of (tree.SizeOfType t at) ≡ p.size_of_type (spec_of t) at
  size_of_type_view t = search (rules, tree.the_lemmas)

  pub index_view : (a b : tree.Expr) → expr_of (tree.Index a b at) ≡ p.index (expr_of a) (expr_of b) at
  index_view a b = search (rules, tree.the_lemmas)

  pub member_view : (a : tree.Expr) (n : List ℕ) → expr_of (tree.Member a n at) ≡ p.member (expr_of a) n at
  member_view a n = search (rules, tree.the_lemmas)

  pub arrow_view : (a : tree.Expr) (n : List ℕ) → expr_of (tree.Arrow a n at) ≡ p.arrow (expr_of a) n at
  arrow_view a n = search (rules, tree.the_lemmas)

  pub call_fn_view : (a : tree.Expr) (l : List tree.Expr) → expr_of (tree.CallFn a l at) ≡ p.call_fn (expr_of a) (exprs (map expr_of l)) at
  call_fn_view a l = search (rules, tree.the_lemmas)

  pub call_item_view : (b : Bool) (n i : List ℕ) (o : Option tree.Expr) (l : List tree.Expr) → expr_of (tree.CallItem b n i o l at) ≡ p.call_item b n i (maybe_expr (option_map expr_of o)) (exprs (map expr_of l)) at
  call_item_view b n i o l = search (rules, tree.the_lemmas)

  pub port_read_view : (a : tree.Expr) → expr_of (tree.PortRead a at) ≡ p.port_read (expr_of a) at
  port_read_view a = search (rules, tree.the_lemmas)

  pub port_write_view : (a b : tree.Expr) → expr_of (tree.PortWrite a b at) ≡ p.port_write (expr_of a) (expr_of b) at
  port_write_view a b = search (rules, tree.the_lemmas)

  pub post_view : (n : List ℕ) → expr_of (tree.Post n at) ≡ p.post n at
  post_view n = search (rules, tree.the_lemmas)

pub void_base : base_of (base.Void) ≡ p.void
void_base = search (rules, tree.the_lemmas)

pub int_base : (t : IntType) → base_of (base.Int t) ≡ p.int t
int_base t = search (rules, tree.the_lemmas)

pub named_base : (n : List ℕ) → base_of (base.Named n) ≡ p.named n
named_base n = search (rules, tree.the_lemmas)

pub struct_base : (tag : Option (List ℕ)) → base_of (base.Struct tag None) ≡ p.struct tag
struct_base tag = search (rules, tree.the_lemmas)

pub struct_of_base : (tag : Option (List ℕ)) (l : List field_group.FieldGroup) → base_of (base.Struct tag (Some l)) ≡ p.struct_of tag (groups (map group_of l))
struct_of_base tag l = search (rules, tree.the_lemmas)

pub enum_base : (tag : Option (List ℕ)) → base_of (base.Enum tag None) ≡ p.enum tag
enum_base tag = search (rules, tree.the_lemmas)

pub enum_of_base : (tag : Option (List ℕ)) (l : List enum_item.EnumItem) → base_of (base.Enum tag (Some l)) ≡ p.enum_of tag (items (map item_of l))
enum_of_base tag l = search (rules, tree.the_lemmas)

pub spec_view : (t : type.TypeSpec) → spec_of t ≡ p.type_spec (base_of t.base) t.stars (exprs (map expr_of t.dims)) t.is_const
spec_view t = search (rules, tree.the_lemmas)

pub declarator_view : (d : declarator.Declarator) → declarator_of d ≡ (d.stars, d.name, exprs (map expr_of d.dims))
declarator_view d = search (rules, tree.the_lemmas)

pub item_view : (i : enum_item.EnumItem) → item_of i ≡ (i.name, maybe_expr (option_map expr_of i.value), i.pos)
item_view i = search (rules, tree.the_lemmas)

pub group_view : (t : type.TypeSpec) (l : List declarator.Declarator) → group_of (roll-FieldGroup (record { ty = t; fields = l })) ≡ (spec_of t, declarators (map declarator_of l))
group_view t l = search (rules, tree.the_lemmas)
