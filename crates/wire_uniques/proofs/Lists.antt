-- Lists of trees, one element after the other.
use Rattle.std.proofs.Common.{◌≡◌, ℕ, suc, ◌+◌, ◌<◌, List, ◌∷◌, ◌++◌, drop, length, get_or, sym, ap, ◌∙◌, arith}
use Rattle.std.proofs.Math.Seq.{drop-cons}
use Rattle.std.proofs.Math.ListN.{drop_of_length-le}
use Rattle.nesc_tree.specs.declared.tree.Expr as tree
use Rattle.nesc_tree.specs.declared.tree.Declarator as declarator
use Rattle.nesc_tree.specs.declared.tree.EnumItem as enum_item
use Rattle.nesc_tree.specs.declared.tree.FieldGroup as field_group
use Rattle.nesc_tree.specs.View.{expr_of, exprs_of}
use Rattle.wire_uniques.specs.Expressions.{in_expr, in_exprs, in_maybe, in_type, in_names, in_groups, in_items}
use Rattle.wire_uniques.specs.Trees.{group_of, groups_of, declarator_of, declarators_of, item_of, items_of}

-- element k stands at the front of what is left
pub next_of : {A : Type 0} (xs : List A) (k : ℕ) (x : A) → k < length xs → x ≡ get_or xs k x → drop k xs ≡ x ∷ drop (k + 1) xs
next_of xs k x below is = let more : suc k ≡ k + 1 = omega arith in
    drop-cons xs k x below ∙ ap (λ y. y ∷ drop (suc k) xs) (sym is) ∙ ap (λ j. x ∷ drop j xs) more

pub exprs_next : (xs : List tree.Expr) (k : ℕ) (x : tree.Expr) → k < length xs → x ≡ get_or xs k x
    → in_exprs (exprs_of (drop k xs)) ≡ in_expr (expr_of x) ++ in_exprs (exprs_of (drop (k + 1) xs))
exprs_next xs k x below is = ap (λ ys. in_exprs (exprs_of ys)) (next_of xs k x below is)

pub groups_next : (xs : List field_group.FieldGroup) (k : ℕ) (x : field_group.FieldGroup) → k < length xs → x ≡ get_or xs k x
    → in_groups (groups_of (drop k xs)) ≡ in_type (group_of x).0 ++ (in_names (group_of x).1 ++ in_groups (groups_of (drop (k + 1) xs)))
groups_next xs k x below is = ap (λ ys. in_groups (groups_of ys)) (next_of xs k x below is)

pub names_next : (xs : List declarator.Declarator) (k : ℕ) (x : declarator.Declarator) → k < length xs → x ≡ get_or xs k x
    → in_names (declarators_of (drop k xs)) ≡ in_exprs (declarator_of x).2 ++ in_names (declarators_of (drop (k + 1) xs))
names_next xs k x below is = ap (λ ys. in_names (declarators_of ys)) (next_of xs k x below is)

pub items_next : (xs : List enum_item.EnumItem) (k : ℕ) (x : enum_item.EnumItem) → k < length xs → x ≡ get_or xs k x
    → in_items (items_of (drop k xs)) ≡ in_maybe (item_of x).1 ++ in_items (items_of (drop (k + 1) xs))
items_next xs k x below is = ap (λ ys. in_items (items_of ys)) (next_of xs k x below is)

pub ruleset lists = (exprs_next, groups_next, names_next, items_next, drop_of_length-le)
