-- Lists of trees, one element after the other.
use Rattle.std.proofs.Common.{◌≡◌, ℕ, suc, ◌+◌, ◌<◌, List, ◌∷◌, ◌++◌, drop, length, get_or, sym, ap, ◌∙◌, arith}
use Rattle.std.proofs.Math.Seq.{drop-cons}
use Rattle.std.proofs.Math.ListN.{drop_of_length-le}
use Rattle.nesc_tree.specs.declared.tree.Expr as tree
use Rattle.nesc_tree.specs.declared.tree.Declarator as declarator
use Rattle.nesc_tree.specs.declared.tree.EnumItem as enum_item
use Rattle.nesc_tree.specs.declared.tree.FieldGroup as field_group
use Rattle.nesc_tree.specs.Level as level
use Rattle.nesc_tree.specs.View.{expr_of, exprs_of}
use Rattle.nesc_print_words.specs.Lexemes.{comma, word, in_brackets, semicolon}
use Rattle.nesc_print_words.specs.Expressions.{words_at, more_argument_words, dim_words, type_words, group_words, field_words, more_field_words, more_item_words, value_words, declarator_words}
use Rattle.nesc_print_words.specs.Trees.{group_of, groups_of, declarator_of, declarators_of, item_of, items_of}

-- element k stands at the front of what is left
pub next_of : {A : Type 0} (xs : List A) (k : ℕ) (x : A) → k < length xs → x ≡ get_or xs k x → drop k xs ≡ x ∷ drop (k + 1) xs
next_of xs k x below is = let more : suc k ≡ k + 1 = omega arith in
    drop-cons xs k x below ∙ ap (λ y. y ∷ drop (suc k) xs) (sym is) ∙ ap (λ j. x ∷ drop j xs) more

pub arguments_next : (xs : List tree.Expr) (k : ℕ) (x : tree.Expr) → k < length xs → x ≡ get_or xs k x
    → more_argument_words (exprs_of (drop k xs)) ≡ comma ∷ (words_at level.assignment (expr_of x) ++ more_argument_words (exprs_of (drop (k + 1) xs)))
arguments_next xs k x below is = ap (λ ys. more_argument_words (exprs_of ys)) (next_of xs k x below is)

pub dims_next : (xs : List tree.Expr) (k : ℕ) (x : tree.Expr) → k < length xs → x ≡ get_or xs k x
    → dim_words (exprs_of (drop k xs)) ≡ in_brackets (words_at level.conditional (expr_of x)) ++ dim_words (exprs_of (drop (k + 1) xs))
dims_next xs k x below is = ap (λ ys. dim_words (exprs_of ys)) (next_of xs k x below is)

pub groups_next : (xs : List field_group.FieldGroup) (k : ℕ) (x : field_group.FieldGroup) → k < length xs → x ≡ get_or xs k x
    → group_words (groups_of (drop k xs)) ≡ type_words (group_of x).0 ++ (field_words (group_of x).1 ++ semicolon ∷ group_words (groups_of (drop (k + 1) xs)))
groups_next xs k x below is = ap (λ ys. group_words (groups_of ys)) (next_of xs k x below is)

pub fields_next : (xs : List declarator.Declarator) (k : ℕ) (x : declarator.Declarator) → k < length xs → x ≡ get_or xs k x
    → more_field_words (declarators_of (drop k xs)) ≡ comma ∷ (declarator_words (declarator_of x).0 (declarator_of x).1 (dim_words (declarator_of x).2) ++ more_field_words (declarators_of (drop (k + 1) xs)))
fields_next xs k x below is = ap (λ ys. more_field_words (declarators_of ys)) (next_of xs k x below is)

pub items_next : (xs : List enum_item.EnumItem) (k : ℕ) (x : enum_item.EnumItem) → k < length xs → x ≡ get_or xs k x
    → more_item_words (items_of (drop k xs)) ≡ comma ∷ word (item_of x).0 ∷ (value_words (item_of x).1 ++ more_item_words (items_of (drop (k + 1) xs)))
items_next xs k x below is = ap (λ ys. more_item_words (items_of ys)) (next_of xs k x below is)

pub ruleset lists = (arguments_next, dims_next, groups_next, fields_next, items_next, drop_of_length-le)
