-- What stands in each form with two parts, one behind the other.
use Rattle.std.proofs.Common.{◌≡◌, ℕ, Bool, List, Option, Result, Ok, Err, OnOk, ◌++◌, ap, sym, ◌∙◌, rules}
use Rattle.std.proofs.lemmas.List.{append_assoc}
use Rattle.nm_base.specs.declared.pos.Pos.{Pos}
use Rattle.nesc_tree.specs.declared.tree.InOp.{InOp}
use Rattle.nesc_tree.specs.declared.tree.Expr as tree
use Rattle.nesc_tree.specs.Plain as s
use Rattle.nesc_tree.specs.View.{expr_of, exprs_of}
use Rattle.program_meaning.specs.declared.used.Use.{Use}
use Rattle.program_meaning.specs.Uses as spec
use Rattle.elab_uses.specs.Lists.{maybe_of}

-- what the second part added, behind what the first one did
pub behind : {E : Type 0} (r : Result (Unit {0}) E) (new old mid a b whole : List Use) → mid ≡ old ++ a → whole ≡ a ++ b
    → OnOk r (new ≡ mid ++ b) → OnOk r (new ≡ old ++ whole)
behind (Ok x) new old mid a b whole first is second =
    second ∙ ap (λ y. y ++ b) first ∙ append_assoc old a b ∙ ap (λ y. old ++ y) (sym is)
behind (Err e) new old mid a b whole first is second = second

module _ (whole a b x y : tree.Expr) where
  pub binary_in : (o : InOp) (at : Pos) → whole ≡ tree.Binary o a b at → x ≡ a → y ≡ b
      → spec.in_expr (expr_of whole) ≡ spec.in_expr (expr_of x) ++ spec.in_expr (expr_of y)
  binary_in o at is p q = ap (λ e. spec.in_expr (expr_of e)) is ∙ ap spec.in_expr form ∙ ap (λ e. spec.in_expr (expr_of e) ++ spec.in_expr (expr_of b)) (sym p) ∙ ap (λ e. spec.in_expr (expr_of x) ++ spec.in_expr (expr_of e)) (sym q) where
    form : expr_of (tree.Binary o a b at) ≡ s.binary o (expr_of a) (expr_of b) at
    form = search (rules, tree.the_lemmas)

  pub assign_in : (o : Option InOp) (at : Pos) → whole ≡ tree.Assign o a b at → x ≡ a → y ≡ b
      → spec.in_expr (expr_of whole) ≡ spec.in_expr (expr_of x) ++ spec.in_expr (expr_of y)
  assign_in o at is p q = ap (λ e. spec.in_expr (expr_of e)) is ∙ ap spec.in_expr form ∙ ap (λ e. spec.in_expr (expr_of e) ++ spec.in_expr (expr_of b)) (sym p) ∙ ap (λ e. spec.in_expr (expr_of x) ++ spec.in_expr (expr_of e)) (sym q) where
    form : expr_of (tree.Assign o a b at) ≡ s.assign o (expr_of a) (expr_of b) at
    form = search (rules, tree.the_lemmas)

  pub comma_in : (at : Pos) → whole ≡ tree.Comma a b at → x ≡ a → y ≡ b
      → spec.in_expr (expr_of whole) ≡ spec.in_expr (expr_of x) ++ spec.in_expr (expr_of y)
  comma_in at is p q = ap (λ e. spec.in_expr (expr_of e)) is ∙ ap spec.in_expr form ∙ ap (λ e. spec.in_expr (expr_of e) ++ spec.in_expr (expr_of b)) (sym p) ∙ ap (λ e. spec.in_expr (expr_of x) ++ spec.in_expr (expr_of e)) (sym q) where
    form : expr_of (tree.Comma a b at) ≡ s.comma (expr_of a) (expr_of b) at
    form = search (rules, tree.the_lemmas)

  pub index_in : (at : Pos) → whole ≡ tree.Index a b at → x ≡ a → y ≡ b
      → spec.in_expr (expr_of whole) ≡ spec.in_expr (expr_of x) ++ spec.in_expr (expr_of y)
  index_in at is p q = ap (λ e. spec.in_expr (expr_of e)) is ∙ ap spec.in_expr form ∙ ap (λ e. spec.in_expr (expr_of e) ++ spec.in_expr (expr_of b)) (sym p) ∙ ap (λ e. spec.in_expr (expr_of x) ++ spec.in_expr (expr_of e)) (sym q) where
    form : expr_of (tree.Index a b at) ≡ s.index (expr_of a) (expr_of b) at
    form = search (rules, tree.the_lemmas)

  pub port_write_in : (at : Pos) → whole ≡ tree.PortWrite a b at → x ≡ a → y ≡ b
      → spec.in_expr (expr_of whole) ≡ spec.in_expr (expr_of x) ++ spec.in_expr (expr_of y)
  port_write_in at is p q = ap (λ e. spec.in_expr (expr_of e)) is ∙ ap spec.in_expr form ∙ ap (λ e. spec.in_expr (expr_of e) ++ spec.in_expr (expr_of b)) (sym p) ∙ ap (λ e. spec.in_expr (expr_of x) ++ spec.in_expr (expr_of e)) (sym q) where
    form : expr_of (tree.PortWrite a b at) ≡ s.port_write (expr_of a) (expr_of b) at
    form = search (rules, tree.the_lemmas)

pub call_item_in : (whole : tree.Expr) (signal : Bool) (element item : List ℕ) (param : Option tree.Expr) (args : List tree.Expr) (at : Pos)
    → whole ≡ tree.CallItem signal element item param args at
    → spec.in_expr (expr_of whole) ≡ spec.in_maybe (maybe_of param) ++ spec.in_exprs (exprs_of args)
call_item_in whole signal element item param args at is = ap (λ e. spec.in_expr (expr_of e)) is ∙ ap spec.in_expr form where
  form : expr_of (tree.CallItem signal element item param args at) ≡ s.call_item signal element item (maybe_of param) (exprs_of args) at
  form = search (rules, tree.the_lemmas)
