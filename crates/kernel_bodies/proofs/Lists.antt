-- Lists whose elements are changed one after the other.
use Rattle.std.proofs.Common.{◌≡◌, ℕ, ◌+◌, ◌<◌, ◌≤◌, List, [], ◌∷◌, ◌++◌, length, map, take, set, get_or, refl, sym, ap, ◌∙◌, rules, arith, take_all}
use Rattle.std.proofs.lemmas.List.{map_push, take-append-le, take_more, take_more_set}
use Rattle.nm_base.specs.declared.pos.Pos.{Pos}
use Rattle.nesc_core.specs.declared.tree.CoreExpr.{CoreExpr, Call}
use Rattle.nesc_core.specs.declared.tree.CoreExpr as expr
use Rattle.nesc_core.specs.declared.tree.CoreStmt.{CoreStmt}
use Rattle.nesc_core.specs.Plain.{Expr, more_exprs, Stmt, more_stmts}
use Rattle.nesc_core.specs.Plain as p
use Rattle.nesc_core.specs.View.{expr_of, exprs, exprs_of, stmt_of, stmts, stmts_of}
use Rattle.task_queue.specs.Posting.{posting_expr, posting_exprs, posting_stmt, posting_stmts}

-- one more element is changed; f sees the new ones, g the old ones
pub one_more : {A B : Type 0} (f g : A → B) (now first : List A) (i : ℕ) (x d : A) → i < length now → length now ≡ length first
    → map f (take i now) ≡ map g (take i first) → f x ≡ g (get_or first i d)
    → map f (take (i + 1) (set now i x)) ≡ map g (take (i + 1) first)
one_more f g now first i x d lt long same is =
    ap (map f) (take_more_set now i x lt)
    ∙ map_push f (take i now) x
    ∙ ap (λ l. l ++ f x ∷ []) same
    ∙ ap (λ y. map g (take i first) ++ y ∷ []) is
    ∙ sym (map_push g (take i first) (get_or first i d))
    ∙ ap (map g) (sym (take_more first i d (omega (arith, lt, long))))

-- what a vector holds whose elements were lent, as a list
pub lent : {A : Type 0} (now rest : List A) (n : ℕ) → n ≡ length now → take n (now ++ rest) ≡ now
lent now rest n is = take-append-le n now rest (omega (arith, is)) ∙ take_all n now (omega (arith, is))

-- all elements are changed
pub all_of : {A B : Type 0} (f g : A → B) (now first : List A) (i : ℕ) → length now ≤ i → length now ≡ length first
    → map f (take i now) ≡ map g (take i first) → map f now ≡ map g first
all_of f g now first i le long same = ap (map f) (sym (take_all i now le)) ∙ same ∙ ap (map g) (take_all i first (omega (arith, le, long)))

module _ (queue : ℕ) where
  exprs_posted : (es : List CoreExpr) → exprs (map (λ e. posting_expr queue (expr_of e)) es) ≡ posting_exprs queue (exprs_of es)
  exprs_posted [] = refl
  exprs_posted (e ∷ es) = ap (λ rest. more_exprs (posting_expr queue (expr_of e)) rest) (exprs_posted es)

  pub all_exprs : (now first : List CoreExpr) (i : ℕ) → length now ≤ i → length now ≡ length first
      → map expr_of (take i now) ≡ map (λ e. posting_expr queue (expr_of e)) (take i first) → exprs_of now ≡ posting_exprs queue (exprs_of first)
  all_exprs now first i le long same = ap exprs (all_of expr_of (λ e. posting_expr queue (expr_of e)) now first i le long same) ∙ exprs_posted first

  stmts_posted : (ss : List CoreStmt) → stmts (map (λ s. posting_stmt queue (stmt_of s)) ss) ≡ posting_stmts queue (stmts_of ss)
  stmts_posted [] = refl
  stmts_posted (s ∷ ss) = ap (λ rest. more_stmts (posting_stmt queue (stmt_of s)) rest) (stmts_posted ss)

  pub all_stmts : (now first : List CoreStmt) (i : ℕ) → length now ≤ i → length now ≡ length first
      → map stmt_of (take i now) ≡ map (λ s. posting_stmt queue (stmt_of s)) (take i first) → stmts_of now ≡ posting_stmts queue (stmts_of first)
  all_stmts now first i le long same = ap stmts (all_of stmt_of (λ s. posting_stmt queue (stmt_of s)) now first i le long same) ∙ stmts_posted first

pub call_seen : (f : ℕ) (args : List CoreExpr) (pos : Pos) → expr_of (Call f args pos) ≡ p.call f (exprs (map expr_of args)) pos
call_seen f args pos = search (rules, expr.the_lemmas)

pub call_posted : (queue : ℕ) (e : CoreExpr) (f : ℕ) (args new : List CoreExpr) (pos : Pos) → e ≡ Call f args pos
    → exprs_of new ≡ posting_exprs queue (exprs_of args) → expr_of (Call f new pos) ≡ posting_expr queue (expr_of e)
call_posted queue e f args new pos is same =
    call_seen f new pos
    ∙ ap (λ es. p.call f es pos) same
    ∙ sym (ap (λ x. posting_expr queue (expr_of x)) is ∙ ap (posting_expr queue) (call_seen f args pos))
