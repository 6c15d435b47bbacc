-- Statements that have lists of statements.
use Rattle.std.proofs.Common.{◌≡◌, ℕ, ℤ, List, Option, map, sym, ap, ◌∙◌, rules}
use Rattle.nesc_core.specs.declared.tree.CoreExpr.{CoreExpr}
use Rattle.nesc_core.specs.declared.tree.CoreStmt.{CoreStmt, Block, Switch}
use Rattle.nesc_core.specs.declared.tree.CoreStmt as stmt
use Rattle.nesc_core.specs.Plain as p
use Rattle.nesc_core.specs.View.{case_of, expr_of, stmt_of, stmts_of}
use Rattle.task_queue.specs.Posting.{posting_expr, posting_stmt, posting_stmts}

block_seen : (list : List CoreStmt) → stmt_of (Block list) ≡ p.block (stmts_of list)
block_seen list = search (rules, stmt.the_lemmas)

switch_seen : (e : CoreExpr) (cases : List (Option ℤ × ℕ)) (list : List CoreStmt) → stmt_of (Switch e cases list) ≡ p.switch (expr_of e) (map case_of cases) (stmts_of list)
switch_seen e cases list = search (rules, stmt.the_lemmas)

pub block_posted : (queue : ℕ) (s : CoreStmt) (list new : List CoreStmt) → s ≡ Block list
    → stmts_of new ≡ posting_stmts queue (stmts_of list) → stmt_of (Block new) ≡ posting_stmt queue (stmt_of s)
block_posted queue s list new is same =
    block_seen new ∙ ap p.block same ∙ sym (ap (λ x. posting_stmt queue (stmt_of x)) is ∙ ap (posting_stmt queue) (block_seen list))

pub switch_posted : (queue : ℕ) (s : CoreStmt) (e e' : CoreExpr) (cases : List (Option ℤ × ℕ)) (list new : List CoreStmt) → s ≡ Switch e cases list
    → expr_of e' ≡ posting_expr queue (expr_of e) → stmts_of new ≡ posting_stmts queue (stmts_of list)
    → stmt_of (Switch e' cases new) ≡ posting_stmt queue (stmt_of s)
switch_posted queue s e e' cases list new is value same =
    switch_seen e' cases new
    ∙ ap (λ x. p.switch x (map case_of cases) (stmts_of new)) value
    ∙ ap (p.switch (posting_expr queue (expr_of e)) (map case_of cases)) same
    ∙ sym (ap (λ x. posting_stmt queue (stmt_of x)) is ∙ ap (posting_stmt queue) (switch_seen e cases list))
