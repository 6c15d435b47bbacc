-- A switch as plain data.
use Rattle.std.proofs.Common.{◌≡◌, ℕ, ℤ, ◌+◌, List, Option, max, map, ap, ◌∙◌, rules}
use Rattle.nesc_core.specs.declared.tree.CoreExpr.{CoreExpr}
use Rattle.nesc_core.specs.declared.tree.CoreStmt.{CoreStmt, Switch, the_lemmas}
use Rattle.nesc_core.specs.Nodes.{expr_nodes_of, stmt_nodes_of, stmts_nodes_of}
use Rattle.nesc_core.specs.Plain as plain
use Rattle.nesc_core.specs.View.{case_of, expr_of, stmt_of, stmts_of}
use Rattle.nesc_core.specs.Weights.{expr_levels, stmt_atomics, stmt_levels, stmts_atomics, stmts_levels}

pub switch_is : (s : CoreStmt) (e : CoreExpr) (cases : List (Option ℤ × ℕ)) (list : List CoreStmt) → s ≡ Switch e cases list
    → stmt_of s ≡ plain.switch (expr_of e) (map case_of cases) (stmts_of list)
switch_is s e cases list is = ap stmt_of is ∙ search (rules, the_lemmas)

pub atomics_switch : (s : CoreStmt) (e : CoreExpr) (cases : List (Option ℤ × ℕ)) (list : List CoreStmt) → s ≡ Switch e cases list
    → stmt_atomics (stmt_of s) ≡ stmts_atomics (stmts_of list)
atomics_switch s e cases list is = ap stmt_atomics (switch_is s e cases list is)

pub levels_switch : (s : CoreStmt) (e : CoreExpr) (cases : List (Option ℤ × ℕ)) (list : List CoreStmt) → s ≡ Switch e cases list
    → stmt_levels (stmt_of s) ≡ max (expr_levels (expr_of e)) (stmts_levels (stmts_of list))
levels_switch s e cases list is = ap stmt_levels (switch_is s e cases list is)

pub nodes_switch : (s : CoreStmt) (e : CoreExpr) (cases : List (Option ℤ × ℕ)) (list : List CoreStmt) → s ≡ Switch e cases list
    → stmt_nodes_of (stmt_of s) ≡ 1 + expr_nodes_of (expr_of e) + stmts_nodes_of (stmts_of list)
nodes_switch s e cases list is = ap stmt_nodes_of (switch_is s e cases list is)
