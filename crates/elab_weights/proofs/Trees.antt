-- Calls, switches and lists of bodies as plain data.
use Rattle.std.proofs.Common.{◌≡◌, ℕ, ℤ, ◌+◌, List, ◌∷◌, Option, max, map, sum_by, ap, ◌∙◌, rules}
use Rattle.std.proofs.lemmas.List.Sums.{sum_by-cons}
use Rattle.nm_base.specs.declared.pos.Pos.{Pos}
use Rattle.nesc_core.specs.declared.tree.Body.{Body}
use Rattle.nesc_core.specs.declared.tree.CoreExpr.{CoreExpr, Call}
use Rattle.nesc_core.specs.declared.tree.CoreStmt.{CoreStmt, Switch}
use Rattle.nesc_core.specs.declared.tree.CoreStmt as stmt
use Rattle.nesc_core.proofs.LevelLemmas.{call_is}
use Rattle.nesc_core.specs.Nodes.{body_nodes_of, expr_nodes_of, exprs_nodes_of, stmt_nodes_of, stmts_nodes_of}
use Rattle.nesc_core.specs.Plain as plain
use Rattle.nesc_core.specs.View.{body_of, case_of, expr_of, exprs_of, stmt_of, stmts_of}
use Rattle.nesc_core.specs.Weights.{expr_levels, stmt_atomics, stmt_levels, stmts_atomics, stmts_levels}

pub nodes_call : (e : CoreExpr) (f : ℕ) (args : List CoreExpr) (at : Pos) → e ≡ Call f args at → expr_nodes_of (expr_of e) ≡ 1 + exprs_nodes_of (exprs_of args)
nodes_call e f args at is = ap expr_nodes_of (call_is e f args at is)

pub switch_is : (s : CoreStmt) (e : CoreExpr) (cases : List (Option ℤ × ℕ)) (list : List CoreStmt) → s ≡ Switch e cases list
    → stmt_of s ≡ plain.switch (expr_of e) (map case_of cases) (stmts_of list)
switch_is s e cases list is = ap stmt_of is ∙ search (rules, stmt.the_lemmas)

pub atomics_switch : (s : CoreStmt) (e : CoreExpr) (cases : List (Option ℤ × ℕ)) (list : List CoreStmt) → s ≡ Switch e cases list
    → stmt_atomics (stmt_of s) ≡ stmts_atomics (stmts_of list)
atomics_switch s e cases list is = ap stmt_atomics (switch_is s e cases list is)

pub levels_switch : (s : CoreStmt) (e : CoreExpr) (cases : List (Option ℤ × ℕ)) (list : List CoreStmt) → s ≡ Switch e cases list
    → stmt_levels (stmt_of s) ≡ max (expr_levels (expr_of e)) (stmts_levels (stmts_of list))
levels_switch s e cases list is = ap stmt_levels (switch_is s e cases list is)

pub nodes_switch : (s : CoreStmt) (e : CoreExpr) (cases : List (Option ℤ × ℕ)) (list : List CoreStmt) → s ≡ Switch e cases list
    → stmt_nodes_of (stmt_of s) ≡ 1 + expr_nodes_of (expr_of e) + stmts_nodes_of (stmts_of list)
nodes_switch s e cases list is = ap stmt_nodes_of (switch_is s e cases list is)

pub nodes_more : (b : Body) (bs : List Body) → sum_by body_nodes_of (map body_of (b ∷ bs)) ≡ stmt_nodes_of (stmt_of b.code) + sum_by body_nodes_of (map body_of bs)
nodes_more b bs = sum_by-cons body_nodes_of (body_of b) (map body_of bs)

pub ruleset nodes = (nodes_call, nodes_switch)

pub ruleset levels = (levels_switch, atomics_switch)
