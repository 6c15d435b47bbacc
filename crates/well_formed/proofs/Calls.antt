-- The nodes and levels of calls.
use Rattle.std.proofs.Common.{◌≡◌, ℕ, ◌+◌, List, ap, sym, subst, ◌∙◌, rules}
use Rattle.nm_base.specs.declared.pos.Pos.{Pos}
use Rattle.nesc_core.specs.declared.tree.CoreExpr.{CoreExpr, Call, the_lemmas}
use Rattle.nesc_core.specs.Nodes.{expr_nodes_of, exprs_nodes_of}
use Rattle.nesc_core.specs.Plain.{Ty, Program}
use Rattle.nesc_core.specs.Plain as plain
use Rattle.nesc_core.specs.Typing.{Has}
use Rattle.nesc_core.specs.View.{expr_of, exprs_of}
use Rattle.nesc_core.specs.Weights.{expr_levels, exprs_levels}

pub call_is : (e : CoreExpr) (f : ℕ) (args : List CoreExpr) (at : Pos) → e ≡ Call f args at → expr_of e ≡ plain.call f (exprs_of args) at
call_is e f args at is = ap expr_of is ∙ search (rules, the_lemmas)

pub levels_call : (e : CoreExpr) (f : ℕ) (args : List CoreExpr) (at : Pos) → e ≡ Call f args at → expr_levels (expr_of e) ≡ 1 + exprs_levels (exprs_of args) 0
levels_call e f args at is = ap expr_levels (call_is e f args at is)

pub nodes_call : (e : CoreExpr) (f : ℕ) (args : List CoreExpr) (at : Pos) → e ≡ Call f args at → expr_nodes_of (expr_of e) ≡ 1 + exprs_nodes_of (exprs_of args)
nodes_call e f args at is = ap expr_nodes_of (call_is e f args at is)

pub call_has : (p : Program) (types : List Ty) (e : CoreExpr) (f : ℕ) (args : List CoreExpr) (at : Pos) (t : Ty) → e ≡ Call f args at
    → ((behind : Pos) → Has p types (plain.call f (exprs_of args) behind) t) → Has p types (expr_of e) t
call_has p types e f args at t is has = subst (λ x. Has p types x t) (sym (call_is e f args at is)) (has at)
