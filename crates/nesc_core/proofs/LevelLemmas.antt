-- Calls as plain data, for levels.
use Rattle.std.proofs.Common.{◌≡◌, ℕ, ◌+◌, List, ap, ◌∙◌, rules}
use Rattle.nm_base.specs.declared.pos.Pos.{Pos}
use Rattle.nesc_core.specs.declared.tree.CoreExpr.{CoreExpr, Call}
use Rattle.nesc_core.specs.declared.tree.CoreExpr as expr
use Rattle.nesc_core.specs.Plain as plain
use Rattle.nesc_core.specs.View.{expr_of, exprs_of}
use Rattle.nesc_core.specs.Weights.{expr_levels, exprs_levels}

pub call_is : (e : CoreExpr) (f : ℕ) (args : List CoreExpr) (at : Pos) → e ≡ Call f args at → expr_of e ≡ plain.call f (exprs_of args) at
call_is e f args at is = ap expr_of is ∙ search (rules, expr.the_lemmas)

pub levels_call : (e : CoreExpr) (f : ℕ) (args : List CoreExpr) (at : Pos) → e ≡ Call f args at → expr_levels (expr_of e) ≡ 1 + exprs_levels (exprs_of args) 0
levels_call e f args at is = ap expr_levels (call_is e f args at is)

pub ruleset levels = (levels_call)
