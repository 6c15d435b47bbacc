-- Lists of trees, one element after the other.
use Rattle.std.proofs.Common.{◌≡◌, ℕ, ℤ, Option, Box, Global, suc, ◌+◌, ◌<◌, ◌++◌, Bool, List, [], ◌∷◌, drop, length, get_or, map, refl, sym, ap, ◌∙◌, arith, append_assoc}
use Rattle.std.proofs.Math.Seq.{drop-cons}
use Rattle.std.proofs.Math.ListN.{drop_of_length-le}
use Rattle.nesc_core.specs.declared.tree.CoreExpr.{CoreExpr}
use Rattle.nesc_core.specs.declared.tree.CoreStmt.{CoreStmt}
use Rattle.nm_base.specs.declared.pos.Pos.{Pos}
use Rattle.nesc_core.specs.declared.tree.CoreExpr as expr
use Rattle.nesc_core.specs.declared.tree.CoreStmt as stmt
use Rattle.nesc_core.specs.Plain as p
use Rattle.nesc_core.specs.Nodes.{expr_nodes_of, exprs_nodes_of, stmt_nodes_of, stmts_nodes_of}
use Rattle.nesc_core.specs.View.{expr_of, exprs_of, stmt_of, stmts_of, case_of}
use Rattle.nesc_core.proofs.NodeLemmas.{expr_of-Call, stmt_of-Block, stmt_of-Switch, stmt_of-Here}
use Rattle.call_graph.specs.Uses.{Use, expr_uses, exprs_uses, stmt_uses, stmts_uses}

-- element k stands at the front of what is left
pub next_of : {A : Type 0} (xs : List A) (k : ℕ) (x : A) → k < length xs → x ≡ get_or xs k x → drop k xs ≡ x ∷ drop (k + 1) xs
next_of xs k x below is = let more : suc k ≡ k + 1 = omega arith in
    drop-cons xs k x below ∙ ap (λ y. y ∷ drop (suc k) xs) (sym is) ∙ ap (λ j. x ∷ drop j xs) more

pub exprs_nodes_next : (xs : List CoreExpr) (k : ℕ) (x : CoreExpr) → k < length xs → x ≡ get_or xs k x
    → exprs_nodes_of (exprs_of (drop k xs)) ≡ expr_nodes_of (expr_of x) + exprs_nodes_of (exprs_of (drop (k + 1) xs))
exprs_nodes_next xs k x below is = ap (λ ys. exprs_nodes_of (exprs_of ys)) (next_of xs k x below is)

pub exprs_uses_next : (n : ℕ) (i : Bool) (xs : List CoreExpr) (k : ℕ) (x : CoreExpr) → k < length xs → x ≡ get_or xs k x
    → exprs_uses n i (exprs_of (drop k xs)) ≡ expr_uses n i (expr_of x) ++ exprs_uses (n + expr_nodes_of (expr_of x)) i (exprs_of (drop (k + 1) xs))
exprs_uses_next n i xs k x below is = ap (λ ys. exprs_uses n i (exprs_of ys)) (next_of xs k x below is)

pub stmts_nodes_next : (xs : List CoreStmt) (k : ℕ) (x : CoreStmt) → k < length xs → x ≡ get_or xs k x
    → stmts_nodes_of (stmts_of (drop k xs)) ≡ stmt_nodes_of (stmt_of x) + stmts_nodes_of (stmts_of (drop (k + 1) xs))
stmts_nodes_next xs k x below is = ap (λ ys. stmts_nodes_of (stmts_of ys)) (next_of xs k x below is)

pub stmts_uses_next : (n : ℕ) (i : Bool) (xs : List CoreStmt) (k : ℕ) (x : CoreStmt) → k < length xs → x ≡ get_or xs k x
    → stmts_uses n i (stmts_of (drop k xs)) ≡ stmt_uses n i (stmt_of x) ++ stmts_uses (n + stmt_nodes_of (stmt_of x)) i (stmts_of (drop (k + 1) xs))
stmts_uses_next n i xs k x below is = ap (λ ys. stmts_uses n i (stmts_of ys)) (next_of xs k x below is)

pub call_is : (whole : CoreExpr) (f : ℕ) (args : List CoreExpr) (at : Pos) → whole ≡ expr.Call f args at → expr_of whole ≡ p.call f (exprs_of args) at
call_is whole f args at is = ap expr_of is ∙ expr_of-Call f args at

pub block_is : (whole : CoreStmt) (list : List CoreStmt) → whole ≡ stmt.Block list → stmt_of whole ≡ p.block (stmts_of list)
block_is whole list is = ap stmt_of is ∙ stmt_of-Block list

pub switch_is : (whole : CoreStmt) (e : CoreExpr) (cases : List (Option ℤ × ℕ)) (list : List CoreStmt) → whole ≡ stmt.Switch e cases list
    → stmt_of whole ≡ p.switch (expr_of e) (map case_of cases) (stmts_of list)
switch_is whole e cases list is = ap stmt_of is ∙ stmt_of-Switch e cases list

pub here_is : (whole : CoreStmt) (args : List CoreExpr) (first count : ℕ) (body : Box CoreStmt Global) → whole ≡ stmt.Here args first count body
    → stmt_of whole ≡ p.here (exprs_of args) first count (stmt_of body.value)
here_is whole args first count body is = ap stmt_of is ∙ stmt_of-Here args first count body

-- two parts, one behind the other
pub both_listed : (old middle new xs ys : List Use) → middle ≡ old ++ xs → new ≡ middle ++ ys → new ≡ old ++ (xs ++ ys)
both_listed old middle new xs ys first second = second ∙ ap (λ us. us ++ ys) first ∙ append_assoc old xs ys

pub switch_uses : (n behind : ℕ) (i : Bool) (whole : CoreStmt) (e : CoreExpr) (cases : List (Option ℤ × ℕ)) (list : List CoreStmt) → whole ≡ stmt.Switch e cases list
    → behind ≡ n + 1 + expr_nodes_of (expr_of e) → expr_uses (n + 1) i (expr_of e) ++ stmts_uses behind i (stmts_of list) ≡ stmt_uses n i (stmt_of whole)
switch_uses n behind i whole e cases list is at =
    ap (λ k. expr_uses (n + 1) i (expr_of e) ++ stmts_uses k i (stmts_of list)) at ∙ ap (stmt_uses n i) (sym (switch_is whole e cases list is))

pub here_uses : (n behind : ℕ) (i : Bool) (whole : CoreStmt) (args : List CoreExpr) (first count : ℕ) (body : Box CoreStmt Global) (code : CoreStmt) → whole ≡ stmt.Here args first count body
    → behind ≡ n + 1 + exprs_nodes_of (exprs_of args) → code ≡ body.value → exprs_uses (n + 1) i (exprs_of args) ++ stmt_uses behind i (stmt_of code) ≡ stmt_uses n i (stmt_of whole)
here_uses n behind i whole args first count body code is at same =
    ap (λ k. exprs_uses (n + 1) i (exprs_of args) ++ stmt_uses k i (stmt_of code)) at
    ∙ ap (λ c. exprs_uses (n + 1) i (exprs_of args) ++ stmt_uses (n + 1 + exprs_nodes_of (exprs_of args)) i (stmt_of c)) same
    ∙ ap (stmt_uses n i) (sym (here_is whole args first count body is))

pub ruleset lists = (exprs_nodes_next, exprs_uses_next, stmts_nodes_next, stmts_uses_next, call_is, block_is, switch_is, here_is, drop_of_length-le)
