-- The bodies of the programs, statement by statement.
use Rattle.std.proofs.Common.{◌≡◌, ℕ, zero, suc, ◌+◌, ◌<◌, ◌≤◌, ◌^◌, false, ◌⊎◌, inl, inr, List, [], ◌∷◌, ◌++◌, length, length-append, map, Option, Some, None, Box, Global, refl, sym, subst, ap, arith, rules, ◌∙◌, append_assoc}
use Rattle.std.specs.Prelude.{slice_get}
use Rattle.std.specs.List.{flat_map}
use Rattle.std.proofs.lemmas.Option.{none-some, same_Some}
use Rattle.nm_base.specs.declared.pos.Pos.{Pos}
use Rattle.nesc_core.specs.declared.tree.CoreExpr.{CoreExpr}
use Rattle.nesc_core.specs.declared.tree.CoreStmt.{CoreStmt}
use Rattle.nesc_core.specs.declared.tree.CoreExpr as expr
use Rattle.nesc_core.specs.declared.tree.CoreStmt as stmt
use Rattle.nesc_core.specs.declared.tree.Body as tree
use Rattle.nesc_core.specs.Plain as p
use Rattle.nesc_core.specs.Nodes.{stmt_nodes_of, stmts_nodes_of}
use Rattle.nesc_core.specs.Calls.{stmt_calls, stmts_calls}
use Rattle.nesc_core.specs.View.{expr_of, stmt_of, stmts_of, body_of}
use Rattle.nesc_core.proofs.NodeLemmas.{expr_of-Call}
use Rattle.call_graph.specs.Paths.{IsIn, callee}
use Rattle.call_graph.specs.Uses.{uses_of}
use Rattle.call_graph.specs.Graph.{IsCounted}
use Rattle.graph_rows.specs.Programs.{AreCalls, IsCall, IsCaller, AreCallers}
use Rattle.call_graph.proofs.Lists.{in_either}
use Rattle.call_graph.proofs.SameCalls.{stmt_same}
use Rattle.call_graph.proofs.ViewLists.{block_is}

-- ---- one statement

pub empty_call : (f : ℕ) (args : List CoreExpr) (pos : Pos) → args ≡ [] → expr_of (expr.Call f args pos) ≡ p.call f p.no_exprs pos
empty_call f args pos none = ap (λ xs. expr_of (expr.Call f xs pos)) none ∙ expr_of-Call f [] pos

eval_is : (e : CoreExpr) → stmt_of (stmt.Eval e) ≡ p.eval (expr_of e)
eval_is e = search (rules, stmt.the_lemmas)

atomic_is : (s : Box CoreStmt Global) → stmt_of (stmt.Atomic s) ≡ p.atomic (stmt_of s.value)
atomic_is s = search (rules, stmt.the_lemmas)

by_view : (count : ℕ) (s : CoreStmt) (v : p.Stmt) → stmt_of s ≡ v → stmt_nodes_of v ≤ 3 → ((g : ℕ) → IsIn g (stmt_calls v) → g < count) → IsCall count s
by_view count s v is few named = record {
  nodes = subst (λ x. stmt_nodes_of x ≤ 3) (sym is) few;
  named = λ g there. named g (subst (λ x. IsIn g (stmt_calls x)) is there);
}

only_one : (count f : ℕ) → f < count → (g : ℕ) → IsIn g (f ∷ []) → g < count
only_one count f inside g (inl same) = subst (λ k. k < count) (sym same) inside
only_one count f inside g (inr there) = absurd there

pub plain_call : (count f : ℕ) (pos : Pos) (e : CoreExpr) → expr_of e ≡ p.call f p.no_exprs pos → f < count → IsCall count (stmt.Eval e)
plain_call count f pos e is inside = by_view count (stmt.Eval e) (p.eval (p.call f p.no_exprs pos)) (eval_is e ∙ ap p.eval is) (omega arith) (only_one count f inside)

pub atomic_call : (count f : ℕ) (pos : Pos) (e : CoreExpr) (s : Box CoreStmt Global) → expr_of e ≡ p.call f p.no_exprs pos → s.value ≡ stmt.Eval e → f < count → IsCall count (stmt.Atomic s)
atomic_call count f pos e s is value inside =
    by_view count (stmt.Atomic s) (p.atomic (p.eval (p.call f p.no_exprs pos))) (atomic_is s ∙ ap (λ x. p.atomic (stmt_of x)) value ∙ ap p.atomic (eval_is e ∙ ap p.eval is)) (omega arith) (only_one count f inside)

-- ---- one more

nodes_both : (xs ys : List CoreStmt) → stmts_nodes_of (stmts_of (xs ++ ys)) ≡ stmts_nodes_of (stmts_of xs) + stmts_nodes_of (stmts_of ys)
nodes_both [] ys = omega arith
nodes_both (x ∷ xs) ys = omega (arith, nodes_both xs ys)

calls_both : (xs ys : List CoreStmt) → stmts_calls (stmts_of (xs ++ ys)) ≡ stmts_calls (stmts_of xs) ++ stmts_calls (stmts_of ys)
calls_both [] ys = refl
calls_both (x ∷ xs) ys = ap (λ z. stmt_calls (stmt_of x) ++ z) (calls_both xs ys) ∙ sym (append_assoc (stmt_calls (stmt_of x)) (stmts_calls (stmts_of xs)) (stmts_calls (stmts_of ys)))

pub no_calls : (count : ℕ) (list : List CoreStmt) → list ≡ [] → AreCalls count list
no_calls count list none = subst (AreCalls count) (sym none) (record { few = omega arith; nodes = omega arith; named = λ g there. absurd there })

pub one_more : (count : ℕ) (old new : List CoreStmt) (s : CoreStmt) → AreCalls count old → IsCall count s → length old < 1000 → new ≡ old ++ s ∷ [] → AreCalls count new
one_more count old new s are is few new_is = subst (AreCalls count) (sym new_is) (record {
  few = omega (arith, few, length-append old (s ∷ []));
  nodes = omega (arith, nodes_both old (s ∷ []), are.nodes, is.nodes, length-append old (s ∷ []));
  named = λ g there. at g (in_either g (stmts_calls (stmts_of old)) (stmt_calls (stmt_of s) ++ []) (subst (IsIn g) (calls_both old (s ∷ [])) there));
})
  where
    at_end : (g : ℕ) → IsIn g (stmt_calls (stmt_of s)) ⊎ IsIn g [] → g < count
    at_end g (inl there) = is.named g there
    at_end g (inr there) = absurd there

    at : (g : ℕ) → IsIn g (stmts_calls (stmts_of old)) ⊎ IsIn g (stmt_calls (stmt_of s) ++ []) → g < count
    at g (inl there) = are.named g there
    at g (inr there) = at_end g (in_either g (stmt_calls (stmt_of s)) [] there)

-- ---- bodies

pub caller : (count : ℕ) (list : List CoreStmt) (b : tree.Body) → AreCalls count list → b.code ≡ stmt.Block list → IsCaller count b
caller count list b are is =
    let e : stmt_of b.code ≡ p.block (stmts_of list) = block_is b.code list is in
    record {
      nodes = subst (λ s. stmt_nodes_of s < 2 ^ 32) (sym e) (omega (arith, are.nodes, are.few));
      named = λ g there. are.named g (subst (λ s. IsIn g (stmt_calls s)) e there);
    }

pub no_callers : (count : ℕ) (list : List tree.Body) → list ≡ [] → AreCallers count list
no_callers count list none = subst (AreCallers count) (sym none) tt

pub one_caller_more : (count : ℕ) (old new : List tree.Body) (b : tree.Body) → AreCallers count old → IsCaller count b → new ≡ old ++ b ∷ [] → AreCallers count new
one_caller_more count old new b are is new_is = subst (AreCallers count) (sym new_is) (both old are)
  where
    both : (bs : List tree.Body) → AreCallers count bs → AreCallers count (bs ++ b ∷ [])
    both [] are = (is, tt)
    both (x ∷ xs) are = (are.0, both xs are.1)

caller_at : (count : ℕ) (bs : List tree.Body) → AreCallers count bs → (f : ℕ) (o : Option p.Body) → slice_get (map body_of bs) f ≡ o → (b : p.Body) → o ≡ Some b
    → (stmt_nodes_of b.code < 2 ^ 32) × ((g : ℕ) → IsIn g (stmt_calls b.code) → g < count)
caller_at count [] are f o is b some = absurd (none-some b (is ∙ some))
caller_at count (x ∷ xs) are zero o is b some =
    let e : body_of x ≡ b = same_Some (body_of x) b (is ∙ some) in
    (subst (λ y. stmt_nodes_of y.code < 2 ^ 32) e are.0.nodes, subst (λ y. (g : ℕ) → IsIn g (stmt_calls y.code) → g < count) e are.0.named)
caller_at count (x ∷ xs) are (suc f) o is b some = caller_at count xs are.1 f o is b some

pub size_more : (old new : List tree.Body) (b : tree.Body) (n : ℕ) → length old ≡ n → new ≡ old ++ b ∷ [] → length new ≡ n + 1
size_more old new b n size is = omega (arith, ap length is, length-append old (b ∷ []), size)

pub counted : (count : ℕ) (whole : p.Program) (bs : List tree.Body) → whole.bodies ≡ map body_of bs → length bs ≡ count → count < 2 ^ 32 → AreCallers count bs → IsCounted whole
counted count whole bs same size small are = record {
  bodies = omega (arith, length_is, small);
  nodes = λ f b is. (caller_at count bs are f (Some b) (subst (λ xs. slice_get xs f ≡ Some b) same is) b refl).0;
  named = λ f g there. named f (slice_get whole.bodies f) refl g there;
}
  where
    length_map : (xs : List tree.Body) → length (map body_of xs) ≡ length xs
    length_map [] = refl
    length_map (x ∷ xs) = omega (arith, length_map xs)

    length_is : length whole.bodies ≡ count
    length_is = ap length same ∙ length_map bs ∙ size

    named : (f : ℕ) (o : Option p.Body) → slice_get whole.bodies f ≡ o → (g : ℕ) → IsIn g (flat_map callee (uses_of o)) → g < length whole.bodies
    named f None is g there = absurd there
    named f (Some b) is g there =
        omega (arith, length_is, (caller_at count bs are f (Some b) (subst (λ xs. slice_get xs f ≡ Some b) same is) b refl).1 g (subst (IsIn g) (sym (stmt_same b.code 0 false).by) there))

pub ruleset one_call = (plain_call, atomic_call)
