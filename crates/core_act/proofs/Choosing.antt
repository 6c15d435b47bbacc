-- What comes next where a value, a way out of a statement or the turns that are left decide it.
use Rattle.std.proofs.Common.{◌≡◌, ◌∙◌, ◌<◌, ◌≤◌, ◌+◌, ◌-◌, ◌*◌, ap, sym, subst, refl, arith, ℕ, ℤ, zero, suc, Bool, true, false, Option, Some, None, List, [], ◌∷◌, ◌++◌, drop, length, map, Box, Global}
use Rattle.std.specs.Prelude.{pos, if◌then◌else◌, not}
use denote.Ref.{Bor}
use Rattle.nm_base.specs.declared.action.Action.TheVariants as action
use Rattle.nm_base.specs.Behaviour.{Behaviour, Cut}
use Rattle.nesc_core.specs.declared.tree.CoreExpr.{CoreExpr}
use Rattle.nesc_core.specs.declared.tree.CoreStmt.{CoreStmt}
use Rattle.nesc_core.specs.Plain as plain
use Rattle.nesc_core.specs.View.{case_of, expr_of, exprs_of, maybe_expr_of, stmt_of, stmts_of}
use Rattle.core_meaning.specs.declared.access.Where.{Where}
use Rattle.core_meaning.specs.declared.flow.Flow.{Flow}
use Rattle.core_meaning.specs.declared.flow.Flow.TheVariants.{On}
use Rattle.core_meaning.specs.Flow.{on, again, turns, turn, from_case, start_of_value, start_of_default}
use Rattle.core_meaning.specs.Numbers.{is_zero}
use Rattle.core_meaning.specs.Work.{Locals, Work, give}
use Rattle.core_meaning.specs.Act.{tested}
use Rattle.core_act.specs.declared.log.Log.{Log}
use Rattle.core_act.specs.declared.scope.Scope.{Scope}
use Rattle.core_act.specs.declared.task.Loop.{Loop}
use Rattle.core_act.specs.declared.task.Task.{Task}
use Rattle.core_act.specs.declared.task.Task.TheVariants as task
use Rattle.core_act.specs.declared.task.Operation.TheVariants as operation
use Rattle.core_act.specs.declared.task.Logical.{Logical}
use Rattle.core_act.specs.declared.task.Logical.TheVariants as logical
use Rattle.core_act.specs.declared.task.Way.TheVariants as way
use Rattle.core_act.specs.declared.task.Stage.TheVariants as stage
use Rattle.core_act.specs.Evaluable.{AllRunnable, Runnable}
use Rattle.core_act.specs.Moves.{Moves, OpensStep}
use Rattle.core_act.specs.Remaining.{Safe, behind_body, behind_test, remaining, turns_in}
use Rattle.core_act.specs.Scopes.{program_in, types_in}
use Rattle.core_act.specs.Stacks.{below, top}
use Rattle.core_act.specs.Steps.{calls_from, stage_steps, steps_left, stmt_steps, stmts_steps, turn_steps}
use Rattle.core_act.specs.Told.{all_actions, from_start}
use Rattle.core_act.specs.Walks.{done_in, left_or, run_in, run_from_in, value_in}

-- nothing is done
pub moves : {s : Scope} {t : Task} {ts us us' : List Task} {vs xs xs' : List ℤ} {fs gs gs' : List Flow} (log : Log)
    → ((ws : List Where) (locals : Locals) → remaining s (t ∷ ts) vs ws fs locals ≡ remaining s us xs ws gs locals)
    → ((ws : List Where) → Safe s (t ∷ ts) ws → Safe s us ws) → steps_left s us < steps_left s (t ∷ ts)
    → us' ≡ us → xs' ≡ xs → gs' ≡ gs → Moves s t ts vs fs log us' xs' gs' log
moves {s = s} {t = t} {ts = ts} {us = us} {vs = vs} {xs = xs} {xs' = xs'} {fs = fs} {gs = gs} {gs' = gs'} log same safe falls u x g =
    subst (λ us. Moves s t ts vs fs log us xs' gs' log) (sym u)
    (subst (λ xs. Moves s t ts vs fs log us xs gs' log) (sym x)
    (subst (λ gs. Moves s t ts vs fs log us xs gs log) (sym g)
    (record { same = λ ws locals. ap (all_actions log) (same ws locals); safe = safe; falls = falls })))

-- no item
pub no_items : {A : Type 0} (xs : List A) → length xs ≡ 0 → xs ≡ []
no_items [] is = refl
no_items (x ∷ xs) is = absurd (omega (arith, is))

module _ {s : Scope} {ts us : List Task} {vs xs : List ℤ} {fs : List Flow} {log : Log} where
  -- ---- logical operators

  pub as_second : {o p : Logical} {b : Bor CoreExpr} → o ≡ p → Moves s (task.Second p b) ts vs fs log us xs fs log → Moves s (task.Second o b) ts vs fs log us xs fs log
  as_second {b = b} is h = subst (λ o. Moves s (task.Second o b) ts vs fs log us xs fs log) (sym is) h

  pub and_decided : (b : Bor CoreExpr) → is_zero (top (pos 0) vs) ≡ true → us ≡ task.Operate (operation.Give (pos 0)) ∷ ts → xs ≡ below vs
      → Moves s (task.Second logical.And b) ts vs fs log us xs fs log
  and_decided b z u x =
      moves log (λ ws locals. ap (λ t. (if t then give (pos 0) else tested (value_in s (expr_of b.now))) (λ v. remaining s ts (v ∷ below vs) ws fs) locals) z)
      (λ ws h. (tt, h.1)) (omega arith) u x refl

  pub and_goes_on : (b : Bor CoreExpr) → is_zero (top (pos 0) vs) ≡ false → us ≡ task.Value b ∷ task.Operate operation.Truth ∷ ts → xs ≡ below vs
      → Moves s (task.Second logical.And b) ts vs fs log us xs fs log
  and_goes_on b z u x =
      moves log (λ ws locals. ap (λ t. (if t then give (pos 0) else tested (value_in s (expr_of b.now))) (λ v. remaining s ts (v ∷ below vs) ws fs) locals) z)
      (λ ws h. (h.0, (tt, h.1))) (omega arith) u x refl

  pub or_decided : (b : Bor CoreExpr) → is_zero (top (pos 0) vs) ≡ false → us ≡ task.Operate (operation.Give (pos 1)) ∷ ts → xs ≡ below vs
      → Moves s (task.Second logical.Or b) ts vs fs log us xs fs log
  or_decided b z u x =
      moves log (λ ws locals. ap (λ t. (if t then tested (value_in s (expr_of b.now)) else give (pos 1)) (λ v. remaining s ts (v ∷ below vs) ws fs) locals) z)
      (λ ws h. (tt, h.1)) (omega arith) u x refl

  pub or_goes_on : (b : Bor CoreExpr) → is_zero (top (pos 0) vs) ≡ true → us ≡ task.Value b ∷ task.Operate operation.Truth ∷ ts → xs ≡ below vs
      → Moves s (task.Second logical.Or b) ts vs fs log us xs fs log
  or_goes_on b z u x =
      moves log (λ ws locals. ap (λ t. (if t then tested (value_in s (expr_of b.now)) else give (pos 1)) (λ v. remaining s ts (v ∷ below vs) ws fs) locals) z)
      (λ ws h. (h.0, (tt, h.1))) (omega arith) u x refl

  -- ---- one of two

  pub first_value : (a b : Bor CoreExpr) → is_zero (top (pos 0) vs) ≡ false → us ≡ task.Value a ∷ ts → xs ≡ below vs → Moves s (task.Cond a b) ts vs fs log us xs fs log
  first_value a b z u x =
      moves log (λ ws locals. ap (λ t. (if t then value_in s (expr_of b.now) else value_in s (expr_of a.now)) (λ v. remaining s ts (v ∷ below vs) ws fs) locals) z)
      (λ ws h. (h.0, h.2)) (omega arith) u x refl

  pub second_value : (a b : Bor CoreExpr) → is_zero (top (pos 0) vs) ≡ true → us ≡ task.Value b ∷ ts → xs ≡ below vs → Moves s (task.Cond a b) ts vs fs log us xs fs log
  second_value a b z u x =
      moves log (λ ws locals. ap (λ t. (if t then value_in s (expr_of b.now) else value_in s (expr_of a.now)) (λ v. remaining s ts (v ∷ below vs) ws fs) locals) z)
      (λ ws h. (h.1, h.2)) (omega arith) u x refl

  pub first_statement : (a b : Bor (Box CoreStmt Global)) (c : Bor CoreStmt) → c.now ≡ a.now.value → is_zero (top (pos 0) vs) ≡ false → us ≡ task.Run c ∷ ts → xs ≡ below vs
      → Moves s (task.If a b) ts vs fs log us xs fs log
  first_statement a b c is z u x =
      moves log (λ ws locals. ap (λ t. (if t then run_in s (stmt_of b.now.value) else run_in s (stmt_of a.now.value)) (λ f. remaining s ts (below vs) ws (f ∷ fs)) locals) z
      ∙ ap (λ a. run_in s (stmt_of a) (λ f. remaining s ts (below vs) ws (f ∷ fs)) locals) (sym is))
      (λ ws h. (subst (λ a. Runnable (program_in s) (types_in s) (stmt_of a)) (sym is) h.0, h.2)) (let k = ap (λ a. stmt_steps (calls_from s) s.turns (stmt_of a)) is in omega (arith, k)) u x refl

  pub second_statement : (a b : Bor (Box CoreStmt Global)) (c : Bor CoreStmt) → c.now ≡ b.now.value → is_zero (top (pos 0) vs) ≡ true → us ≡ task.Run c ∷ ts → xs ≡ below vs
      → Moves s (task.If a b) ts vs fs log us xs fs log
  second_statement a b c is z u x =
      moves log (λ ws locals. ap (λ t. (if t then run_in s (stmt_of b.now.value) else run_in s (stmt_of a.now.value)) (λ f. remaining s ts (below vs) ws (f ∷ fs)) locals) z
      ∙ ap (λ a. run_in s (stmt_of a) (λ f. remaining s ts (below vs) ws (f ∷ fs)) locals) (sym is))
      (λ ws h. (subst (λ a. Runnable (program_in s) (types_in s) (stmt_of a)) (sym is) h.1, h.2)) (let k = ap (λ a. stmt_steps (calls_from s) s.turns (stmt_of a)) is in omega (arith, k)) u x refl

-- ---- cases

from_drop : (s : Scope) (xs : List CoreStmt) (k : ℕ) → run_from_in s (stmts_of xs) k ≡ run_from_in s (stmts_of (drop k xs)) 0
unfolding run_from_in
from_drop s [] zero = refl
from_drop s [] (suc k) = refl
from_drop s (x ∷ xs) zero = refl
from_drop s (x ∷ xs) (suc k) = from_drop s xs k

drop_steps : (s : Scope) (xs : List CoreStmt) (k : ℕ) → stmts_steps (calls_from s) s.turns (stmts_of (drop k xs)) ≤ stmts_steps (calls_from s) s.turns (stmts_of xs)
drop_steps s [] zero = omega arith
drop_steps s [] (suc k) = omega arith
drop_steps s (x ∷ xs) zero = omega arith
drop_steps s (x ∷ xs) (suc k) = let h = drop_steps s xs k in omega (arith, h)

drop_runs : (s : Scope) (xs : List CoreStmt) (k : ℕ) → AllRunnable (program_in s) (types_in s) (stmts_of xs) → AllRunnable (program_in s) (types_in s) (stmts_of (drop k xs))
drop_runs s [] zero h = h
drop_runs s [] (suc k) h = h
drop_runs s (x ∷ xs) zero h = h
drop_runs s (x ∷ xs) (suc k) h = drop_runs s xs k h.1

module _ {s : Scope} {ts us : List Task} {vs xs : List ℤ} {fs : List Flow} {log : Log} (cases : Bor (List (Option ℤ × ℕ))) (list : Bor (List CoreStmt)) where
  pub no_case : (start : Option ℕ) → start ≡ None → ((from : ℕ → Work Flow) → from_case (start_of_value (map case_of cases.now) (top (pos 0) vs)) (start_of_default (map case_of cases.now)) from ≡ from_start start from)
      → us ≡ task.Leave (way.By On) ∷ ts → xs ≡ below vs → Moves s (task.Switch cases list) ts vs fs log us xs fs log
  no_case start none found u x =
      moves log (λ ws locals. (λ j. (found (run_from_in s (stmts_of list.now)) ∙ ap (λ o. from_start o (run_from_in s (stmts_of list.now))) none) j (λ f. remaining s ts (below vs) ws (f ∷ fs)) locals))
      (λ ws h. h.1) (omega arith) u x refl

  pub some_case : (start : Option ℕ) (k : ℕ) (rest : Bor (List CoreStmt)) → start ≡ Some k → rest.now ≡ drop k list.now
      → ((from : ℕ → Work Flow) → from_case (start_of_value (map case_of cases.now) (top (pos 0) vs)) (start_of_default (map case_of cases.now)) from ≡ from_start start from)
      → us ≡ task.Leave (way.By On) ∷ task.Rest rest ∷ ts → xs ≡ below vs → Moves s (task.Switch cases list) ts vs fs log us xs fs log
  some_case start k rest some is found u x =
      moves log (λ ws locals. (λ j. (found (run_from_in s (stmts_of list.now)) ∙ ap (λ o. from_start o (run_from_in s (stmts_of list.now))) some ∙ from_drop s list.now k
      ∙ ap (λ l. run_from_in s (stmts_of l) 0) (sym is)) j (λ f. remaining s ts (below vs) ws (f ∷ fs)) locals))
      (λ ws h. (subst (λ l. AllRunnable (program_in s) (types_in s) (stmts_of l)) (sym is) (drop_runs s list.now k h.0), h.1))
      (let a = ap (λ l. stmts_steps (calls_from s) s.turns (stmts_of l)) is in let b = drop_steps s list.now k in omega (arith, a, b)) u x refl

-- ---- lists of statements

module _ {s : Scope} {ts us : List Task} {vs : List ℤ} {fs gs : List Flow} {log : Log} where
  pub rest_left : (list : Bor (List CoreStmt)) → ((next : Work Flow) → on (top On fs) next ≡ give (top On fs)) → us ≡ ts → gs ≡ top On fs ∷ below fs
      → Moves s (task.Rest list) ts vs fs log us vs gs log
  rest_left list left u g =
      moves log (λ ws locals. (λ j. left (run_from_in s (stmts_of list.now) 0) j (λ f. remaining s ts vs ws (f ∷ below fs)) locals)) (λ ws h. h.1) (omega arith) u refl g

  pub rest_ends : (list : Bor (List CoreStmt)) → top On fs ≡ On → list.now ≡ [] → us ≡ ts → gs ≡ On ∷ below fs → Moves s (task.Rest list) ts vs fs log us vs gs log
  unfolding run_from_in
  rest_ends list onward is u g =
      moves log (λ ws locals. (λ j. on (onward j) (run_from_in s (stmts_of (is j)) 0) (λ f. remaining s ts vs ws (f ∷ below fs)) locals)) (λ ws h. h.1) (omega arith) u refl g

  pub rest_goes_on : (list : Bor (List CoreStmt)) (x : Bor CoreStmt) (rest : Bor (List CoreStmt)) → top On fs ≡ On → list.now ≡ x.now ∷ rest.now → us ≡ task.Run x ∷ task.Rest rest ∷ ts → gs ≡ below fs
      → Moves s (task.Rest list) ts vs fs log us vs gs log
  unfolding run_in run_from_in
  rest_goes_on list x rest onward is u g =
      moves log (λ ws locals. (λ j. on (onward j) (run_from_in s (stmts_of (is j)) 0) (λ f. remaining s ts vs ws (f ∷ below fs)) locals))
      (λ ws h. let k = subst (λ l. AllRunnable (program_in s) (types_in s) (stmts_of l)) is h.0 in (k.0, (k.1, h.1)))
      (let a = ap (λ l. stmts_steps (calls_from s) s.turns (stmts_of l)) is in omega (arith, a)) u refl g
