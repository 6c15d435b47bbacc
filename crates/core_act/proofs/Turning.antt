-- What the turns of a loop come to, one stage after the other.
use Rattle.std.proofs.Common.{◌≡◌, ◌∙◌, ◌<◌, ◌≤◌, ◌+◌, ◌-◌, ◌*◌, ap, sym, subst, refl, arith, ℕ, ℤ, zero, suc, Bool, true, false, Option, Some, None, List, [], ◌∷◌}
use Rattle.std.specs.Prelude.{pos, if◌then◌else◌}
use Rattle.nm_base.specs.declared.action.Action.TheVariants as action
use Rattle.nm_base.specs.Behaviour.{Behaviour, Cut, Does}
use Rattle.nesc_core.specs.View.{expr_of, maybe_expr_of, stmt_of}
use Rattle.core_meaning.specs.declared.access.Where.{Where}
use Rattle.core_meaning.specs.declared.flow.Flow.{Flow}
use Rattle.core_meaning.specs.declared.flow.Flow.TheVariants.{On}
use Rattle.core_meaning.specs.Flow.{again, turn}
use Rattle.core_meaning.specs.Numbers.{is_zero}
use Rattle.core_meaning.specs.Work.{Locals, Work, give}
use Rattle.core_act.specs.declared.log.Log.{Log}
use Rattle.core_act.specs.declared.scope.Scope.{Scope}
use Rattle.core_act.specs.declared.task.Loop.{Loop}
use Rattle.core_act.specs.declared.task.Task.{Task}
use Rattle.core_act.specs.declared.task.Task.TheVariants as task
use Rattle.core_act.specs.declared.task.Operation.TheVariants as operation
use Rattle.core_act.specs.declared.task.Way.TheVariants as way
use Rattle.core_act.specs.declared.task.Stage.{Stage}
use Rattle.core_act.specs.declared.task.Stage.TheVariants as stage
use Rattle.core_act.specs.Moves.{Moves, OpensStep}
use Rattle.core_act.specs.Remaining.{Safe, behind_body, behind_test, remaining, turns_in}
use Rattle.core_act.specs.Stacks.{below, top}
use Rattle.core_act.specs.Steps.{calls_from, expr_steps, maybe_steps, stmt_steps, steps_left, turn_steps}
use Rattle.core_act.specs.Told.{all_actions}
use Rattle.core_act.specs.Walks.{done_in, left_or, run_in, value_in}
use Rattle.core_act.proofs.Choosing.{moves}

-- how the flow leaves the loop
abbrev pub Leaves : Flow → Option Flow → Type 0
Leaves flow left = (next : Work Flow) → again flow next ≡ left_or left next

pub as_stage : {s : Scope} {a b : Stage} {l : Loop} {left : ℕ} {ts us : List Task} {vs xs : List ℤ} {fs gs : List Flow} {log log' : Log} → a ≡ b
    → Moves s (task.Repeat b l left) ts vs fs log us xs gs log' → Moves s (task.Repeat a l left) ts vs fs log us xs gs log'
as_stage {s = s} {l = l} {left = left} {ts = ts} {us = us} {vs = vs} {xs = xs} {fs = fs} {gs = gs} {log = log} {log' = log'} is h =
    subst (λ a. Moves s (task.Repeat a l left) ts vs fs log us xs gs log') (sym is) h

-- no turn is left
pub turns_end : {s : Scope} {ts us : List Task} {vs : List ℤ} {fs : List Flow} {log log' : Log} (l : Loop) (left : ℕ) → left ≡ 0
    → ((b : Behaviour) → all_actions log Cut ≡ all_actions log' b) → us ≡ ts → Moves s (task.Repeat stage.Begins l left) ts vs fs log us vs fs log'
turns_end {s = s} {ts = ts} {vs = vs} {fs = fs} {log = log} {log' = log'} l left none cut u =
    subst (λ us. Moves s (task.Repeat stage.Begins l left) ts vs fs log us vs fs log') (sym u)
    (record {
      same = λ ws locals. ap (λ n. all_actions log (turns_in s l n (λ f. remaining s ts vs ws (f ∷ fs)) locals)) none ∙ cut (remaining s ts vs ws fs locals);
      safe = λ ws h. h.3;
      falls = omega arith;
    })

at_least : (b : Bool) (x y : ℕ) → 2 ≤ (if b then 4 + x + y else 2)
at_least true x y = omega arith
at_least false x y = omega arith

left_some : (b : Bool) (x y : ℕ) → 0 < (if b then 3 + x else 4 + y)
left_some true x y = omega arith
left_some false x y = omega arith

leaves : (first : Bool) (test : Work ℤ) (step : Work (Unit {0})) (more : Work Flow) (flow f : Flow) → ((next : Work Flow) → again flow next ≡ give f) → behind_body first test step more flow ≡ give f
leaves true test step more flow f h = h _
leaves false test step more flow f h = h _

abbrev test : Scope → Loop → Work ℤ
test s l = value_in s (expr_of l.test.now)

abbrev body : Scope → Loop → Work Flow
body s l = run_in s (stmt_of l.body.now)

abbrev step : Scope → Loop → Work (Unit {0})
step s l = done_in s (maybe_expr_of l.step.now)

module _ {s : Scope} {ts us : List Task} {vs : List ℤ} {fs : List Flow} {log : Log} (l : Loop) (left : ℕ) where
  pub begins_first : (k : ℕ) → left ≡ suc k → l.first ≡ true → us ≡ task.Operate (operation.Perform action.Tick) ∷ task.Value l.test ∷ task.Repeat stage.Tested l k ∷ ts
      → Moves s (task.Repeat stage.Begins l left) ts vs fs log us vs fs log
  begins_first k some first u =
      moves log
      (λ ws locals.
      let K : Flow → Locals → Behaviour = λ flow. remaining s ts vs ws (flow ∷ fs) in
      ap (λ n. turns_in s l n K locals) some ∙ ap (λ b. turn b (test s l) (body s l) (step s l) (turns_in s l k) K locals) first
      ∙ sym (ap (λ b. Does action.Tick (test s l (λ v. (if is_zero v then give On else behind_test b (body s l) (step s l) (turns_in s l k)) K) locals)) first))
      (λ ws h. (tt, (h.0, h)))
      (let n = ap (λ n. n * turn_steps s l) some in let c = ap (λ b. if b then 4 + maybe_steps (calls_from s) (maybe_expr_of l.step.now) + stmt_steps (calls_from s) s.turns (stmt_of l.body.now) else 2) first in omega (arith, n, c))
      u refl refl

  pub begins_last : (k : ℕ) → left ≡ suc k → l.first ≡ false → us ≡ task.Operate (operation.Perform action.Tick) ∷ task.Run l.body ∷ task.Repeat stage.Left l k ∷ ts
      → Moves s (task.Repeat stage.Begins l left) ts vs fs log us vs fs log
  begins_last k some first u =
      moves log
      (λ ws locals.
      let K : Flow → Locals → Behaviour = λ flow. remaining s ts vs ws (flow ∷ fs) in
      ap (λ n. turns_in s l n K locals) some ∙ ap (λ b. turn b (test s l) (body s l) (step s l) (turns_in s l k) K locals) first
      ∙ sym (ap (λ b. Does action.Tick (body s l (λ flow. behind_body b (test s l) (step s l) (turns_in s l k) flow K) locals)) first))
      (λ ws h. (tt, (h.2, h)))
      (let n = ap (λ n. n * turn_steps s l) some in let c = ap (λ b. if b then 3 + maybe_steps (calls_from s) (maybe_expr_of l.step.now) else 4 + expr_steps (calls_from s) (expr_of l.test.now)) first in omega (arith, n, c))
      u refl refl

  pub tested_zero : {xs : List ℤ} → is_zero (top (pos 0) vs) ≡ true → us ≡ task.Leave (way.By On) ∷ ts → xs ≡ below vs → Moves s (task.Repeat stage.Tested l left) ts vs fs log us xs fs log
  tested_zero z u x =
      moves log (λ ws locals. ap (λ t. (if t then give On else behind_test l.first (body s l) (step s l) (turns_in s l left)) (λ flow. remaining s ts (below vs) ws (flow ∷ fs)) locals) z)
      (λ ws h. h.3) (let k = at_least l.first (maybe_steps (calls_from s) (maybe_expr_of l.step.now)) (stmt_steps (calls_from s) s.turns (stmt_of l.body.now)) in omega (arith, k)) u x refl

  pub tested_first : {xs : List ℤ} → is_zero (top (pos 0) vs) ≡ false → l.first ≡ true → us ≡ task.Run l.body ∷ task.Repeat stage.Left l left ∷ ts → xs ≡ below vs
      → Moves s (task.Repeat stage.Tested l left) ts vs fs log us xs fs log
  tested_first z first u x =
      moves log
      (λ ws locals.
      let K : Flow → Locals → Behaviour = λ flow. remaining s ts (below vs) ws (flow ∷ fs) in
      ap (λ t. (if t then give On else behind_test l.first (body s l) (step s l) (turns_in s l left)) K locals) z
      ∙ ap (λ b. behind_test b (body s l) (step s l) (turns_in s l left) K locals) first
      ∙ sym (ap (λ b. body s l (λ flow. behind_body b (test s l) (step s l) (turns_in s l left) flow K) locals) first))
      (λ ws h. (h.2, h))
      (let c = ap (λ b. if b then 3 + maybe_steps (calls_from s) (maybe_expr_of l.step.now) else 4 + expr_steps (calls_from s) (expr_of l.test.now)) first in
      let d = ap (λ b. if b then 4 + maybe_steps (calls_from s) (maybe_expr_of l.step.now) + stmt_steps (calls_from s) s.turns (stmt_of l.body.now) else 2) first in omega (arith, c, d))
      u x refl

  pub tested_last : {xs : List ℤ} → is_zero (top (pos 0) vs) ≡ false → l.first ≡ false → us ≡ task.Repeat stage.Begins l left ∷ ts → xs ≡ below vs
      → Moves s (task.Repeat stage.Tested l left) ts vs fs log us xs fs log
  tested_last z first u x =
      moves log
      (λ ws locals.
      let K : Flow → Locals → Behaviour = λ flow. remaining s ts (below vs) ws (flow ∷ fs) in
      ap (λ t. (if t then give On else behind_test l.first (body s l) (step s l) (turns_in s l left)) K locals) z
      ∙ ap (λ b. behind_test b (body s l) (step s l) (turns_in s l left) K locals) first)
      (λ ws h. h)
      (let d = ap (λ b. if b then 4 + maybe_steps (calls_from s) (maybe_expr_of l.step.now) + stmt_steps (calls_from s) s.turns (stmt_of l.body.now) else 2) first in omega (arith, d))
      u x refl

  pub body_leaves : {gs : List Flow} → (o : Option Flow) (f : Flow) → ((next : Work Flow) → again (top On fs) next ≡ left_or o next) → o ≡ Some f → us ≡ ts → gs ≡ f ∷ below fs
      → Moves s (task.Repeat stage.Left l left) ts vs fs log us vs gs log
  body_leaves o f left_is some u g =
      moves log
      (λ ws locals. ap (λ (w : Work Flow). w (λ flow. remaining s ts vs ws (flow ∷ below fs)) locals)
      (leaves l.first (test s l) (step s l) (turns_in s l left) (top On fs) f (λ next. left_is next ∙ ap (λ o. left_or o next) some)))
      (λ ws h. h.3)
      (let k = left_some l.first (maybe_steps (calls_from s) (maybe_expr_of l.step.now)) (expr_steps (calls_from s) (expr_of l.test.now)) in omega (arith, k))
      u refl g

  pub body_steps : {gs : List Flow} → (o : Option Flow) → ((next : Work Flow) → again (top On fs) next ≡ left_or o next) → o ≡ None → l.first ≡ true
      → OpensStep s (maybe_expr_of l.step.now) (task.Repeat stage.Begins l left ∷ ts) us → gs ≡ below fs → Moves s (task.Repeat stage.Left l left) ts vs fs log us vs gs log
  body_steps o left_is none first opens g =
      moves log
      (λ ws locals.
      let K : Flow → Locals → Behaviour = λ flow. remaining s ts vs ws (flow ∷ below fs) in
      ap (λ b. behind_body b (test s l) (step s l) (turns_in s l left) (top On fs) K locals) first
      ∙ ap (λ (w : Work Flow). w K locals) (left_is (λ after. step s l (λ u. turns_in s l left after)) ∙ ap (λ o. left_or o (λ after. step s l (λ u. turns_in s l left after))) none)
      ∙ opens.same vs ws (below fs) locals)
      (λ ws h. opens.safe ws h.1 h)
      (let k = opens.falls in let c = ap (λ b. if b then 3 + maybe_steps (calls_from s) (maybe_expr_of l.step.now) else 4 + expr_steps (calls_from s) (expr_of l.test.now)) first in omega (arith, k, c))
      refl refl g

  pub body_tests : {gs : List Flow} → (o : Option Flow) → ((next : Work Flow) → again (top On fs) next ≡ left_or o next) → o ≡ None → l.first ≡ false
      → us ≡ task.Value l.test ∷ task.Repeat stage.Tested l left ∷ ts → gs ≡ below fs → Moves s (task.Repeat stage.Left l left) ts vs fs log us vs gs log
  body_tests o left_is none first u g =
      moves log
      (λ ws locals.
      let K : Flow → Locals → Behaviour = λ flow. remaining s ts vs ws (flow ∷ below fs) in
      let next : Work Flow = λ after. test s l (λ x. (if is_zero x then give On else turns_in s l left) after) in
      ap (λ b. behind_body b (test s l) (step s l) (turns_in s l left) (top On fs) K locals) first
      ∙ ap (λ (w : Work Flow). w K locals) (left_is next ∙ ap (λ o. left_or o next) none)
      ∙ sym (ap (λ b. test s l (λ x. (if is_zero x then give On else behind_test b (body s l) (step s l) (turns_in s l left)) K) locals) first))
      (λ ws h. (h.0, h))
      (let c = ap (λ b. if b then 3 + maybe_steps (calls_from s) (maybe_expr_of l.step.now) else 4 + expr_steps (calls_from s) (expr_of l.test.now)) first in
      let d = ap (λ b. if b then 4 + maybe_steps (calls_from s) (maybe_expr_of l.step.now) + stmt_steps (calls_from s) s.turns (stmt_of l.body.now) else 2) first in omega (arith, c, d))
      u refl g
