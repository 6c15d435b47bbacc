-- What one task leaves to be done.
use Rattle.std.specs.Prelude.{◌≡◌, ◌<◌, ◌≤◌, ◌+◌, ◌-◌, ℕ, ℤ, List, ◌∷◌, Option, Some}
use Rattle.nm_base.specs.Behaviour.{Performed}
use Rattle.nesc_core.specs.Plain.{Body, Expr, Place, Stmt}
use Rattle.core_meaning.specs.declared.access.Where.{Where}
use Rattle.core_meaning.specs.declared.flow.Flow.{Flow}
use Rattle.core_meaning.specs.Work.{Locals}
use Rattle.core_meaning.specs.Act.{calls_of, enter}
use Rattle.core_act.specs.declared.log.Log.{Log}
use Rattle.core_act.specs.declared.scope.Scope.{Scope}
use Rattle.core_act.specs.declared.task.Task.{Task}
use Rattle.core_act.specs.declared.task.Callee.{Callee}
use Rattle.core_act.specs.declared.machine.Machine.{Machine}
use Rattle.core_act.specs.Remaining.{handed, remaining, Safe}
use Rattle.core_act.specs.Evaluable.{Findable, Evaluable, MaybeEvaluable, Runnable}
use Rattle.core_act.specs.Scopes.{IsHeld, program_in, types_in, size_at}
use Rattle.core_act.specs.Steps.{call_steps, callee_steps, calls_from, expr_steps, maybe_steps, place_steps, stmt_steps, steps_left}
use Rattle.core_act.specs.Told.{LiesWithin, all_actions}
use Rattle.core_act.specs.Walks.{calls_in, done_in, find_in, run_in, value_in}

-- an expression is taken apart: these tasks do the same, and are fewer steps
pub record OpensValue (s : Scope) (x : Expr) (ts us : List Task) : Type 0 where
  pub same : (vs : List ℤ) (ws : List Where) (fs : List Flow) (locals : Locals) → value_in s x (λ v. remaining s ts (v ∷ vs) ws fs) locals ≡ remaining s us vs ws fs locals
  pub safe : (ws : List Where) → Evaluable (program_in s) (types_in s) x → Safe s ts ws → Safe s us ws
  pub falls : steps_left s us < expr_steps (calls_from s) x + steps_left s ts

pub record OpensPlace (s : Scope) (x : Place) (ts us : List Task) : Type 0 where
  pub same : (vs : List ℤ) (ws : List Where) (fs : List Flow) (locals : Locals) → find_in s x (λ w. remaining s ts vs (w ∷ ws) fs) locals ≡ remaining s us vs ws fs locals
  pub safe : (ws : List Where) → Findable (program_in s) (types_in s) x → ((w : Where) → LiesWithin (size_at s x + 2) w → Safe s ts (w ∷ ws)) → Safe s us ws
  pub falls : steps_left s us < place_steps (calls_from s) x + steps_left s ts

pub record OpensStmt (s : Scope) (x : Stmt) (ts us : List Task) : Type 0 where
  pub same : (vs : List ℤ) (ws : List Where) (fs : List Flow) (locals : Locals) → run_in s x (λ flow. remaining s ts vs ws (flow ∷ fs)) locals ≡ remaining s us vs ws fs locals
  pub safe : (ws : List Where) → Runnable (program_in s) (types_in s) x → Safe s ts ws → Safe s us ws
  pub falls : steps_left s us < stmt_steps (calls_from s) s.turns x + steps_left s ts

-- the step of a loop
pub record OpensStep (s : Scope) (x : Option Expr) (ts us : List Task) : Type 0 where
  pub same : (vs : List ℤ) (ws : List Where) (fs : List Flow) (locals : Locals) → done_in s x (λ u. remaining s ts vs ws fs) locals ≡ remaining s us vs ws fs locals
  pub safe : (ws : List Where) → MaybeEvaluable (program_in s) (types_in s) x → Safe s ts ws → Safe s us ws
  pub falls : steps_left s us ≤ 1 + maybe_steps (calls_from s) x + steps_left s ts

-- a task takes values or ways out of statements, or does something, and leaves these tasks
pub record Moves (s : Scope) (task : Task) (ts : List Task) (vs : List ℤ) (fs : List Flow) (log : Log) (ts' : List Task) (vs' : List ℤ) (fs' : List Flow) (log' : Log) : Type 0 where
  pub same : (ws : List Where) (locals : Locals) → all_actions log (remaining s (task ∷ ts) vs ws fs locals) ≡ all_actions log' (remaining s ts' vs' ws fs' locals)
  pub safe : (ws : List Where) → Safe s (task ∷ ts) ws → Safe s ts' ws
  pub falls : steps_left s ts' < steps_left s (task ∷ ts)

-- all that a machine does
abbrev pub all_of : Machine → Performed
all_of m = all_actions m.log (remaining m.scope m.tasks m.values m.places m.flows m.locals.items)

pub record IsSafe (m : Machine) : Type 0 where
  pub held : IsHeld m.scope
  pub safe : Safe m.scope m.tasks m.places

-- a task and what the machine holds
pub record IsReady (task : Task) (m : Machine) : Type 0 where
  pub held : IsHeld m.scope
  pub safe : Safe m.scope (task ∷ m.tasks) m.places

pub record Goes (task : Task) (m m' : Machine) : Type 0 where
  pub same : all_actions m.log (remaining m.scope (task ∷ m.tasks) m.values m.places m.flows m.locals.items) ≡ all_of m'
  pub safe : IsSafe m'
  pub falls : steps_left m'.scope m'.tasks < steps_left m.scope (task ∷ m.tasks)

-- a body is called, before what the machine has still to do
pub record Calls (f : ℕ) (xs : List ℤ) (m m' : Machine) : Type 0 where
  pub same : all_actions m.log (calls_in m.scope f xs (λ v. remaining m.scope m.tasks (v ∷ m.values) m.places m.flows m.locals.items)) ≡ all_of m'
  pub safe : IsSafe m'
  pub falls : steps_left m'.scope m'.tasks < 2 + calls_from m.scope + steps_left m.scope m.tasks

pub record CallsBody (b : Body) (xs : List ℤ) (m m' : Machine) : Type 0 where
  pub same : all_actions m.log (enter (program_in m.scope) (Some b) (calls_of (program_in m.scope) (m.scope.depth - 1) m.scope.turns) m.scope.turns xs
      (λ v. remaining m.scope m.tasks (v ∷ m.values) m.places m.flows m.locals.items)) ≡ all_of m'
  pub safe : IsSafe m'
  pub falls : steps_left m'.scope m'.tasks < 2 + stmt_steps (call_steps (program_in m.scope) m.scope.turns (m.scope.depth - 1)) m.scope.turns b.code + steps_left m.scope m.tasks

pub record Hands (to : Callee) (xs : List ℤ) (m m' : Machine) : Type 0 where
  pub same : all_actions m.log (handed m.scope to xs (λ vs. remaining m.scope m.tasks vs m.places m.flows) m.values m.locals.items) ≡ all_of m'
  pub safe : IsSafe m'
  pub falls : steps_left m'.scope m'.tasks < 1 + callee_steps m.scope to + steps_left m.scope m.tasks
