-- Calls: their arguments, the way into a body and the way back.
use Rattle.std.proofs.Common.{◌≡◌, ◌∙◌, ◌<◌, ◌≤◌, ◌+◌, ◌-◌, ◌*◌, ◌^◌, ap, sym, subst, refl, arith, ℕ, ℤ, zero, suc, Option, Some, None, List, [], ◌∷◌, ◌++◌, append_assoc, append-nil, map, length, All, Vec, Global, get_or}
use Rattle.std.specs.Prelude.{pos, slice_get}
use Rattle.std.proofs.lemmas.Option.{slice_get_read, slice_get_past}
use denote.Ref.{Bor}
use Rattle.nm_base.specs.declared.action.Action.TheVariants as action
use Rattle.nm_base.specs.Behaviour.{Behaviour, Cut, Does}
use Rattle.nesc_core.specs.declared.tree.Body as tree
use Rattle.nesc_core.specs.declared.tree.CoreExpr.{CoreExpr}
use Rattle.nesc_core.specs.declared.tree.CoreStmt.{CoreStmt}
use Rattle.nesc_core.specs.declared.tree.CoreType.{CoreType}
use Rattle.nesc_core.specs.Plain.{Body, Program}
use Rattle.nesc_core.specs.View.{body_of, expr_of, exprs_of, stmt_of, type_of}
use Rattle.core_meaning.specs.declared.flow.Flow.{Flow}
use Rattle.core_meaning.specs.declared.flow.Flow.TheVariants.{On}
use Rattle.core_meaning.specs.Flow.{result}
use Rattle.core_meaning.specs.Work.{Locals}
use Rattle.core_meaning.specs.Act.{calls_of, enter, holding, run}
use Rattle.core_act.specs.declared.access.Local.{Local}
use Rattle.nesc_core.specs.Size.{IsSized}
use Rattle.core_act.specs.declared.log.Log.{Log}
use Rattle.core_act.specs.declared.scope.Scope.{Scope}
use Rattle.core_act.specs.declared.machine.Machine.{Machine}
use Rattle.core_act.specs.declared.task.Arguments.{Arguments}
use Rattle.core_act.specs.declared.task.Callee.TheVariants as callee
use Rattle.core_act.specs.declared.task.Caller.{Caller}
use Rattle.core_act.specs.declared.task.Operation.TheVariants as operation
use Rattle.core_act.specs.declared.task.Task.{Task}
use Rattle.core_act.specs.declared.task.Task.TheVariants as task
use Rattle.core_act.specs.Evaluable.{AllEvaluable, IsRunnable, Runnable}
use Rattle.core_act.specs.Moves.{Calls, CallsBody, Goes, Hands, IsReady, IsSafe, Moves, all_of}
use Rattle.core_act.specs.Remaining.{Safe, handed, remaining}
use Rattle.core_act.specs.Scopes.{IsHeld, program_in, types_in}
use Rattle.core_act.specs.Stacks.{below, top}
use Rattle.core_act.specs.Steps.{all_steps, call_steps, callee_steps, calls_from, exprs_steps, stmt_steps, steps_left}
use Rattle.core_act.specs.Told.{all_actions}
use Rattle.core_act.specs.Walks.{calls_in, run_in, value_in, values_in}

-- ---- arguments

pub takes_argument : {s : Scope} {ts us : List Task} {vs xs : List ℤ} {fs : List Flow} {log : Log} (a b : Arguments) → b.to ≡ a.to → b.rest ≡ a.rest → b.passed.items ≡ a.passed.items ++ top (pos 0) vs ∷ []
    → us ≡ task.Pass b ∷ ts → xs ≡ below vs → Moves s (task.Passed a) ts vs fs log us xs fs log
takes_argument {s = s} {ts = ts} {us = us} {vs = vs} {xs = xs} {fs = fs} {log = log} a b to rest passed u x =
    subst (λ us. Moves s (task.Passed a) ts vs fs log us xs fs log) (sym u)
    (subst (λ xs. Moves s (task.Passed a) ts vs fs log (task.Pass b ∷ ts) xs fs log) (sym x)
    (record {
      same = λ ws locals.
          (λ j. all_actions log (values_in s (exprs_of (sym rest j).now) (λ xs. handed s (sym to j) (sym (ap (λ ps. ps ++ xs) passed ∙ append_assoc a.passed.items (top (pos 0) vs ∷ []) xs) j) (λ vs. remaining s ts vs ws fs) (below vs)) locals));
      safe = λ ws h. (subst (λ r. AllEvaluable (program_in s) (types_in s) (exprs_of r.now)) (sym rest) h.0, h.1);
      falls = let p = ap (λ (r : Bor (List CoreExpr)). exprs_steps (calls_from s) (exprs_of r.now)) rest in let q = ap (callee_steps s) to in omega (arith, p, q);
    }))

in_all : (c n : ℕ) (bodies : List Body) (f : ℕ) (b : Body) → slice_get bodies f ≡ Some b → stmt_steps c n b.code ≤ all_steps c n bodies
in_all c n [] f b is = absurd (cc)
in_all c n (d ∷ bodies) zero b is = let e : d ≡ b = cc in let h = ap (λ (x : Body). stmt_steps c n x.code) e in omega (arith, h)
in_all c n (d ∷ bodies) (suc f) b is = let h = in_all c n bodies f b is in omega (arith, h)

deeper : (depth : ℕ) → 0 < depth → depth ≡ suc (depth - 1)
deeper depth some = omega (arith, some)

module _ (m : Machine) where
  pub pass_next : (a : Arguments) (e : Bor CoreExpr) (rest : Bor (List CoreExpr)) (us : List Task) → a.rest.now ≡ e.now ∷ rest.now
      → us ≡ task.Value e ∷ task.Passed (record { to = a.to; passed = a.passed; rest = rest }) ∷ m.tasks → IsReady (task.Pass a) m → Goes (task.Pass a) m (record m { tasks = us })
  unfolding value_in values_in
  pass_next a e rest us is u r =
      subst (λ us. Goes (task.Pass a) m (record m { tasks = us })) (sym u)
      (record {
        same = ap (λ es. all_actions m.log (values_in m.scope (exprs_of es) (λ xs. handed m.scope a.to (a.passed.items ++ xs) (λ vs. remaining m.scope m.tasks vs m.places m.flows) m.values) m.locals.items)) is;
        safe = let k = subst (λ es. AllEvaluable (program_in m.scope) (types_in m.scope) (exprs_of es)) is r.safe.0 in record { held = r.held; safe = (k.0, (k.1, r.safe.1)) };
        falls = let p = ap (λ es. exprs_steps (calls_from m.scope) (exprs_of es)) is in omega (arith, p);
      })

  pub pass_end : (a : Arguments) (xs : List ℤ) (m' : Machine) → a.rest.now ≡ [] → xs ≡ a.passed.items → Hands a.to xs m m' → IsReady (task.Pass a) m → Goes (task.Pass a) m m'
  unfolding values_in
  pass_end a xs m' is x h r = record {
    same = ap (λ es. all_actions m.log (values_in m.scope (exprs_of es) (λ xs. handed m.scope a.to (a.passed.items ++ xs) (λ vs. remaining m.scope m.tasks vs m.places m.flows) m.values) m.locals.items)) is
        ∙ ap (λ xs. all_actions m.log (handed m.scope a.to xs (λ vs. remaining m.scope m.tasks vs m.places m.flows) m.values m.locals.items)) (append-nil a.passed.items ∙ sym x)
        ∙ h.same;
    safe = h.safe;
    falls = let k = h.falls in let p = ap (λ es. exprs_steps (calls_from m.scope) (exprs_of es)) is in omega (arith, k, p);
  }

  pub hand_body : (f : ℕ) (xs : List ℤ) (log : Log) (us : List Task) (m' : Machine) → ((b : Behaviour) → all_actions m.log (Does action.Tick b) ≡ all_actions log b)
      → us ≡ task.Operate (operation.Perform action.Tick) ∷ m.tasks → Calls f xs (record m { tasks = us; log = log }) m' → Hands (callee.Body f) xs m m'
  hand_body f xs log us m' acts u h = record {
    same = acts _ ∙ ap (λ us. all_actions log (calls_in m.scope f xs (λ v. remaining m.scope us (v ∷ m.values) m.places m.flows m.locals.items))) (sym u) ∙ h.same;
    safe = h.safe;
    falls = let k = h.falls in let p = ap (steps_left m.scope) u in omega (arith, k, p);
  }

  pub tick_safe : (log : Log) (us : List Task) → us ≡ task.Operate (operation.Perform action.Tick) ∷ m.tasks → IsSafe m → IsSafe (record m { tasks = us; log = log })
  tick_safe log us u r = record { held = r.held; safe = subst (λ us. Safe m.scope us m.places) (sym u) (tt, r.safe) }

  -- ---- the way into a body

  pub enter_deep : (f : ℕ) (xs : List ℤ) (log : Log) → m.scope.depth ≡ 0 → ((b : Behaviour) → all_actions m.log Cut ≡ all_actions log b) → IsSafe m → Calls f xs m (record m { log = log })
  unfolding calls_in
  enter_deep f xs log is cut r = record {
    same = ap (λ d. all_actions m.log (calls_of (program_in m.scope) d m.scope.turns f xs (λ v. remaining m.scope m.tasks (v ∷ m.values) m.places m.flows m.locals.items))) is ∙ cut _;
    safe = record { held = r.held; safe = r.safe };
    falls = omega arith;
  }

  opened : (f : ℕ) (xs : List ℤ) (o : Option Body) → 0 < m.scope.depth → slice_get (program_in m.scope).bodies f ≡ o
      → all_actions m.log (calls_in m.scope f xs (λ v. remaining m.scope m.tasks (v ∷ m.values) m.places m.flows m.locals.items))
      ≡ all_actions m.log (enter (program_in m.scope) o (calls_of (program_in m.scope) (m.scope.depth - 1) m.scope.turns) m.scope.turns xs (λ v. remaining m.scope m.tasks (v ∷ m.values) m.places m.flows m.locals.items))
  unfolding calls_in
  opened f xs o some is =
      ap (λ d. all_actions m.log (calls_of (program_in m.scope) d m.scope.turns f xs (λ v. remaining m.scope m.tasks (v ∷ m.values) m.places m.flows m.locals.items))) (deeper m.scope.depth some)
      ∙ ap (λ b. all_actions m.log (enter (program_in m.scope) b (calls_of (program_in m.scope) (m.scope.depth - 1) m.scope.turns) m.scope.turns xs (λ v. remaining m.scope m.tasks (v ∷ m.values) m.places m.flows m.locals.items))) is

  pub enter_none : (f : ℕ) (xs : List ℤ) (log : Log) → 0 < m.scope.depth → slice_get (program_in m.scope).bodies f ≡ None → ((b : Behaviour) → all_actions m.log Cut ≡ all_actions log b) → IsSafe m
      → Calls f xs m (record m { log = log })
  enter_none f xs log some is cut r = record {
    same = opened f xs None some is ∙ cut _;
    safe = record { held = r.held; safe = r.safe };
    falls = omega arith;
  }

  pub enter_some : (f : ℕ) (xs : List ℤ) (b : Body) (m' : Machine) → 0 < m.scope.depth → slice_get (program_in m.scope).bodies f ≡ Some b → CallsBody b xs m m' → Calls f xs m m'
  enter_some f xs b m' some is h = record {
    same = opened f xs (Some b) some is ∙ h.same;
    safe = h.safe;
    falls =
        let k = h.falls in
        let d = ap (call_steps (program_in m.scope) m.scope.turns) (deeper m.scope.depth some) in
        let e = in_all (call_steps (program_in m.scope) m.scope.turns (m.scope.depth - 1)) m.scope.turns (program_in m.scope).bodies f b is in
        omega (arith, k, d, e);
  }

  pub enter_body_calls : (b : tree.Body) (xs : List ℤ) (t : Bor (List CoreType)) (code : Bor CoreStmt) (caller : Caller) (us : List Task) (ls : Vec Local Global) → code.now ≡ b.code → t.now ≡ b.locals
      → caller.scope ≡ m.scope → caller.locals.items ≡ m.locals.items → us ≡ task.Run code ∷ task.Back caller ∷ m.tasks → ls.items ≡ holding (program_in m.scope).structs (map type_of t.now) xs
      → IsSafe m → IsRunnable (program_in m.scope) (body_of b) → CallsBody (body_of b) xs m (record m { scope = record m.scope { types = t; depth = m.scope.depth - 1 }; tasks = us; locals = ls })
  unfolding run_in calls_in
  enter_body_calls b xs t code caller us ls code_is t_is scope locals u held r runs =
      let inner = record m.scope { types = t; depth = m.scope.depth - 1 } in
      let p = program_in m.scope in
      let holds = held ∙ ap (λ ts. holding p.structs (map type_of ts) xs) t_is in
      record {
        same =
            (λ j. all_actions m.log (run p (map type_of (sym t_is j)) (calls_of p (m.scope.depth - 1) m.scope.turns) m.scope.turns (stmt_of (sym code_is j))
            (λ flow ms. remaining (sym scope j) m.tasks (result flow ∷ m.values) m.places m.flows (sym locals j)) (sym holds j)))
            ∙ ap (λ us. all_actions m.log (remaining inner us m.values m.places m.flows ls.items)) (sym u);
        safe = record {
          held = record { structs = r.held.structs; objects = r.held.objects; bodies = r.held.bodies; locals = subst (λ ts. All (IsSized p.structs) (map type_of ts)) (sym t_is) runs.locals };
          safe = subst (λ us. Safe inner us m.places) (sym u) (
            subst (λ ts. Runnable p (map type_of ts) (stmt_of code.now)) (sym t_is) (subst (λ c. Runnable p (map type_of b.locals) (stmt_of c)) (sym code_is) runs.code),
            subst (λ o. IsHeld o × Safe o m.tasks m.places) (sym scope) (r.held, r.safe),
          );
        };
        falls =
            let a = ap (steps_left inner) u in
            let c = ap (λ c. stmt_steps (calls_from inner) m.scope.turns (stmt_of c)) code_is in
            let d = ap (λ o. steps_left o m.tasks) scope in
            omega (arith, a, c, d);
      }

  -- ---- the way back

  pub goes_back : (caller : Caller) (xs : List ℤ) (gs : List Flow) → xs ≡ result (top On m.flows) ∷ m.values → gs ≡ below m.flows → IsReady (task.Back caller) m
      → Goes (task.Back caller) m (record m { scope = caller.scope; values = xs; flows = gs; locals = caller.locals })
  goes_back caller xs gs x g r = record {
    same = (λ j. all_actions m.log (remaining caller.scope m.tasks (sym x j) m.places (sym g j) caller.locals.items));
    safe = record { held = r.safe.0; safe = r.safe.1 };
    falls = omega arith;
  }

-- ---- bodies

pub runnable_at : (p : Program) (bodies : List Body) (f : ℕ) (b : Body) → ((i : ℕ) (d : Body) → i < length bodies → IsRunnable p (get_or bodies i d)) → slice_get bodies f ≡ Some b → IsRunnable p b
runnable_at p [] f b all is = absurd (cc)
runnable_at p (c ∷ bodies) zero b all is = let e : c ≡ b = cc in subst (IsRunnable p) e (all 0 c (omega arith))
runnable_at p (c ∷ bodies) (suc f) b all is = runnable_at p bodies f b (λ i d below. all (suc i) d (omega arith)) is

mapped_some : (bodies : List tree.Body) (f : ℕ) (b : tree.Body) → slice_get bodies f ≡ Some b → slice_get (map body_of bodies) f ≡ Some (body_of b)
mapped_some [] f b is = absurd (cc)
mapped_some (c ∷ bodies) zero b is = let e : c ≡ b = cc in ap (λ x. Some (body_of x)) e
mapped_some (c ∷ bodies) (suc f) b is = mapped_some bodies f b is

mapped_none : (bodies : List tree.Body) (f : ℕ) → slice_get bodies f ≡ None → slice_get (map body_of bodies) f ≡ None
mapped_none [] f is = refl
mapped_none (c ∷ bodies) zero is = absurd (cc)
mapped_none (c ∷ bodies) (suc f) is = mapped_none bodies f is

pub body_at : (bodies xs : List tree.Body) (f : ℕ) (b : tree.Body) → xs ≡ bodies → f < length xs → b ≡ get_or xs f b → slice_get (map body_of bodies) f ≡ Some (body_of b)
body_at bodies xs f b same low is = subst (λ ys. slice_get (map body_of ys) f ≡ Some (body_of b)) same (mapped_some xs f b (slice_get_read xs (length xs) f b refl low is))

pub no_body_at : (bodies xs : List tree.Body) (f : ℕ) → xs ≡ bodies → length xs ≤ f → slice_get (map body_of bodies) f ≡ None
no_body_at bodies xs f same high = subst (λ ys. slice_get (map body_of ys) f ≡ None) same (mapped_none xs f (slice_get_past xs f high))
