-- What a machine does with one task, from what the parts of the machine do.
use Rattle.std.proofs.Common.{◌≡◌, ◌∙◌, ◌<◌, ◌≤◌, ◌+◌, ◌-◌, ◌*◌, ◌^◌, ap, sym, subst, refl, arith, ℕ, ℤ, zero, suc, Bool, true, false, Option, Some, None, List, [], ◌∷◌, ◌++◌, Vec, Global}
use Rattle.std.specs.Prelude.{pos, slice_get}
use denote.Ref.{Bor}
use Rattle.nm_base.specs.declared.action.Action.TheVariants as action
use Rattle.nm_base.specs.Behaviour.{Behaviour, Cut, Does}
use Rattle.nesc_core.specs.declared.tree.CoreExpr.{CoreExpr}
use Rattle.nesc_core.specs.declared.tree.CoreStmt.{CoreStmt}
use Rattle.nesc_core.specs.declared.tree.CoreType.{CoreType}
use Rattle.nesc_core.specs.declared.tree.Place as tree
use Rattle.nesc_core.specs.Plain.{Body, more_exprs, no_exprs}
use Rattle.nesc_core.specs.View.{expr_of, exprs_of, place_of, stmt_of, type_of}
use Rattle.core_meaning.specs.declared.access.Where.{Where}
use Rattle.core_meaning.specs.declared.flow.Flow.{Flow}
use Rattle.core_meaning.specs.declared.flow.Flow.TheVariants.{On}
use Rattle.core_meaning.specs.Flow.{result}
use Rattle.core_meaning.specs.Work.{Locals}
use Rattle.core_meaning.specs.Act.{calls_of, enter, holding}
use Rattle.core_act.specs.declared.access.Local.{Local}
use Rattle.core_act.specs.declared.log.Log.{Log}
use Rattle.core_act.specs.declared.scope.Scope.{Scope}
use Rattle.core_act.specs.declared.machine.Machine.{Machine}
use Rattle.core_act.specs.declared.task.Access.{Access}
use Rattle.core_act.specs.declared.task.Arguments.{Arguments}
use Rattle.core_act.specs.declared.task.Callee.{Callee}
use Rattle.core_act.specs.declared.task.Callee.TheVariants as callee
use Rattle.core_act.specs.declared.task.Caller.{Caller}
use Rattle.core_act.specs.declared.task.Operation.{Operation}
use Rattle.core_act.specs.declared.task.Operation.TheVariants as operation
use Rattle.core_act.specs.declared.task.Task.{Task}
use Rattle.core_act.specs.declared.task.Task.TheVariants as task
use Rattle.core_act.specs.declared.task.Way.{Way}
use Rattle.core_act.specs.Moves.{Calls, CallsBody, Goes, Hands, IsReady, IsSafe, Moves, OpensPlace, OpensStmt, OpensValue, all_of}
use Rattle.core_act.specs.Remaining.{IsAccessed, IsOperable, Safe, accessed, handed, left_by, operated, pointed, remaining}
use Rattle.core_act.specs.Scopes.{IsHeld, fill_in, program_in, types_in}
use Rattle.core_act.specs.Stacks.{below, top}
use Rattle.core_act.specs.Steps.{call_steps, callee_steps, calls_from, expr_steps, stmt_steps, steps_left}
use Rattle.core_act.specs.Told.{LiesWithin, all_actions}
use Rattle.core_act.specs.Walks.{calls_in, find_in, run_in, value_in, values_in}

pub as_goes : {t u : Task} {m m' : Machine} → t ≡ u → (IsReady u m → Goes u m m') → IsReady t m → Goes t m m'
as_goes {m = m} {m' = m'} is h r = subst (λ t. Goes t m m') (sym is) (h (subst (λ t. IsReady t m) is r))

module _ (m : Machine) where
  pub value_goes : (e : Bor CoreExpr) (us : List Task) → OpensValue m.scope (expr_of e.now) m.tasks us → IsReady (task.Value e) m → Goes (task.Value e) m (record m { tasks = us })
  value_goes e us h r = record {
    same = ap (all_actions m.log) (h.same m.values m.places m.flows m.locals.items);
    safe = record { held = r.held; safe = h.safe m.places r.safe.0 r.safe.1 };
    falls = h.falls;
  }

  pub find_goes : (e : Bor tree.Place) (us : List Task) → OpensPlace m.scope (place_of e.now) m.tasks us → IsReady (task.Find e) m → Goes (task.Find e) m (record m { tasks = us })
  find_goes e us h r = record {
    same = ap (all_actions m.log) (h.same m.values m.places m.flows m.locals.items);
    safe = record { held = r.held; safe = h.safe m.places r.safe.0 r.safe.1 };
    falls = h.falls;
  }

  pub run_goes : (e : Bor CoreStmt) (us : List Task) → OpensStmt m.scope (stmt_of e.now) m.tasks us → IsReady (task.Run e) m → Goes (task.Run e) m (record m { tasks = us })
  run_goes e us h r = record {
    same = ap (all_actions m.log) (h.same m.values m.places m.flows m.locals.items);
    safe = record { held = r.held; safe = h.safe m.places r.safe.0 r.safe.1 };
    falls = h.falls;
  }

  pub moves_goes : (t : Task) (us : List Task) (xs : List ℤ) (gs : List Flow) (log : Log) → Moves m.scope t m.tasks m.values m.flows m.log us xs gs log → IsReady t m
      → Goes t m (record m { tasks = us; values = xs; flows = gs; log = log })
  moves_goes t us xs gs log h r = record {
    same = h.same m.places m.locals.items;
    safe = record { held = r.held; safe = h.safe m.places r.safe };
    falls = h.falls;
  }

  pub at_goes : (w : Where) (ws : List Where) → ws ≡ w ∷ m.places → IsReady (task.At w) m → Goes (task.At w) m (record m { places = ws })
  at_goes w ws is r = record {
    same = ap (λ ws. all_actions m.log (remaining m.scope m.tasks m.values ws m.flows m.locals.items)) (sym is);
    safe = record { held = r.held; safe = subst (Safe m.scope m.tasks) (sym is) r.safe };
    falls = omega arith;
  }

  pub operate_goes : (op : Operation) (xs : List ℤ) (log : Log)
      → ((after : List ℤ → Locals → Behaviour) (locals : Locals) → all_actions m.log (operated op after m.values locals) ≡ all_actions log (after xs locals))
      → IsReady (task.Operate op) m → Goes (task.Operate op) m (record m { values = xs; log = log })
  operate_goes op xs log h r = record {
    same = h (λ vs. remaining m.scope m.tasks vs m.places m.flows) m.locals.items;
    safe = record { held = r.held; safe = r.safe.1 };
    falls = omega arith;
  }

  pub leave_goes : (way : Way) (xs : List ℤ) (gs : List Flow) → ((after : List ℤ → List Flow → Behaviour) → left_by way after m.values m.flows ≡ after xs gs)
      → IsReady (task.Leave way) m → Goes (task.Leave way) m (record m { values = xs; flows = gs })
  leave_goes way xs gs h r = record {
    same = ap (all_actions m.log) (h (λ vs fs. remaining m.scope m.tasks vs m.places fs m.locals.items));
    safe = record { held = r.held; safe = r.safe };
    falls = omega arith;
  }

  pub keep_goes : (place : ℕ) (gs : List Flow) (ls : Vec Local Global) (before items : Locals)
      → ((after : List Flow → Locals → Behaviour) → fill_in m.scope place 1 (result (top On m.flows) ∷ []) (λ u. after (On ∷ below m.flows)) before ≡ after gs items)
      → before ≡ m.locals.items → ls.items ≡ items → IsReady (task.Keep place) m → Goes (task.Keep place) m (record m { flows = gs; locals = ls })
  keep_goes place gs ls before items h was is r = record {
    same =
        let after : List Flow → Locals → Behaviour = λ fs. remaining m.scope m.tasks m.values m.places fs in
        ap (all_actions m.log)
        (ap (fill_in m.scope place 1 (result (top On m.flows) ∷ []) (λ u. after (On ∷ below m.flows))) (sym was) ∙ h after ∙ ap (after gs) (sym is));
    safe = record { held = r.held; safe = r.safe.1 };
    falls = omega arith;
  }
