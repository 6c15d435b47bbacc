-- What each form of a tree is taken apart into.
use Rattle.std.proofs.Common.{◌≡◌, ◌∙◌, ◌<◌, ◌+◌, ap, sym, subst, refl, arith, ℕ, ℤ, Bool, true, false, Option, Some, None, List, [], ◌∷◌, ◌++◌, ◌*◌, ◌^◌, map, Box, Global}
use Rattle.std.specs.Prelude.{pos, if◌then◌else◌, slice_get}
use denote.Ref.{Bor}
use Rattle.nm_base.specs.declared.action.Action.TheVariants as action
use Rattle.nm_base.specs.declared.int_type.IntType.{IntType}
use Rattle.nm_base.specs.declared.int_type.IntType.TheVariants.{U8}
use Rattle.nm_base.specs.declared.pos.Pos.{Pos}
use Rattle.nm_base.specs.Behaviour.{Does}
use Rattle.nesc_core.specs.declared.tree.UnOp.{UnOp}
use Rattle.nesc_core.specs.declared.tree.BinOp.{BinOp}
use Rattle.nesc_core.specs.declared.tree.CoreExpr.{CoreExpr}
use Rattle.nesc_core.specs.declared.tree.CoreStmt.{CoreStmt}
use Rattle.nesc_core.specs.declared.tree.CoreType.{CoreType}
use Rattle.nesc_core.specs.declared.tree.Place as tree
use Rattle.nesc_core.specs.Heres.{gives_value}
use Rattle.nesc_core.specs.Plain as plain
use Rattle.nesc_core.specs.View.{case_of, expr_of, exprs_of, maybe_expr_of, place_of, stmt_of, stmts_of, type_of}
use Rattle.core_meaning.specs.declared.access.Where.{Where}
use Rattle.core_meaning.specs.declared.access.Where.TheVariants.{At, Within}
use Rattle.core_meaning.specs.declared.flow.Flow.{Flow}
use Rattle.core_meaning.specs.declared.flow.Flow.TheVariants.{On, Broke, Continued, Gave}
use Rattle.core_meaning.specs.Flow.{result}
use Rattle.core_meaning.specs.Layout.{object_address}
use Rattle.core_meaning.specs.Work.{Locals, give}
use Rattle.core_act.specs.declared.scope.Scope.{Scope}
use Rattle.core_act.specs.declared.changes.Change.{Change}
use Rattle.core_act.specs.declared.task.Arguments.{Arguments}
use Rattle.core_act.specs.declared.task.Loop.{Loop}
use Rattle.core_act.specs.declared.task.Task.{Task}
use Rattle.core_act.specs.declared.task.Task.TheVariants as task
use Rattle.core_act.specs.declared.task.Operation.TheVariants as operation
use Rattle.core_act.specs.declared.task.Access.TheVariants as access
use Rattle.core_act.specs.declared.task.Logical.TheVariants as logical
use Rattle.core_act.specs.declared.task.Way.TheVariants as way
use Rattle.core_act.specs.declared.task.Stage.TheVariants as stage
use Rattle.core_act.specs.declared.task.Callee.TheVariants as callee
use Rattle.core_act.specs.Moves.{OpensValue, OpensPlace, OpensStmt, OpensStep}
use Rattle.core_act.specs.Remaining.{IsAccessed, IsAccessible, Safe, handed, remaining, turns_in}
use Rattle.core_act.specs.Scopes.{IsHeld, fill_in, program_in, size_at}
use Rattle.core_act.specs.Steps.{callee_steps, steps_left, turn_steps}
use Rattle.core_act.proofs.Sized.{place_sized}
use Rattle.core_act.specs.Told.{LiesWithin}
use Rattle.core_act.specs.Walks.{calls_in, done_in, find_in, run_in, run_from_in, value_in, values_in}

module _ {s : Scope} {ts : List Task} where
  pub as_value : {x y : plain.Expr} {us vs : List Task} → OpensValue s x ts us → y ≡ x → vs ≡ us → OpensValue s y ts vs
  as_value {y = y} {us = us} h is new = subst (λ vs. OpensValue s y ts vs) (sym new) (subst (λ e. OpensValue s e ts us) (sym is) h)

  pub as_place : {x y : plain.Place} {us vs : List Task} → OpensPlace s x ts us → y ≡ x → vs ≡ us → OpensPlace s y ts vs
  as_place {y = y} {us = us} h is new = subst (λ vs. OpensPlace s y ts vs) (sym new) (subst (λ e. OpensPlace s e ts us) (sym is) h)

  pub as_stmt : {x y : plain.Stmt} {us vs : List Task} → OpensStmt s x ts us → y ≡ x → vs ≡ us → OpensStmt s y ts vs
  as_stmt {y = y} {us = us} h is new = subst (λ vs. OpensStmt s y ts vs) (sym new) (subst (λ e. OpensStmt s e ts us) (sym is) h)

  pub as_step : {x y : Option plain.Expr} {us vs : List Task} → OpensStep s x ts us → y ≡ x → vs ≡ us → OpensStep s y ts vs
  as_step {y = y} {us = us} h is new = subst (λ vs. OpensStep s y ts vs) (sym new) (subst (λ e. OpensStep s e ts us) (sym is) h)

module _ (s : Scope) (ts : List Task) where
  -- ---- expressions

  pub const_opens : (t : IntType) (x : ℤ) → OpensValue s (plain.const t x) ts (task.Operate (operation.Give x) ∷ ts)
  unfolding value_in
  const_opens t x = record { same = λ vs ws fs locals. refl; safe = λ ws e h. (tt, h); falls = omega arith }

  pub null_opens : OpensValue s plain.null ts (task.Operate (operation.Give (pos 0)) ∷ ts)
  unfolding value_in
  null_opens = record { same = λ vs ws fs locals. refl; safe = λ ws e h. (tt, h); falls = omega arith }

  pub read_opens : (place : Bor tree.Place) (at : Pos) → OpensValue s (plain.read (place_of place.now) at) ts (task.Find place ∷ task.Access access.Load place ∷ ts)
  unfolding value_in find_in
  read_opens place at = record {
    same = λ vs ws fs locals. refl;
    safe = λ ws e h. (e, λ w lies. (lies, λ us is. subst (Safe s ts) (sym is) h));
    falls = omega arith;
  }

  pub addr_opens : (place : Bor tree.Place) → OpensValue s (plain.addr (place_of place.now)) ts (task.Find place ∷ task.Access access.Address place ∷ ts)
  unfolding value_in find_in
  addr_opens place = record {
    same = λ vs ws fs locals. refl;
    safe = λ ws e h. (e, λ w lies. (tt, λ us is. subst (Safe s ts) (sym is) h));
    falls = omega arith;
  }

  pub un_opens : (op : UnOp) (t : IntType) (a : Bor CoreExpr) → OpensValue s (plain.un op t (expr_of a.now)) ts (task.Value a ∷ task.Operate (operation.Unary op t) ∷ ts)
  unfolding value_in
  un_opens op t a = record { same = λ vs ws fs locals. refl; safe = λ ws e h. (e, (tt, h)); falls = omega arith }

  pub bin_opens : (op : BinOp) (t : IntType) (a b : Bor CoreExpr)
      → OpensValue s (plain.bin op t (expr_of a.now) (expr_of b.now)) ts (task.Value a ∷ task.Value b ∷ task.Operate (operation.Binary op t) ∷ ts)
  unfolding value_in
  bin_opens op t a b = record { same = λ vs ws fs locals. refl; safe = λ ws e h. (e.0, (e.1, (tt, h))); falls = omega arith }

  pub convert_opens : (t : IntType) (a : Bor CoreExpr) → OpensValue s (plain.convert t (expr_of a.now)) ts (task.Value a ∷ task.Operate (operation.Convert t) ∷ ts)
  unfolding value_in
  convert_opens t a = record { same = λ vs ws fs locals. refl; safe = λ ws e h. (e, (tt, h)); falls = omega arith }

  pub offset_opens : (a b : Bor CoreExpr) (size : ℕ)
      → OpensValue s (plain.offset (expr_of a.now) (expr_of b.now) size) ts (task.Value a ∷ task.Value b ∷ task.Operate (operation.Offset size) ∷ ts)
  unfolding value_in
  offset_opens a b size = record { same = λ vs ws fs locals. refl; safe = λ ws e h. (e.0, (e.1, (tt, h))); falls = omega arith }

  pub distance_opens : (a b : Bor CoreExpr) (size : ℕ)
      → OpensValue s (plain.distance (expr_of a.now) (expr_of b.now) size) ts (task.Value a ∷ task.Value b ∷ task.Operate (operation.Distance size) ∷ ts)
  unfolding value_in
  distance_opens a b size = record { same = λ vs ws fs locals. refl; safe = λ ws e h. (e.1, (e.2, (e.0, h))); falls = omega arith }

  pub and_opens : (a b : Bor CoreExpr) → OpensValue s (plain.both (expr_of a.now) (expr_of b.now)) ts (task.Value a ∷ task.Second logical.And b ∷ ts)
  unfolding value_in
  and_opens a b = record { same = λ vs ws fs locals. refl; safe = λ ws e h. (e.0, (e.1, h)); falls = omega arith }

  pub or_opens : (a b : Bor CoreExpr) → OpensValue s (plain.either (expr_of a.now) (expr_of b.now)) ts (task.Value a ∷ task.Second logical.Or b ∷ ts)
  unfolding value_in
  or_opens a b = record { same = λ vs ws fs locals. refl; safe = λ ws e h. (e.0, (e.1, h)); falls = omega arith }

  pub cond_opens : (test a b : Bor CoreExpr) → OpensValue s (plain.choice (expr_of test.now) (expr_of a.now) (expr_of b.now)) ts (task.Value test ∷ task.Cond a b ∷ ts)
  unfolding value_in
  cond_opens test a b = record { same = λ vs ws fs locals. refl; safe = λ ws e h. (e.0, (e.1, e.2, h)); falls = omega arith }

  pub assign_opens : (place : Bor tree.Place) (a : Bor CoreExpr) (at : Pos)
      → OpensValue s (plain.assign (place_of place.now) (expr_of a.now) at) ts (task.Find place ∷ task.Value a ∷ task.Access access.Store place ∷ ts)
  unfolding value_in find_in
  assign_opens place a at = record {
    same = λ vs ws fs locals. refl;
    safe = λ ws e h. (e.0, λ w lies. (e.1, (lies, λ us is. subst (Safe s ts) (sym is) h)));
    falls = omega arith;
  }

  pub update_opens : (place : Bor tree.Place) (c : Change) (a : Bor CoreExpr) (at : Pos)
      → OpensValue s (plain.update (place_of place.now) c.op c.at (expr_of a.now) c.gives_old at) ts
      (task.Find place ∷ task.Access access.Old place ∷ task.Value a ∷ task.Access (access.Change c) place ∷ ts)
  unfolding value_in find_in
  update_opens place c a at = record {
    same = λ vs ws fs locals. refl;
    safe = λ ws e h. (
      e.0,
      λ w lies. (
        lies,
        λ us is. (
          e.1,
          subst (λ us. IsAccessible s (access.Change c) (place_of place.now) us × ((xs : List Where) → IsAccessed s (access.Change c) (place_of place.now) us xs → Safe s ts xs)) (sym is)
              (lies, λ xs is. subst (Safe s ts) (sym is) h),
        ),
      ),
    );
    falls = omega arith;
  }

  pub call_opens : (a : Arguments) (f : ℕ) (at : Pos) → a.to ≡ callee.Body f → a.passed.items ≡ [] → OpensValue s (plain.call f (exprs_of a.rest.now) at) ts (task.Pass a ∷ ts)
  unfolding value_in values_in
  call_opens a f at to none = record {
    same = λ vs ws fs locals. (λ j. values_in s (exprs_of a.rest.now) (λ xs. handed s (sym to j) (sym none j ++ xs) (λ vs. remaining s ts vs ws fs) vs) locals);
    safe = λ ws e h. (e, h);
    falls = let k = ap (callee_steps s) to in omega (arith, k);
  }

  pub post_opens : (k : ℕ) → OpensValue s (plain.post k) ts (task.Operate (operation.Ask (action.Post k)) ∷ task.Operate (operation.Convert U8) ∷ ts)
  unfolding value_in
  post_opens k = record { same = λ vs ws fs locals. refl; safe = λ ws e h. (tt, (tt, h)); falls = omega arith }

  pub in_opens : (port : ℕ) → OpensValue s (plain.port_in port) ts (task.Operate (operation.Ask (action.In port)) ∷ ts)
  unfolding value_in
  in_opens port = record { same = λ vs ws fs locals. refl; safe = λ ws e h. (tt, h); falls = omega arith }

  pub out_opens : (port : ℕ) (a : Bor CoreExpr) → OpensValue s (plain.port_out port (expr_of a.now)) ts (task.Value a ∷ task.Operate (operation.Out port) ∷ ts)
  unfolding value_in
  out_opens port a = record { same = λ vs ws fs locals. refl; safe = λ ws e h. (e, (tt, h)); falls = omega arith }

  pub comma_opens : (a b : Bor CoreExpr) → OpensValue s (plain.comma (expr_of a.now) (expr_of b.now)) ts (task.Value a ∷ task.Operate operation.Drop ∷ task.Value b ∷ ts)
  unfolding value_in
  comma_opens a b = record { same = λ vs ws fs locals. refl; safe = λ ws e h. (e.0, (tt, (e.1, h))); falls = omega arith }

  -- ---- places

  pub object_opens : (k : ℕ) (w : Where) → w ≡ At (object_address (slice_get (program_in s).objects k)) → OpensPlace s (plain.object k) ts (task.At w ∷ ts)
  unfolding find_in
  object_opens k w is = record {
    same = λ vs ws fs locals. ap (λ w. remaining s ts vs (w ∷ ws) fs locals) (sym is);
    safe = λ ws e h. subst (λ w. Safe s ts (w ∷ ws)) (sym is) (h _ tt);
    falls = omega arith;
  }

  pub local_opens : (x : ℕ) (w : Where) → w ≡ Within x 0 → LiesWithin (size_at s (plain.local x) + 2) w → OpensPlace s (plain.local x) ts (task.At w ∷ ts)
  unfolding find_in
  local_opens x w is lies = record {
    same = λ vs ws fs locals. ap (λ w. remaining s ts vs (w ∷ ws) fs locals) (sym is);
    safe = λ ws e h. h w lies;
    falls = omega arith;
  }

  pub deref_opens : (a : Bor CoreExpr) (t : Bor CoreType) → OpensPlace s (plain.deref (expr_of a.now) (type_of t.now)) ts (task.Value a ∷ task.Point t ∷ ts)
  unfolding value_in find_in
  deref_opens a t = record {
    same = λ vs ws fs locals. refl;
    safe = λ ws e h. (e.2, (e.0, e.1, λ w lies. h w (lies _)));
    falls = omega arith;
  }

  pub index_opens : (base : Bor tree.Place) (a : Bor CoreExpr) → IsHeld s
      → OpensPlace s (plain.index (place_of base.now) (expr_of a.now)) ts (task.Find base ∷ task.Value a ∷ task.Access access.Index base ∷ ts)
  unfolding value_in find_in
  index_opens base a held = record {
    same = λ vs ws fs locals. refl;
    safe = λ ws e h. (e.0, λ w lies. (e.1, ((place_sized _ _ held (place_of base.now) e.0, lies), λ us o. subst (Safe s ts) (sym o.2) (h o.0 o.1))));
    falls = omega arith;
  }

  pub field_opens : (base : Bor tree.Place) (k : ℕ) → IsHeld s
      → OpensPlace s (plain.field (place_of base.now) k) ts (task.Find base ∷ task.Access (access.Field k) base ∷ ts)
  unfolding find_in
  field_opens base k held = record {
    same = λ vs ws fs locals. refl;
    safe = λ ws e h. (e.1, λ w lies. ((place_sized _ _ held (place_of base.now) e.1, e.0, lies), λ us o. subst (Safe s ts) (sym o.2) (h o.0 o.1)));
    falls = omega arith;
  }

  -- ---- statements

  pub eval_opens : (a : Bor CoreExpr) → OpensStmt s (plain.eval (expr_of a.now)) ts (task.Value a ∷ task.Operate operation.Drop ∷ task.Leave (way.By On) ∷ ts)
  unfolding run_in value_in
  eval_opens a = record { same = λ vs ws fs locals. refl; safe = λ ws e h. (e, (tt, h)); falls = omega arith }

  pub block_opens : (list : Bor (List CoreStmt)) → OpensStmt s (plain.block (stmts_of list.now)) ts (task.Leave (way.By On) ∷ task.Rest list ∷ ts)
  unfolding run_in run_from_in
  block_opens list = record { same = λ vs ws fs locals. refl; safe = λ ws e h. (e, h); falls = omega arith }

  pub if_opens : (test : Bor CoreExpr) (a b : Bor (Box CoreStmt Global))
      → OpensStmt s (plain.branch (expr_of test.now) (stmt_of a.now.value) (stmt_of b.now.value)) ts (task.Value test ∷ task.If a b ∷ ts)
  unfolding run_in value_in
  if_opens test a b = record { same = λ vs ws fs locals. refl; safe = λ ws e h. (e.0, (e.1, e.2, h)); falls = omega arith }

  pub loop_opens : (l : Loop) (left : ℕ) → left ≡ s.turns
      → OpensStmt s (plain.loop l.first (expr_of l.test.now) (maybe_expr_of l.step.now) (stmt_of l.body.now)) ts (task.Repeat stage.Begins l left ∷ ts)
  unfolding run_in value_in done_in
  loop_opens l left is = record {
    same = λ vs ws fs locals. ap (λ n. turns_in s l n (λ flow. remaining s ts vs ws (flow ∷ fs)) locals) (sym is);
    safe = λ ws e h. (e.0, e.1, e.2, h);
    falls = let k = ap (λ n. n * turn_steps s l) is in omega (arith, k);
  }

  pub switch_opens : (a : Bor CoreExpr) (cases : Bor (List (Option ℤ × ℕ))) (list : Bor (List CoreStmt))
      → OpensStmt s (plain.switch (expr_of a.now) (map case_of cases.now) (stmts_of list.now)) ts (task.Value a ∷ task.Switch cases list ∷ task.Leave way.OutOfSwitch ∷ ts)
  unfolding run_in value_in run_from_in
  switch_opens a cases list = record { same = λ vs ws fs locals. refl; safe = λ ws e h. (e.0, (e.1, h)); falls = omega arith }

  pub break_opens : OpensStmt s plain.break ts (task.Leave (way.By Broke) ∷ ts)
  unfolding run_in
  break_opens = record { same = λ vs ws fs locals. refl; safe = λ ws e h. h; falls = omega arith }

  pub continue_opens : OpensStmt s plain.continue ts (task.Leave (way.By Continued) ∷ ts)
  unfolding run_in
  continue_opens = record { same = λ vs ws fs locals. refl; safe = λ ws e h. h; falls = omega arith }

  pub return_none_opens : OpensStmt s (plain.return None) ts (task.Leave (way.By (Gave (pos 0))) ∷ ts)
  unfolding run_in
  return_none_opens = record { same = λ vs ws fs locals. refl; safe = λ ws e h. h; falls = omega arith }

  pub return_some_opens : (a : Bor CoreExpr) → OpensStmt s (plain.return (Some (expr_of a.now))) ts (task.Value a ∷ task.Leave way.Gives ∷ ts)
  unfolding run_in value_in
  return_some_opens a = record { same = λ vs ws fs locals. refl; safe = λ ws e h. (e, h); falls = omega arith }

  pub atomic_opens : (a : Bor CoreStmt)
      → OpensStmt s (plain.atomic (stmt_of a.now)) ts (task.Operate (operation.Perform action.Begin) ∷ task.Run a ∷ task.Operate (operation.Perform action.End) ∷ ts)
  unfolding run_in
  atomic_opens a = record { same = λ vs ws fs locals. refl; safe = λ ws e h. (tt, (e, (tt, h))); falls = omega arith }

  pub clear_opens : (x : ℕ) → OpensStmt s (plain.clear x) ts (task.Clear x ∷ task.Leave (way.By On) ∷ ts)
  unfolding run_in calls_in
  clear_opens x = record { same = λ vs ws fs locals. refl; safe = λ ws e h. h; falls = omega arith }

  ended : (g : Bool) (place : ℕ) (vs : List ℤ) (ws : List Where) (flow : Flow) (fs : List Flow) (locals : Locals)
      → remaining s ((if g then task.Keep place else task.Leave way.OutOfCall) ∷ ts) vs ws (flow ∷ fs) locals
      ≡ (if g then fill_in s place 1 (result flow ∷ []) else give tt) (λ u. remaining s ts vs ws (On ∷ fs)) locals
  ended true place vs ws flow fs locals = refl
  ended false place vs ws flow fs locals = refl

  ended_safe : (g : Bool) (place : ℕ) (ws : List Where) → place < 2 ^ 33 → Safe s ts ws → Safe s ((if g then task.Keep place else task.Leave way.OutOfCall) ∷ ts) ws
  ended_safe true place ws low h = (low, h)
  ended_safe false place ws low h = h

  ended_steps : (g : Bool) (place : ℕ) → steps_left s ((if g then task.Keep place else task.Leave way.OutOfCall) ∷ ts) ≡ 1 + steps_left s ts
  ended_steps true place = refl
  ended_steps false place = refl

  pub here_opens : (a : Arguments) (first count place : ℕ) (body : Bor CoreStmt) (end : Task) → a.to ≡ callee.Here first count → a.passed.items ≡ [] → place ≡ first + count → place < 2 ^ 33
      → end ≡ (if gives_value (stmt_of body.now) then task.Keep place else task.Leave way.OutOfCall)
      → OpensStmt s (plain.here (exprs_of a.rest.now) first count (stmt_of body.now)) ts
      (task.Pass a ∷ task.Operate (operation.Perform action.Tick) ∷ task.Run body ∷ task.Operate (operation.Perform action.Tick) ∷ end ∷ ts)
  unfolding run_in values_in calls_in
  here_opens a first count place body end to none at low is =
      let g = gives_value (stmt_of body.now) in
      record {
        same = λ vs ws fs locals.
            let last : (vs : List ℤ) (flow : Flow) (locals : Locals) → remaining s (end ∷ ts) vs ws (flow ∷ fs) locals ≡ (if g then fill_in s (first + count) 1 (result flow ∷ []) else give tt) (λ u. remaining s ts vs ws (On ∷ fs)) locals =
            λ vs flow locals.
            ap (λ e. remaining s (e ∷ ts) vs ws (flow ∷ fs) locals) is ∙ ended g place vs ws flow fs locals
            ∙ ap (λ k. (if g then fill_in s k 1 (result flow ∷ []) else give tt) (λ u. remaining s ts vs ws (On ∷ fs)) locals) at in
            (λ j. values_in s (exprs_of a.rest.now) (λ xs. handed s (sym to j) (sym none j ++ xs)
            (λ vs locals. Does action.Tick (run_in s (stmt_of body.now) (λ flow locals. Does action.Tick (sym (last vs flow locals) j)) locals)) vs) locals);
        safe = λ ws e h. (e.0, (tt, (e.1, (tt, subst (λ x. Safe s (x ∷ ts) ws) (sym is) (ended_safe g place ws low h)))));
        falls = let k = ap (callee_steps s) to in let n = ap (λ x. steps_left s (x ∷ ts)) is ∙ ended_steps g place in omega (arith, k, n);
      }

  pub here_pushed : (a : Arguments) (first count place : ℕ) (body : Bor CoreStmt) (end : Task) {us xs : List Task} → a.to ≡ callee.Here first count → a.passed.items ≡ [] → place ≡ first + count → place < 2 ^ 33
      → end ≡ (if gives_value (stmt_of body.now) then task.Keep place else task.Leave way.OutOfCall)
      → us ≡ task.Run body ∷ task.Operate (operation.Perform action.Tick) ∷ end ∷ ts → xs ≡ task.Pass a ∷ task.Operate (operation.Perform action.Tick) ∷ us
      → OpensStmt s (plain.here (exprs_of a.rest.now) first count (stmt_of body.now)) ts xs
  here_pushed a first count place body end to none at low is u x =
      as_stmt (here_opens a first count place body end to none at low is) refl (x ∙ ap (λ us. task.Pass a ∷ task.Operate (operation.Perform action.Tick) ∷ us) u)

  -- ---- steps of loops

  pub step_none_opens : OpensStep s None ts ts
  unfolding done_in
  step_none_opens = record { same = λ vs ws fs locals. refl; safe = λ ws e h. h; falls = omega arith }

  pub step_some_opens : (a : Bor CoreExpr) → OpensStep s (Some (expr_of a.now)) ts (task.Value a ∷ task.Operate operation.Drop ∷ ts)
  unfolding done_in value_in
  step_some_opens a = record { same = λ vs ws fs locals. refl; safe = λ ws e h. (e, (tt, h)); falls = omega arith }
