-- What a body does from here on: the tasks that are left, one after the other, as what a body does is written.
use Rattle.std.specs.Prelude.{⊤, ◌≡◌, ℕ, ℤ, pos, ◌+◌, ◌<◌, ◌^◌, ◌+ℤ◌, ◌-ℤ◌, ◌*ℤ◌, int_div, Bool, true, false, not, if◌then◌else◌, List, [], ◌∷◌, ◌++◌, length, map, slice_get, unsigned_abs}
use Rattle.nm_base.specs.declared.action.Action.TheVariants as action
use Rattle.nm_base.specs.declared.int_type.IntType.TheVariants.{U16, I16}
use Rattle.nm_base.specs.IntType.{wrapped}
use Rattle.nm_base.specs.Behaviour.{Behaviour, Returns, Does}
use Rattle.nesc_core.specs.Plain as plain
use Rattle.nesc_core.specs.Parts.{is_part}
use Rattle.nesc_core.specs.PlaceTypes.{count_of, element_of, field_offset, fields_of}
use Rattle.nesc_core.specs.Size.{IsSized, layout_of}
use Rattle.nesc_core.specs.View.{case_of, expr_of, exprs_of, maybe_expr_of, place_of, stmt_of, stmts_of, type_of}
use Rattle.core_meaning.specs.declared.access.Where.{Where}
use Rattle.core_meaning.specs.declared.access.Where.TheVariants.{At, Within}
use Rattle.core_meaning.specs.declared.flow.Flow.{Flow}
use Rattle.core_meaning.specs.declared.flow.Flow.TheVariants.{On, Gave}
use Rattle.core_meaning.specs.Flow.{on, again, out_of_switch, result, turns, start_of_value, start_of_default, from_case}
use Rattle.core_meaning.specs.Layout.{object_address, size_of}
use Rattle.core_meaning.specs.Numbers.{binary, is_zero, residue, truth, unary}
use Rattle.core_meaning.specs.Work.{Locals, Work, give, act, ask, fault, or_fault, moved, address_of, load, store, ◌>>=◌, ◌>>◌}
use Rattle.core_meaning.specs.Act.{element, tested}
use Rattle.core_act.specs.declared.scope.Scope.{Scope}
use Rattle.core_act.specs.declared.task.Task.{Task}
use Rattle.core_act.specs.declared.task.Task.TheVariants as task
use Rattle.core_act.specs.declared.task.Operation.{Operation}
use Rattle.core_act.specs.declared.task.Operation.TheVariants as operation
use Rattle.core_act.specs.declared.task.Access.{Access}
use Rattle.core_act.specs.declared.task.Access.TheVariants as access
use Rattle.core_act.specs.declared.task.Logical.{Logical}
use Rattle.core_act.specs.declared.task.Logical.TheVariants as logical
use Rattle.core_act.specs.declared.task.Stage.{Stage}
use Rattle.core_act.specs.declared.task.Stage.TheVariants as stage
use Rattle.core_act.specs.declared.task.Way.{Way}
use Rattle.core_act.specs.declared.task.Way.TheVariants as way
use Rattle.core_act.specs.declared.task.Loop.{Loop}
use Rattle.core_act.specs.declared.task.Callee.{Callee}
use Rattle.core_act.specs.declared.task.Callee.TheVariants as callee
use Rattle.core_act.specs.Scopes.{IsHeld, program_in, types_in, fill_in, size_at, type_at}
use Rattle.core_act.specs.Evaluable.{Findable, Evaluable, AllEvaluable, MaybeEvaluable, Runnable, AllRunnable}
use Rattle.core_act.specs.Stacks.{below, top}
use Rattle.core_act.specs.Told.{LiesWithin}
use Rattle.core_act.specs.Walks.{calls_in, changed, done_in, find_in, run_in, run_from_in, value_in, values_in}

-- ---- what one task does, told what comes behind it

abbrev pub operated : Operation → (List ℤ → Locals → Behaviour) → List ℤ → Locals → Behaviour
operated (operation.Give x) after vs = after (x ∷ vs)
operated (operation.Unary op t) after vs = after (unary op t (top (pos 0) vs) ∷ below vs)
operated (operation.Binary op t) after vs = or_fault 3 (binary op t (top (pos 0) (below vs)) (top (pos 0) vs)) (λ z. after (z ∷ below (below vs)))
operated (operation.Convert t) after vs = after (wrapped t (top (pos 0) vs) ∷ below vs)
operated (operation.Offset size) after vs = after (wrapped U16 (top (pos 0) (below vs) +ℤ top (pos 0) vs *ℤ pos size) ∷ below (below vs))
operated (operation.Distance size) after vs = after (int_div (wrapped I16 (top (pos 0) (below vs) -ℤ top (pos 0) vs)) (pos size) ∷ below (below vs))
operated operation.Truth after vs = after (truth (not (is_zero (top (pos 0) vs))) ∷ below vs)
operated (operation.Out port) after vs = act (action.Out port (residue 16 (top (pos 0) vs))) (λ u. after (top (pos 0) vs ∷ below vs))
operated (operation.Ask a) after vs = ask a (λ x. after (pos x ∷ vs))
operated (operation.Perform a) after vs = act a (λ u. after vs)
operated operation.Drop after vs = after (below vs)

-- no distance in parts without bytes
abbrev pub IsOperable : Operation → Type 0
IsOperable (operation.Distance size) = 0 < size
IsOperable _ = ⊤

abbrev pub nowhere : Where
nowhere = At 0

abbrev pub accessed : Scope → Access → plain.Place → (List ℤ → List Where → Locals → Behaviour) → List ℤ → List Where → Locals → Behaviour
accessed s access.Index base after vs ws =
    element (count_of (type_at s base)) (size_of (program_in s) (element_of (type_at s base))) (top nowhere ws) (top (pos 0) vs) (λ w. after (below vs) (w ∷ below ws))
accessed s (access.Field k) base after vs ws = after vs (moved (top nowhere ws) (field_offset (program_in s).structs (type_at s base) k) ∷ below ws)
accessed s access.Address place after vs ws = after (pos (address_of (top nowhere ws)) ∷ vs) (below ws)
accessed s access.Load place after vs ws = load (type_at s place) (top nowhere ws) (λ v. after (v ∷ vs) (below ws))
accessed s access.Old place after vs ws = load (type_at s place) (top nowhere ws) (λ v. after (v ∷ vs) (top nowhere ws ∷ below ws))
accessed s access.Store place after vs ws = store (type_at s place) (top nowhere ws) (top (pos 0) vs) (λ u. after (top (pos 0) vs ∷ below vs) (below ws))
accessed s (access.Change c) place after vs ws =
    changed (type_at s place) c.op c.at c.gives_old (top nowhere ws) (top (pos 0) (below vs)) (top (pos 0) vs) (λ v. after (v ∷ below (below vs)) (below ws))

abbrev pub LiesAt : Scope → plain.Place → List Where → Type 0
LiesAt s place ws = LiesWithin (size_at s place + 2) (top nowhere ws)

abbrev pub IsAccessible : Scope → Access → plain.Place → List Where → Type 0
IsAccessible s access.Index base ws = IsSized (program_in s).structs (type_at s base) × LiesAt s base ws
IsAccessible s (access.Field k) base ws =
    IsSized (program_in s).structs (type_at s base) × (k < length (fields_of (program_in s).structs (type_at s base))) × LiesAt s base ws
IsAccessible s access.Address place ws = ⊤
IsAccessible s _ place ws = LiesAt s place ws

-- which places are there then
abbrev pub IsAccessed : Scope → Access → plain.Place → (before behind : List Where) → Type 0
IsAccessed s access.Index base ws us = (w : Where) × LiesWithin (size_of (program_in s) (element_of (type_at s base)) + 2) w × (us ≡ w ∷ below ws)
IsAccessed s (access.Field k) base ws us = (w : Where) × LiesWithin (size_at s (plain.field base k) + 2) w × (us ≡ w ∷ below ws)
IsAccessed s access.Old place ws us = us ≡ top nowhere ws ∷ below ws
IsAccessed s _ place ws us = us ≡ below ws

abbrev pub pointed : Scope → plain.Ty → (List ℤ → List Where → Locals → Behaviour) → List ℤ → List Where → Locals → Behaviour
pointed s t after vs ws =
    (if is_part (program_in s) t (unsigned_abs (top (pos 0) vs)) then give (At (unsigned_abs (top (pos 0) vs))) else fault 2) (λ w. after (below vs) (w ∷ ws))

abbrev pub seconded : Scope → Logical → plain.Expr → ℤ → Work ℤ
seconded s logical.And b x = if is_zero x then give (pos 0) else tested (value_in s b)
seconded s logical.Or b x = if is_zero x then tested (value_in s b) else give (pos 1)

abbrev pub left_by : Way → (List ℤ → List Flow → Behaviour) → List ℤ → List Flow → Behaviour
left_by (way.By flow) after vs fs = after vs (flow ∷ fs)
left_by way.Gives after vs fs = after (below vs) (Gave (top (pos 0) vs) ∷ fs)
left_by way.OutOfSwitch after vs fs = after vs (out_of_switch (top On fs) ∷ below fs)
left_by way.OutOfCall after vs fs = after vs (On ∷ below fs)

-- behind the test of a loop that is not 0, and behind its body
abbrev pub behind_test : (first : Bool) → Work Flow → Work (Unit {0}) → Work Flow → Work Flow
behind_test true body step more = do
  flow ← body
  again flow (do
    step
    more)
behind_test false body step more = more

abbrev pub behind_body : (first : Bool) → Work ℤ → Work (Unit {0}) → Work Flow → Flow → Work Flow
behind_body true test step more flow = again flow (do
  step
  more)
behind_body false test step more flow = again flow (do
  x ← test
  if is_zero x then give On else more)

abbrev pub turns_in : Scope → Loop → ℕ → Work Flow
turns_in s l left = turns left l.first (value_in s (expr_of l.test.now)) (run_in s (stmt_of l.body.now)) (done_in s (maybe_expr_of l.step.now))

abbrev pub repeated : Scope → Stage → Loop → ℕ → (List ℤ → List Flow → Locals → Behaviour) → List ℤ → List Flow → Locals → Behaviour
repeated s stage.Begins l left after vs fs = turns_in s l left (λ flow. after vs (flow ∷ fs))
repeated s stage.Tested l left after vs fs =
    (if is_zero (top (pos 0) vs) then give On else behind_test l.first (run_in s (stmt_of l.body.now)) (done_in s (maybe_expr_of l.step.now)) (turns_in s l left)) (λ flow. after (below vs) (flow ∷ fs))
repeated s stage.Left l left after vs fs =
    behind_body l.first (value_in s (expr_of l.test.now)) (done_in s (maybe_expr_of l.step.now)) (turns_in s l left) (top On fs) (λ flow. after vs (flow ∷ below fs))

-- what is called with these arguments
abbrev pub handed : Scope → Callee → List ℤ → (List ℤ → Locals → Behaviour) → List ℤ → Locals → Behaviour
handed s (callee.Body f) xs after vs locals = Does action.Tick (calls_in s f xs (λ v. Does action.Tick (after (v ∷ vs) locals)))
handed s (callee.Here first count) xs after vs locals = fill_in s first count xs (λ u. after vs) locals

-- ---- what all tasks do that are left, with these stacks of values, of places and of ways out of statements

abbrev pub remaining : Scope → List Task → List ℤ → List Where → List Flow → Locals → Behaviour
remaining s [] vs ws fs locals = Returns (residue 32 (top (pos 0) vs))
remaining s (task.Value e ∷ ts) vs ws fs locals = value_in s (expr_of e.now) (λ v. remaining s ts (v ∷ vs) ws fs) locals
remaining s (task.Second op b ∷ ts) vs ws fs locals = seconded s op (expr_of b.now) (top (pos 0) vs) (λ v. remaining s ts (v ∷ below vs) ws fs) locals
remaining s (task.Cond a b ∷ ts) vs ws fs locals =
    (if is_zero (top (pos 0) vs) then value_in s (expr_of b.now) else value_in s (expr_of a.now)) (λ v. remaining s ts (v ∷ below vs) ws fs) locals
remaining s (task.Find place ∷ ts) vs ws fs locals = find_in s (place_of place.now) (λ w. remaining s ts vs (w ∷ ws) fs) locals
remaining s (task.At w ∷ ts) vs ws fs locals = remaining s ts vs (w ∷ ws) fs locals
remaining s (task.Access a place ∷ ts) vs ws fs locals = accessed s a (place_of place.now) (λ vs ws. remaining s ts vs ws fs) vs ws locals
remaining s (task.Point t ∷ ts) vs ws fs locals = pointed s (type_of t.now) (λ vs ws. remaining s ts vs ws fs) vs ws locals
remaining s (task.Operate op ∷ ts) vs ws fs locals = operated op (λ vs. remaining s ts vs ws fs) vs locals
remaining s (task.Run x ∷ ts) vs ws fs locals = run_in s (stmt_of x.now) (λ flow. remaining s ts vs ws (flow ∷ fs)) locals
remaining s (task.If a b ∷ ts) vs ws fs locals =
    (if is_zero (top (pos 0) vs) then run_in s (stmt_of b.now.value) else run_in s (stmt_of a.now.value)) (λ flow. remaining s ts (below vs) ws (flow ∷ fs)) locals
remaining s (task.Switch cases list ∷ ts) vs ws fs locals =
    from_case (start_of_value (map case_of cases.now) (top (pos 0) vs)) (start_of_default (map case_of cases.now)) (run_from_in s (stmts_of list.now)) (λ flow. remaining s ts (below vs) ws (flow ∷ fs)) locals
remaining s (task.Repeat stage l left ∷ ts) vs ws fs locals = repeated s stage l left (λ vs fs. remaining s ts vs ws fs) vs fs locals
remaining s (task.Keep place ∷ ts) vs ws fs locals = fill_in s place 1 (result (top On fs) ∷ []) (λ u. remaining s ts vs ws (On ∷ below fs)) locals
remaining s (task.Rest list ∷ ts) vs ws fs locals = on (top On fs) (run_from_in s (stmts_of list.now) 0) (λ flow. remaining s ts vs ws (flow ∷ below fs)) locals
remaining s (task.Leave way ∷ ts) vs ws fs locals = left_by way (λ vs fs. remaining s ts vs ws fs locals) vs fs
remaining s (task.Clear x ∷ ts) vs ws fs locals = fill_in s x 1 [] (λ u. remaining s ts vs ws fs) locals
remaining s (task.Pass a ∷ ts) vs ws fs locals = values_in s (exprs_of a.rest.now) (λ xs. handed s a.to (a.passed.items ++ xs) (λ vs. remaining s ts vs ws fs) vs) locals
remaining s (task.Passed a ∷ ts) vs ws fs locals =
    values_in s (exprs_of a.rest.now) (λ xs. handed s a.to (a.passed.items ++ top (pos 0) vs ∷ xs) (λ vs. remaining s ts vs ws fs) (below vs)) locals
remaining s (task.Back caller ∷ ts) vs ws fs locals = remaining caller.scope ts (result (top On fs) ∷ vs) ws (below fs) caller.locals.items

-- ---- that each of them can be done

abbrev pub Safe : Scope → List Task → List Where → Type 0
Safe s [] ws = ⊤
Safe s (task.Value e ∷ ts) ws = Evaluable (program_in s) (types_in s) (expr_of e.now) × Safe s ts ws
Safe s (task.Second op b ∷ ts) ws = Evaluable (program_in s) (types_in s) (expr_of b.now) × Safe s ts ws
Safe s (task.Cond a b ∷ ts) ws = Evaluable (program_in s) (types_in s) (expr_of a.now) × Evaluable (program_in s) (types_in s) (expr_of b.now) × Safe s ts ws
Safe s (task.Find place ∷ ts) ws =
    Findable (program_in s) (types_in s) (place_of place.now) × ((w : Where) → LiesWithin (size_at s (place_of place.now) + 2) w → Safe s ts (w ∷ ws))
Safe s (task.At w ∷ ts) ws = Safe s ts (w ∷ ws)
Safe s (task.Access a place ∷ ts) ws =
    IsAccessible s a (place_of place.now) ws × ((us : List Where) → IsAccessed s a (place_of place.now) ws us → Safe s ts us)
Safe s (task.Point t ∷ ts) ws =
    IsSized (program_in s).structs (type_of t.now) × (0 < (layout_of (program_in s).structs (type_of t.now)).size)
    × ((w : Where) → ((n : ℕ) → LiesWithin n w) → Safe s ts (w ∷ ws))
Safe s (task.Operate op ∷ ts) ws = IsOperable op × Safe s ts ws
Safe s (task.Run x ∷ ts) ws = Runnable (program_in s) (types_in s) (stmt_of x.now) × Safe s ts ws
Safe s (task.If a b ∷ ts) ws = Runnable (program_in s) (types_in s) (stmt_of a.now.value) × Runnable (program_in s) (types_in s) (stmt_of b.now.value) × Safe s ts ws
Safe s (task.Switch cases list ∷ ts) ws = AllRunnable (program_in s) (types_in s) (stmts_of list.now) × Safe s ts ws
Safe s (task.Repeat stage l left ∷ ts) ws =
    Evaluable (program_in s) (types_in s) (expr_of l.test.now) × MaybeEvaluable (program_in s) (types_in s) (maybe_expr_of l.step.now)
    × Runnable (program_in s) (types_in s) (stmt_of l.body.now) × Safe s ts ws
Safe s (task.Keep place ∷ ts) ws = (place < 2 ^ 33) × Safe s ts ws
Safe s (task.Rest list ∷ ts) ws = AllRunnable (program_in s) (types_in s) (stmts_of list.now) × Safe s ts ws
Safe s (task.Leave way ∷ ts) ws = Safe s ts ws
Safe s (task.Clear x ∷ ts) ws = Safe s ts ws
Safe s (task.Pass a ∷ ts) ws = AllEvaluable (program_in s) (types_in s) (exprs_of a.rest.now) × Safe s ts ws
Safe s (task.Passed a ∷ ts) ws = AllEvaluable (program_in s) (types_in s) (exprs_of a.rest.now) × Safe s ts ws
Safe s (task.Back caller ∷ ts) ws = IsHeld caller.scope × Safe caller.scope ts ws
