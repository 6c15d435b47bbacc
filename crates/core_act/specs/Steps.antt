-- How many tasks are done at most: what falls from one task to the next.
use Rattle.std.specs.Prelude.{ℕ, zero, suc, ◌+◌, ◌*◌, Bool, true, false, if◌then◌else◌, List, [], ◌∷◌, Option, Some, None}
use Rattle.nesc_core.specs.Plain.{Expr, Exprs, Place, Stmt, Stmts, Body, Program, no_exprs, more_exprs, no_stmts, more_stmts}
use Rattle.nesc_core.specs.Plain as plain
use Rattle.nesc_core.specs.View.{expr_of, exprs_of, maybe_expr_of, place_of, stmt_of, stmts_of}
use Rattle.core_act.specs.declared.scope.Scope.{Scope}
use Rattle.core_act.specs.declared.task.Task.{Task}
use Rattle.core_act.specs.declared.task.Task.TheVariants as task
use Rattle.core_act.specs.declared.task.Loop.{Loop}
use Rattle.core_act.specs.declared.task.Stage.{Stage}
use Rattle.core_act.specs.declared.task.Stage.TheVariants as stage
use Rattle.core_act.specs.declared.task.Callee.{Callee}
use Rattle.core_act.specs.declared.task.Callee.TheVariants as callee
use Rattle.core_act.specs.Scopes.{program_in}

-- where a call is so many
module _ (calls : ℕ) where
  abbrev mutual
    pub expr_steps : Expr → ℕ
    expr_steps (plain.const t x) = 2
    expr_steps plain.null = 2
    expr_steps (plain.read place at) = 2 + place_steps place
    expr_steps (plain.addr place) = 2 + place_steps place
    expr_steps (plain.un op t e) = 2 + expr_steps e
    expr_steps (plain.bin op t a b) = 2 + expr_steps a + expr_steps b
    expr_steps (plain.convert t e) = 2 + expr_steps e
    expr_steps (plain.offset a b size) = 2 + expr_steps a + expr_steps b
    expr_steps (plain.distance a b size) = 2 + expr_steps a + expr_steps b
    expr_steps (plain.both a b) = 3 + expr_steps a + expr_steps b
    expr_steps (plain.either a b) = 3 + expr_steps a + expr_steps b
    expr_steps (plain.choice test a b) = 2 + expr_steps test + expr_steps a + expr_steps b
    expr_steps (plain.assign place e at) = 2 + place_steps place + expr_steps e
    expr_steps (plain.update place op t e gives_old at) = 3 + place_steps place + expr_steps e
    expr_steps (plain.call f args at) = 5 + exprs_steps args + calls
    expr_steps (plain.post k) = 3
    expr_steps (plain.port_in port) = 2
    expr_steps (plain.port_out port e) = 2 + expr_steps e
    expr_steps (plain.comma a b) = 2 + expr_steps a + expr_steps b

    pub exprs_steps : Exprs → ℕ
    exprs_steps no_exprs = 0
    exprs_steps (more_exprs e rest) = 2 + expr_steps e + exprs_steps rest

    pub place_steps : Place → ℕ
    place_steps (plain.object k) = 2
    place_steps (plain.local x) = 2
    place_steps (plain.deref e t) = 2 + expr_steps e
    place_steps (plain.index place e) = 2 + place_steps place + expr_steps e
    place_steps (plain.field place k) = 2 + place_steps place

  abbrev pub maybe_steps : Option Expr → ℕ
  maybe_steps None = 0
  maybe_steps (Some e) = expr_steps e

  -- and a loop makes at most n turns
  module _ (n : ℕ) where
    abbrev mutual
      pub stmt_steps : Stmt → ℕ
      stmt_steps (plain.eval e) = 3 + expr_steps e
      stmt_steps (plain.block list) = 3 + stmts_steps list
      stmt_steps (plain.branch test a b) = 2 + expr_steps test + stmt_steps a + stmt_steps b
      stmt_steps (plain.loop first test step body) = 2 + n * (6 + expr_steps test + maybe_steps step + stmt_steps body)
      stmt_steps (plain.switch e cases list) = 5 + expr_steps e + stmts_steps list
      stmt_steps plain.break = 2
      stmt_steps plain.continue = 2
      stmt_steps (plain.return e) = 2 + maybe_steps e
      stmt_steps (plain.atomic s) = 3 + stmt_steps s
      stmt_steps (plain.clear x) = 3
      stmt_steps (plain.here args first count body) = 5 + exprs_steps args + stmt_steps body

      pub stmts_steps : Stmts → ℕ
      stmts_steps no_stmts = 0
      stmts_steps (more_stmts s rest) = 1 + stmt_steps s + stmts_steps rest

    abbrev pub all_steps : List Body → ℕ
    all_steps [] = 0
    all_steps (b ∷ bodies) = stmt_steps b.code + all_steps bodies

-- of a call that may go so deep
abbrev pub call_steps : Program → (n depth : ℕ) → ℕ
call_steps p n zero = 0
call_steps p n (suc depth) = all_steps (call_steps p n depth) n p.bodies

abbrev pub calls_from : Scope → ℕ
calls_from s = call_steps (program_in s) s.turns s.depth

abbrev pub turn_steps : Scope → Loop → ℕ
turn_steps s l = 6 + expr_steps (calls_from s) (expr_of l.test.now) + maybe_steps (calls_from s) (maybe_expr_of l.step.now) + stmt_steps (calls_from s) s.turns (stmt_of l.body.now)

abbrev pub stage_steps : Scope → Stage → Loop → ℕ
stage_steps s stage.Begins l = 1
stage_steps s stage.Tested l = if l.first then 4 + maybe_steps (calls_from s) (maybe_expr_of l.step.now) + stmt_steps (calls_from s) s.turns (stmt_of l.body.now) else 2
stage_steps s stage.Left l = if l.first then 3 + maybe_steps (calls_from s) (maybe_expr_of l.step.now) else 4 + expr_steps (calls_from s) (expr_of l.test.now)

abbrev pub callee_steps : Scope → Callee → ℕ
callee_steps s (callee.Body f) = 3 + calls_from s
callee_steps s (callee.Here first count) = 0

abbrev pub steps_left : Scope → List Task → ℕ
steps_left s [] = 0
steps_left s (task.Value e ∷ ts) = expr_steps (calls_from s) (expr_of e.now) + steps_left s ts
steps_left s (task.Second op b ∷ ts) = 2 + expr_steps (calls_from s) (expr_of b.now) + steps_left s ts
steps_left s (task.Cond a b ∷ ts) = 1 + expr_steps (calls_from s) (expr_of a.now) + expr_steps (calls_from s) (expr_of b.now) + steps_left s ts
steps_left s (task.Find place ∷ ts) = place_steps (calls_from s) (place_of place.now) + steps_left s ts
steps_left s (task.Run x ∷ ts) = stmt_steps (calls_from s) s.turns (stmt_of x.now) + steps_left s ts
steps_left s (task.If a b ∷ ts) = 1 + stmt_steps (calls_from s) s.turns (stmt_of a.now.value) + stmt_steps (calls_from s) s.turns (stmt_of b.now.value) + steps_left s ts
steps_left s (task.Switch cases list ∷ ts) = 3 + stmts_steps (calls_from s) s.turns (stmts_of list.now) + steps_left s ts
steps_left s (task.Repeat stage l left ∷ ts) = stage_steps s stage l + left * turn_steps s l + steps_left s ts
steps_left s (task.Rest list ∷ ts) = 1 + stmts_steps (calls_from s) s.turns (stmts_of list.now) + steps_left s ts
steps_left s (task.Pass a ∷ ts) = 1 + exprs_steps (calls_from s) (exprs_of a.rest.now) + callee_steps s a.to + steps_left s ts
steps_left s (task.Passed a ∷ ts) = 2 + exprs_steps (calls_from s) (exprs_of a.rest.now) + callee_steps s a.to + steps_left s ts
steps_left s (task.Back caller ∷ ts) = 1 + steps_left caller.scope ts
steps_left s (_ ∷ ts) = 1 + steps_left s ts
