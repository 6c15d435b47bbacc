-- What one part of a statement does, given what stands before it (own: the equations of the meaning, cut where the code is cut).
use Rattle.std.specs.Prelude.{ℕ, true, List, [], ◌∷◌, Option, Some, length}
use Rattle.nm_base.specs.declared.pos.Pos.{Pos}
use Rattle.nm_base.specs.declared.int_type.IntType.{IntType}
use Rattle.nesc_core.specs.Plain as core
use Rattle.nesc_core.specs.Plain.{Ty, Expr}
use Rattle.nesc_tree.specs.Plain as s
use Rattle.nesc_types.specs.Constant.{pos_of}
use Rattle.nesc_types.specs.Conversions.{promoted}
use Rattle.nesc_types.specs.Values.{Constant}
use Rattle.elab_meaning.specs.Scope.{Env}
use Rattle.elab_meaning.specs.Elab.{Elab, by, ◌>>=◌, give}
use Rattle.elab_meaning.specs.Convert.{integer}
use Rattle.elab_meaning.specs.Operators.{promoted_value}
use Rattle.elab_meaning.specs.Wired.{value}
use Rattle.elab_pieces.specs.Flow.{added}
use Rattle.body_meaning.specs.Tree.{Decl, Start, Stmt, Stmts, MaybeStmt}
use Rattle.body_meaning.specs.Scopes.{scoped}
use Rattle.body_meaning.specs.Stmts.{Labelled, behind, block_of, cases, declaration, declaration_in, evaluated, followed_by, item_of, label, labelled, labelled_items, otherwise_of, started, step_of, stmt, switch_on, tested_or_one, unlabelled}

module _ (env : Env) (values : List (Option Constant)) where
  abbrev pub eval_of : s.Expr → Elab core.Stmt
  eval_of e = do
    x ← evaluated env values e
    give (core.eval x)

  abbrev pub declared : Decl → Pos → Elab core.Stmt
  declared d at = do
    code ← declaration env values at d
    give (block_of code)

  -- what is switched on, at the type that it is promoted to
  abbrev pub switched : s.Expr → Elab (Expr × IntType)
  switched e = do
    v ← value env values e
    t ← by (integer (pos_of e) v.ty)
    give (promoted_value t v.expr, promoted t)

  -- what a `for` does before and after each turn
  abbrev pub turn_of : (test step : s.MaybeExpr) → Elab (Expr × Option Expr)
  turn_of test step = do
    t ← tested_or_one env values test
    next ← step_of env values step
    give (t, next)

  module _ (result : Ty) where
    abbrev pub branch_with : (test : Expr) (code : core.Stmt) → MaybeStmt → Elab core.Stmt
    branch_with test code other = do
      o ← otherwise_of env values result other
      give (core.branch test code o)

    abbrev pub turning : (test step : s.MaybeExpr) → Stmt → Elab core.Stmt
    turning test step x = do
      t ← turn_of test step
      code ← stmt env values result x
      give (core.loop true t.0 t.1 code)

    abbrev pub for_within : Start → (test step : s.MaybeExpr) → Stmt → Pos → Elab core.Stmt
    for_within start test step x at = do
      before ← started env values at start
      code ← turning test step x
      give (behind before code)

    abbrev pub for_loop : Start → (test step : s.MaybeExpr) → Stmt → Pos → Elab core.Stmt
    for_loop start test step x at = scoped (for_within start test step x at)

    abbrev pub switch : s.Expr → Stmt → Elab core.Stmt
    switch e x = do
      v ← switched e
      l ← cases env values result v.1 x (stmt env values result x)
      give (switch_on v.0 l)

    abbrev pub item : Stmt → Elab (List core.Stmt)
    item x = item_of env values (declaration_in x) (stmt env values result x)

    -- a statement of a switch's block, behind those before it
    abbrev pub labelled_behind : IntType → Labelled → Stmt → Elab Labelled
    labelled_behind t before x = do
      l ← labelled env values result t (length before.code) x (stmt env values result x)
      give (followed_by before l)

    abbrev pub labelled_block : IntType → Stmts → Elab Labelled
    labelled_block t xs = labelled_items env values result t 0 xs

    -- a label, and the statement that it stands before
    abbrev pub case_behind : IntType → Labelled → s.Expr → Stmt → Elab Labelled
    case_behind t before e x = do
      z ← label env values t e
      labelled_behind t (added (Some z) before) x

    abbrev pub plain_item : Labelled → Stmt → Elab Labelled
    plain_item before x = do
      code ← item x
      give (followed_by before (unlabelled code))

    abbrev pub block_cases : IntType → Stmts → Elab Labelled
    block_cases t xs = scoped (labelled_block t xs)

    abbrev pub plain_body : Stmt → Elab Labelled
    plain_body x = do
      code ← stmt env values result x
      give (unlabelled (code ∷ []))
