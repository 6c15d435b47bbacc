-- What each function of the walk gives, under names that do not unfold by themselves, so that the statements of the walk stay small (own).
use Rattle.std.specs.Prelude.{List, map, Option, None, Result}
use Rattle.std.specs.declared.alloc.Global.{Global}
use Rattle.std.specs.declared.vec.Vec.{Vec}
use Rattle.nm_base.specs.declared.fault.Fault.{Fault}
use Rattle.nm_base.specs.declared.int_type.IntType.{IntType}
use Rattle.nm_base.specs.declared.pos.Pos.{Pos}
use Rattle.nesc_core.specs.declared.tree.CoreStmt as core_stmt
use Rattle.nesc_core.specs.Plain as core
use Rattle.nesc_core.specs.Plain.{Ty, Expr}
use Rattle.nesc_core.specs.View.{stmt_of}
use Rattle.nesc_tree.specs.Plain as s
use Rattle.nesc_types.specs.Rule.{Rule}
use Rattle.elab_meaning.specs.declared.work.Work.{Work}
use Rattle.elab_meaning.specs.Answers.{Gives}
use Rattle.elab_meaning.specs.Elab.{State}
use Rattle.elab_meaning.specs.View.{env_of, state_of}
use Rattle.elab_forms.specs.declared.forms.Told.{Told}
use Rattle.elab_pieces.specs.declared.labels.Labelled as rust_labelled
use Rattle.elab_pieces.specs.Flow.{added, labelled_of}
use Rattle.body_meaning.specs.Tree.{MaybeStmt, Start, Stmt, Stmts}
use Rattle.body_meaning.specs.Stmts as stmts
use Rattle.body_meaning.specs.Stmts.{Labelled}
use Rattle.elab_stmts.specs.Parts as parts

-- ---- what is returned is what the definition gives

unfoldable pub IsStmt : Result core_stmt.CoreStmt Fault → Work → Rule (core.Stmt × State) → Type 0
IsStmt r new outcome = Gives stmt_of r (state_of new) outcome

unfoldable pub AreStmts : Result (Vec core_stmt.CoreStmt Global) Fault → Work → Rule (List core.Stmt × State) → Type 0
AreStmts r new outcome = Gives (λ v. map stmt_of v.items) r (state_of new) outcome

unfoldable pub IsLabelled : Result rust_labelled.Labelled Fault → Work → Rule (Labelled × State) → Type 0
IsLabelled r new outcome = Gives labelled_of r (state_of new) outcome

unfoldable pub IsAdded : Result (Unit {0}) Fault → rust_labelled.Labelled → Work → Rule (Labelled × State) → Type 0
IsAdded r out new outcome = Gives (λ _. labelled_of out) r (state_of new) outcome

-- ---- the definition at what is told, at the function's result and at the work so far

unfoldable pub stmt_at : Told → Ty → Stmt → Work → Rule (core.Stmt × State)
stmt_at t due x w = stmts.stmt (env_of t.env) t.values due x (state_of w)

unfoldable pub otherwise_at : Told → Ty → MaybeStmt → Work → Rule (core.Stmt × State)
otherwise_at t due x w = stmts.otherwise_of (env_of t.env) t.values due x (state_of w)

unfoldable pub branch_with_at : Told → Ty → Expr → core.Stmt → MaybeStmt → Work → Rule (core.Stmt × State)
branch_with_at t due test code x w = parts.branch_with (env_of t.env) t.values due test code x (state_of w)

unfoldable pub turning_at : Told → Ty → (test step : s.MaybeExpr) → Stmt → Work → Rule (core.Stmt × State)
turning_at t due test step x w = parts.turning (env_of t.env) t.values due test step x (state_of w)

unfoldable pub for_within_at : Told → Ty → Start → (test step : s.MaybeExpr) → Stmt → Pos → Work → Rule (core.Stmt × State)
for_within_at t due start test step x at w = parts.for_within (env_of t.env) t.values due start test step x at (state_of w)

unfoldable pub for_at : Told → Ty → Start → (test step : s.MaybeExpr) → Stmt → Pos → Work → Rule (core.Stmt × State)
for_at t due start test step x at w = parts.for_loop (env_of t.env) t.values due start test step x at (state_of w)

unfoldable pub switch_at : Told → Ty → s.Expr → Stmt → Work → Rule (core.Stmt × State)
switch_at t due e x w = parts.switch (env_of t.env) t.values due e x (state_of w)

unfoldable pub item_at : Told → Ty → Stmt → Work → Rule (List core.Stmt × State)
item_at t due x w = parts.item (env_of t.env) t.values due x (state_of w)

unfoldable pub items_at : Told → Ty → Stmts → Work → Rule (List core.Stmt × State)
items_at t due xs w = stmts.items (env_of t.env) t.values due xs (state_of w)

unfoldable pub cases_at : Told → Ty → IntType → Stmt → Work → Rule (Labelled × State)
cases_at t due ty x w = stmts.cases (env_of t.env) t.values due ty x (stmts.stmt (env_of t.env) t.values due x) (state_of w)

unfoldable pub labelled_items_at : Told → Ty → IntType → Stmts → Work → Rule (Labelled × State)
labelled_items_at t due ty xs w = parts.labelled_block (env_of t.env) t.values due ty xs (state_of w)

unfoldable pub labelled_at : Told → Ty → IntType → Labelled → Stmt → Work → Rule (Labelled × State)
labelled_at t due ty before x w = parts.labelled_behind (env_of t.env) t.values due ty before x (state_of w)

unfoldable pub block_cases_at : Told → Ty → IntType → Stmts → Work → Rule (Labelled × State)
block_cases_at t due ty xs w = parts.block_cases (env_of t.env) t.values due ty xs (state_of w)

unfoldable pub plain_body_at : Told → Ty → Stmt → Work → Rule (Labelled × State)
plain_body_at t due x w = parts.plain_body (env_of t.env) t.values due x (state_of w)

unfoldable pub case_at : Told → Ty → IntType → Labelled → s.Expr → Stmt → Work → Rule (Labelled × State)
case_at t due ty before e x w = parts.case_behind (env_of t.env) t.values due ty before e x (state_of w)

unfoldable pub default_at : Told → Ty → IntType → Labelled → Stmt → Work → Rule (Labelled × State)
default_at t due ty before x w = parts.labelled_behind (env_of t.env) t.values due ty (added None before) x (state_of w)

unfoldable pub plain_item_at : Told → Ty → Labelled → Stmt → Work → Rule (Labelled × State)
plain_item_at t due before x w = parts.plain_item (env_of t.env) t.values due before x (state_of w)
