-- Each form of a statement as plain data, and what it does whatever its place.
use Rattle.std.proofs.Common.{◌≡◌, List, Option, Some, None, map, Result, Ok, Err, ap, sym, subst, ◌∙◌, refl, rules}
use Rattle.std.specs.Option.{option_map}
use Rattle.nm_base.specs.declared.fault.Fault.{Fault}
use Rattle.nm_base.specs.declared.fault.Fault.TheVariants.{Refused}
use Rattle.nm_base.specs.declared.int_type.IntType.{IntType}
use Rattle.nm_base.specs.declared.pos.Pos.{Pos}
use Rattle.nm_base.specs.declared.refusal.Refusal.TheVariants.{Syntax}
use Rattle.nesc_core.specs.declared.tree.CoreStmt as core_stmt
use Rattle.nesc_core.specs.Plain as core
use Rattle.nesc_core.specs.Plain.{Ty}
use Rattle.nesc_core.specs.View.{stmt_of as core_stmt_of}
use Rattle.nesc_tree.specs.declared.declarations.Decl as rust_decl
use Rattle.nesc_tree.specs.declared.declarations.ForStart as rust_start
use Rattle.nesc_tree.specs.declared.declarations.Stmt as rust_stmt
use Rattle.nesc_tree.specs.declared.tree.Expr as rust_expr
use Rattle.nesc_tree.specs.View.{expr_of}
use Rattle.nesc_types.specs.Rule.{Rule}
use Rattle.elab_meaning.specs.declared.work.Work.{Work}
use Rattle.elab_meaning.specs.Answers.{FaultIs, Gives}
use Rattle.elab_meaning.specs.Elab.{State}
use Rattle.elab_meaning.specs.View.{env_of, state_of}
use Rattle.elab_forms.specs.declared.forms.Told.{Told}
use Rattle.elab_forms.specs.Trees.{nowhere}
use Rattle.elab_pieces.specs.declared.labels.Labelled as rust_labelled
use Rattle.elab_pieces.specs.Flow.{Label, block_in, label_in, labelled_of}
use Rattle.elab_pieces.specs.Flow as flow
use Rattle.nesc_tree.specs.Plain as s
use Rattle.body_meaning.specs.Tree.{Stmt, Stmts}
use Rattle.body_meaning.specs.Tree as tree
use Rattle.body_meaning.specs.View.{decl_of, maybe_of, maybe_stmt, start_of, stmt_of, stmts}
use Rattle.body_meaning.specs.Stmts as spec
use Rattle.body_meaning.specs.Stmts.{Labelled}
use Rattle.elab_stmts.specs.Walk.{IsAdded, IsLabelled, IsStmt, block_cases_at, case_at, cases_at, default_at, for_at, labelled_at, plain_body_at, plain_item_at, stmt_at, switch_at}
use Rattle.elab_stmts.specs.Parts.{declared, eval_of}
use Rattle.elab_stmts.proofs.Cuts.{cases_by, cases_is, for_is, labelled_by, labelled_is, switch_is}

-- a call that was refused
pub refused_by : {X Y : Type 0} (view : X → Y) (r : Result X Fault) (e : Fault) (st : State) (outcome : Rule (Y × State)) → r ≡ Err e → Gives view r st outcome → FaultIs e outcome
refused_by view r e st outcome is g = subst (λ q. Gives view q st outcome) is g

pub by_shape : (t : Told) (due : Ty) (w w1 : Work) (r : Result core_stmt.CoreStmt Fault) (whole : rust_stmt.Stmt) (y : Stmt) → stmt_of whole ≡ y
    → Gives core_stmt_of r (state_of w1) (spec.stmt (env_of t.env) t.values due y (state_of w)) → IsStmt r w1 (stmt_at t due (stmt_of whole) w)
unfolding IsStmt stmt_at
by_shape t due w w1 r whole y e h = subst (λ (z : Stmt). Gives core_stmt_of r (state_of w1) (spec.stmt (env_of t.env) t.values due z (state_of w))) (sym e) h

pub block_is : (whole : rust_stmt.Stmt) (xs : List rust_stmt.Stmt) (at : Pos) → whole ≡ rust_stmt.Block xs at → stmt_of whole ≡ tree.block (stmts (map stmt_of xs)) at
block_is whole xs at is = ap stmt_of is ∙ search (rules, rust_stmt.the_lemmas)

pub empty_is : (whole : rust_stmt.Stmt) (at : Pos) → whole ≡ rust_stmt.Empty at → stmt_of whole ≡ tree.empty at
empty_is whole at is = ap stmt_of is ∙ search (rules, rust_stmt.the_lemmas)

pub case_is : (whole : rust_stmt.Stmt) (e : rust_expr.Expr) (y : rust_stmt.Stmt) (at : Pos) → whole ≡ rust_stmt.Case e y at → stmt_of whole ≡ tree.case (expr_of e) (stmt_of y) at
case_is whole e y at is = ap stmt_of is ∙ search (rules, rust_stmt.the_lemmas)

pub default_is : (whole y : rust_stmt.Stmt) (at : Pos) → whole ≡ rust_stmt.Default y at → stmt_of whole ≡ tree.default (stmt_of y) at
default_is whole y at is = ap stmt_of is ∙ search (rules, rust_stmt.the_lemmas)

pub break_is : (whole : rust_stmt.Stmt) (at : Pos) → whole ≡ rust_stmt.Break at → stmt_of whole ≡ tree.break at
break_is whole at is = ap stmt_of is ∙ search (rules, rust_stmt.the_lemmas)

pub continue_is : (whole : rust_stmt.Stmt) (at : Pos) → whole ≡ rust_stmt.Continue at → stmt_of whole ≡ tree.continue at
continue_is whole at is = ap stmt_of is ∙ search (rules, rust_stmt.the_lemmas)

core_break : core_stmt_of core_stmt.Break ≡ core.break
core_break = search (rules, core_stmt.the_lemmas)

core_continue : core_stmt_of core_stmt.Continue ≡ core.continue
core_continue = search (rules, core_stmt.the_lemmas)

pub eval_is : (whole : rust_stmt.Stmt) (e : rust_expr.Expr) (at : Pos) → whole ≡ rust_stmt.Eval e at → stmt_of whole ≡ tree.eval (expr_of e) at
eval_is whole e at is = ap stmt_of is ∙ search (rules, rust_stmt.the_lemmas)

pub atomic_is : (whole y x : rust_stmt.Stmt) (at : Pos) → whole ≡ rust_stmt.Atomic y at → x ≡ y → stmt_of whole ≡ tree.atomic (stmt_of x) at
atomic_is whole y x at is p = ap stmt_of is ∙ shape ∙ ap (λ (z : rust_stmt.Stmt). tree.atomic (stmt_of z) at) (sym p) where
  shape : stmt_of (rust_stmt.Atomic y at) ≡ tree.atomic (stmt_of y) at
  shape = search (rules, rust_stmt.the_lemmas)

pub branch_is : (whole : rust_stmt.Stmt) (e : rust_expr.Expr) (y x : rust_stmt.Stmt) (other : Option rust_stmt.Stmt) (at : Pos) → whole ≡ rust_stmt.If e y other at → x ≡ y
    → stmt_of whole ≡ tree.branch (expr_of e) (stmt_of x) (maybe_stmt (option_map stmt_of other)) at
branch_is whole e y x other at is p = ap stmt_of is ∙ shape ∙ ap (λ (z : rust_stmt.Stmt). tree.branch (expr_of e) (stmt_of z) (maybe_stmt (option_map stmt_of other)) at) (sym p) where
  shape : stmt_of (rust_stmt.If e y other at) ≡ tree.branch (expr_of e) (stmt_of y) (maybe_stmt (option_map stmt_of other)) at
  shape = search (rules, rust_stmt.the_lemmas)

pub while_is : (whole : rust_stmt.Stmt) (e : rust_expr.Expr) (y x : rust_stmt.Stmt) (at : Pos) → whole ≡ rust_stmt.While e y at → x ≡ y → stmt_of whole ≡ tree.while (expr_of e) (stmt_of x) at
while_is whole e y x at is p = ap stmt_of is ∙ shape ∙ ap (λ (z : rust_stmt.Stmt). tree.while (expr_of e) (stmt_of z) at) (sym p) where
  shape : stmt_of (rust_stmt.While e y at) ≡ tree.while (expr_of e) (stmt_of y) at
  shape = search (rules, rust_stmt.the_lemmas)

pub do_is : (whole : rust_stmt.Stmt) (e : rust_expr.Expr) (y x : rust_stmt.Stmt) (at : Pos) → whole ≡ rust_stmt.DoWhile y e at → x ≡ y → stmt_of whole ≡ tree.do_while (stmt_of x) (expr_of e) at
do_is whole e y x at is p = ap stmt_of is ∙ shape ∙ ap (λ (z : rust_stmt.Stmt). tree.do_while (stmt_of z) (expr_of e) at) (sym p) where
  shape : stmt_of (rust_stmt.DoWhile y e at) ≡ tree.do_while (stmt_of y) (expr_of e) at
  shape = search (rules, rust_stmt.the_lemmas)

pub for_shape : (whole : rust_stmt.Stmt) (start : rust_start.ForStart) (test step : Option rust_expr.Expr) (y x : rust_stmt.Stmt) (at : Pos) → whole ≡ rust_stmt.For start test step y at → x ≡ y
    → stmt_of whole ≡ tree.for (start_of start) (maybe_of test) (maybe_of step) (stmt_of x) at
for_shape whole start test step y x at is p = ap stmt_of is ∙ shape ∙ ap (λ (z : rust_stmt.Stmt). tree.for (start_of start) (maybe_of test) (maybe_of step) (stmt_of z) at) (sym p) where
  shape : stmt_of (rust_stmt.For start test step y at) ≡ tree.for (start_of start) (maybe_of test) (maybe_of step) (stmt_of y) at
  shape = search (rules, rust_stmt.the_lemmas)

pub switch_shape : (whole : rust_stmt.Stmt) (e : rust_expr.Expr) (y x : rust_stmt.Stmt) (at : Pos) → whole ≡ rust_stmt.Switch e y at → x ≡ y → stmt_of whole ≡ tree.switch (expr_of e) (stmt_of x) at
switch_shape whole e y x at is p = ap stmt_of is ∙ shape ∙ ap (λ (z : rust_stmt.Stmt). tree.switch (expr_of e) (stmt_of z) at) (sym p) where
  shape : stmt_of (rust_stmt.Switch e y at) ≡ tree.switch (expr_of e) (stmt_of y) at
  shape = search (rules, rust_stmt.the_lemmas)

pub return_is : (whole : rust_stmt.Stmt) (e : Option rust_expr.Expr) (at : Pos) → whole ≡ rust_stmt.Return e at → stmt_of whole ≡ tree.return (maybe_of e) at
return_is whole e at is = ap stmt_of is ∙ search (rules, rust_stmt.the_lemmas)

pub local_is : (whole : rust_stmt.Stmt) (d x : rust_decl.Decl) (at : Pos) → whole ≡ rust_stmt.Local d at → x ≡ d → stmt_of whole ≡ tree.local (decl_of x) at
local_is whole d x at is p = ap stmt_of is ∙ shape ∙ ap (λ (z : rust_decl.Decl). tree.local (decl_of z) at) (sym p) where
  shape : stmt_of (rust_stmt.Local d at) ≡ tree.local (decl_of d) at
  shape = search (rules, rust_stmt.the_lemmas)

pub other_is : (other : Option rust_stmt.Stmt) (y x : rust_stmt.Stmt) → other ≡ Some y → x ≡ y → maybe_stmt (option_map stmt_of other) ≡ tree.some_stmt (stmt_of x)
other_is other y x is p = ap (λ (o : Option rust_stmt.Stmt). maybe_stmt (option_map stmt_of o)) is ∙ ap (λ (z : rust_stmt.Stmt). tree.some_stmt (stmt_of z)) (sym p)

-- ---- each form of a statement, from what its function gives

pub block_arm : (t : Told) (due : Ty) (w w1 : Work) (r : Result core_stmt.CoreStmt Fault) (whole : rust_stmt.Stmt) (xs : List rust_stmt.Stmt) (at : Pos) → whole ≡ rust_stmt.Block xs at
    → IsStmt r w1 (stmt_at t due (tree.block (stmts (map stmt_of xs)) nowhere) w) → IsStmt r w1 (stmt_at t due (stmt_of whole) w)
unfolding IsStmt stmt_at
block_arm t due w w1 r whole xs at is h = by_shape t due w w1 r whole (tree.block (stmts (map stmt_of xs)) at) (block_is whole xs at is) h

pub empty_arm : (t : Told) (due : Ty) (w : Work) (x : core_stmt.CoreStmt) (whole : rust_stmt.Stmt) (at : Pos) → whole ≡ rust_stmt.Empty at
    → core_stmt_of x ≡ spec.empty → IsStmt (Ok x) w (stmt_at t due (stmt_of whole) w)
unfolding IsStmt stmt_at
empty_arm t due w x whole at is p = by_shape t due w w (Ok x) whole (tree.empty at) (empty_is whole at is) (ap (λ (z : core.Stmt). Ok (z, state_of w)) (sym p))

pub break_arm : (t : Told) (due : Ty) (w : Work) (whole : rust_stmt.Stmt) (at : Pos) → whole ≡ rust_stmt.Break at → IsStmt (Ok core_stmt.Break) w (stmt_at t due (stmt_of whole) w)
unfolding IsStmt stmt_at
break_arm t due w whole at is = by_shape t due w w (Ok core_stmt.Break) whole (tree.break at) (break_is whole at is) (ap (λ (z : core.Stmt). Ok (z, state_of w)) (sym core_break))

pub continue_arm : (t : Told) (due : Ty) (w : Work) (whole : rust_stmt.Stmt) (at : Pos) → whole ≡ rust_stmt.Continue at → IsStmt (Ok core_stmt.Continue) w (stmt_at t due (stmt_of whole) w)
unfolding IsStmt stmt_at
continue_arm t due w whole at is = by_shape t due w w (Ok core_stmt.Continue) whole (tree.continue at) (continue_is whole at is) (ap (λ (z : core.Stmt). Ok (z, state_of w)) (sym core_continue))

pub case_stops : (t : Told) (due : Ty) (w : Work) (r : Result core_stmt.CoreStmt Fault) (whole : rust_stmt.Stmt) (e : rust_expr.Expr) (y : rust_stmt.Stmt) (at : Pos) → whole ≡ rust_stmt.Case e y at
    → r ≡ Err (Refused (Syntax at)) → IsStmt r w (stmt_at t due (stmt_of whole) w)
unfolding IsStmt stmt_at
case_stops t due w r whole e y at is p =
    by_shape t due w w r whole (tree.case (expr_of e) (stmt_of y) at) (case_is whole e y at is)
    (subst (λ (q : Result core_stmt.CoreStmt Fault). Gives core_stmt_of q (state_of w) (spec.stmt (env_of t.env) t.values due (tree.case (expr_of e) (stmt_of y) at) (state_of w))) (sym p) refl)

pub default_stops : (t : Told) (due : Ty) (w : Work) (r : Result core_stmt.CoreStmt Fault) (whole y : rust_stmt.Stmt) (at : Pos) → whole ≡ rust_stmt.Default y at
    → r ≡ Err (Refused (Syntax at)) → IsStmt r w (stmt_at t due (stmt_of whole) w)
unfolding IsStmt stmt_at
default_stops t due w r whole y at is p =
    by_shape t due w w r whole (tree.default (stmt_of y) at) (default_is whole y at is)
    (subst (λ (q : Result core_stmt.CoreStmt Fault). Gives core_stmt_of q (state_of w) (spec.stmt (env_of t.env) t.values due (tree.default (stmt_of y) at) (state_of w))) (sym p) refl)

pub eval_arm : (t : Told) (due : Ty) (w w1 : Work) (r : Result core_stmt.CoreStmt Fault) (whole : rust_stmt.Stmt) (e : rust_expr.Expr) (at : Pos) → whole ≡ rust_stmt.Eval e at
    → Gives core_stmt_of r (state_of w1) (eval_of (env_of t.env) t.values (expr_of e) (state_of w)) → IsStmt r w1 (stmt_at t due (stmt_of whole) w)
unfolding IsStmt stmt_at
eval_arm t due w w1 r whole e at is h = by_shape t due w w1 r whole (tree.eval (expr_of e) at) (eval_is whole e at is) h

pub atomic_arm : (t : Told) (due : Ty) (w w1 : Work) (r : Result core_stmt.CoreStmt Fault) (whole : rust_stmt.Stmt) (y x : rust_stmt.Stmt) (at : Pos) → whole ≡ rust_stmt.Atomic y at → x ≡ y
    → IsStmt r w1 (stmt_at t due (tree.atomic (stmt_of x) nowhere) w) → IsStmt r w1 (stmt_at t due (stmt_of whole) w)
unfolding IsStmt stmt_at
atomic_arm t due w w1 r whole y x at is p h = by_shape t due w w1 r whole (tree.atomic (stmt_of x) at) (atomic_is whole y x at is p) h

pub branch_arm : (t : Told) (due : Ty) (w w1 : Work) (r : Result core_stmt.CoreStmt Fault) (whole : rust_stmt.Stmt) (e : rust_expr.Expr) (y x : rust_stmt.Stmt) (other : Option rust_stmt.Stmt) (at : Pos) → whole ≡ rust_stmt.If e y other at → x ≡ y
    → IsStmt r w1 (stmt_at t due (tree.branch (expr_of e) (stmt_of x) (maybe_stmt (option_map stmt_of other)) nowhere) w) → IsStmt r w1 (stmt_at t due (stmt_of whole) w)
unfolding IsStmt stmt_at
branch_arm t due w w1 r whole e y x other at is p h = by_shape t due w w1 r whole (tree.branch (expr_of e) (stmt_of x) (maybe_stmt (option_map stmt_of other)) at) (branch_is whole e y x other at is p) h

pub while_arm : (t : Told) (due : Ty) (w w1 : Work) (r : Result core_stmt.CoreStmt Fault) (whole : rust_stmt.Stmt) (e : rust_expr.Expr) (y x : rust_stmt.Stmt) (at : Pos) → whole ≡ rust_stmt.While e y at → x ≡ y
    → IsStmt r w1 (stmt_at t due (tree.while (expr_of e) (stmt_of x) nowhere) w) → IsStmt r w1 (stmt_at t due (stmt_of whole) w)
unfolding IsStmt stmt_at
while_arm t due w w1 r whole e y x at is p h = by_shape t due w w1 r whole (tree.while (expr_of e) (stmt_of x) at) (while_is whole e y x at is p) h

pub do_arm : (t : Told) (due : Ty) (w w1 : Work) (r : Result core_stmt.CoreStmt Fault) (whole : rust_stmt.Stmt) (e : rust_expr.Expr) (y x : rust_stmt.Stmt) (at : Pos) → whole ≡ rust_stmt.DoWhile y e at → x ≡ y
    → IsStmt r w1 (stmt_at t due (tree.do_while (stmt_of x) (expr_of e) nowhere) w) → IsStmt r w1 (stmt_at t due (stmt_of whole) w)
unfolding IsStmt stmt_at
do_arm t due w w1 r whole e y x at is p h = by_shape t due w w1 r whole (tree.do_while (stmt_of x) (expr_of e) at) (do_is whole e y x at is p) h

pub for_arm : (t : Told) (due : Ty) (w w1 : Work) (r : Result core_stmt.CoreStmt Fault) (whole : rust_stmt.Stmt) (start : rust_start.ForStart) (test step : Option rust_expr.Expr) (y x : rust_stmt.Stmt) (at : Pos) → whole ≡ rust_stmt.For start test step y at → x ≡ y
    → IsStmt r w1 (for_at t due (start_of start) (maybe_of test) (maybe_of step) (stmt_of x) at w) → IsStmt r w1 (stmt_at t due (stmt_of whole) w)
unfolding IsStmt stmt_at for_at
for_arm t due w w1 r whole start test step y x at is p h =
    by_shape t due w w1 r whole (tree.for (start_of start) (maybe_of test) (maybe_of step) (stmt_of x) at) (for_shape whole start test step y x at is p)
    (subst (λ (q : Rule (core.Stmt × State)). Gives core_stmt_of r (state_of w1) q) (sym (for_is (env_of t.env) t.values due (start_of start) (maybe_of test) (maybe_of step) (stmt_of x) at (state_of w))) h)

pub switch_arm : (t : Told) (due : Ty) (w w1 : Work) (r : Result core_stmt.CoreStmt Fault) (whole : rust_stmt.Stmt) (e : rust_expr.Expr) (y x : rust_stmt.Stmt) (at : Pos) → whole ≡ rust_stmt.Switch e y at → x ≡ y
    → IsStmt r w1 (switch_at t due (expr_of e) (stmt_of x) w) → IsStmt r w1 (stmt_at t due (stmt_of whole) w)
unfolding IsStmt stmt_at switch_at
switch_arm t due w w1 r whole e y x at is p h =
    by_shape t due w w1 r whole (tree.switch (expr_of e) (stmt_of x) at) (switch_shape whole e y x at is p)
    (subst (λ (q : Rule (core.Stmt × State)). Gives core_stmt_of r (state_of w1) q) (sym (switch_is (env_of t.env) t.values due (expr_of e) (stmt_of x) at (state_of w))) h)

pub return_arm : (t : Told) (due : Ty) (w w1 : Work) (r : Result core_stmt.CoreStmt Fault) (whole : rust_stmt.Stmt) (e : Option rust_expr.Expr) (at : Pos) → whole ≡ rust_stmt.Return e at
    → Gives core_stmt_of r (state_of w1) (spec.returned (env_of t.env) t.values due at (maybe_of e) (state_of w)) → IsStmt r w1 (stmt_at t due (stmt_of whole) w)
unfolding IsStmt stmt_at
return_arm t due w w1 r whole e at is h = by_shape t due w w1 r whole (tree.return (maybe_of e) at) (return_is whole e at is) h

pub local_arm : (t : Told) (due : Ty) (w w1 : Work) (r : Result core_stmt.CoreStmt Fault) (whole : rust_stmt.Stmt) (d x : rust_decl.Decl) (at : Pos) → whole ≡ rust_stmt.Local d at → x ≡ d
    → Gives core_stmt_of r (state_of w1) (declared (env_of t.env) t.values (decl_of x) at (state_of w)) → IsStmt r w1 (stmt_at t due (stmt_of whole) w)
unfolding IsStmt stmt_at
local_arm t due w w1 r whole d x at is p h = by_shape t due w w1 r whole (tree.local (decl_of x) at) (local_is whole d x at is p) h

-- ---- by what stands in a statement

pub cases_found : (t : Told) (due : Ty) (ty : IntType) (w w1 : Work) (r : Result rust_labelled.Labelled Fault) (x : Stmt) (found : Option Stmts) → block_in x ≡ found
    → Gives labelled_of r (state_of w1) (cases_by (env_of t.env) t.values due found ty x (state_of w)) → IsLabelled r w1 (cases_at t due ty x w)
unfolding IsLabelled cases_at
cases_found t due ty w w1 r x found e h =
    subst (λ (q : Rule (Labelled × State)). Gives labelled_of r (state_of w1) q) (sym (cases_is (env_of t.env) t.values due ty x (state_of w)))
    (subst (λ (z : Option Stmts). Gives labelled_of r (state_of w1) (cases_by (env_of t.env) t.values due z ty x (state_of w))) (sym e) h)

pub label_found : (t : Told) (due : Ty) (ty : IntType) (before : Labelled) (w w1 : Work) (r : Result (Unit {0}) Fault) (out : rust_labelled.Labelled) (x : Stmt) (found : Label) → label_in x ≡ found
    → Gives (λ _. labelled_of out) r (state_of w1) (labelled_by (env_of t.env) t.values due found ty before x (state_of w)) → IsAdded r out w1 (labelled_at t due ty before x w)
unfolding IsAdded labelled_at
label_found t due ty before w w1 r out x found e h =
    subst (λ (q : Rule (Labelled × State)). Gives (λ _. labelled_of out) r (state_of w1) q) (sym (labelled_is (env_of t.env) t.values due ty before x (state_of w)))
    (subst (λ (z : Label). Gives (λ _. labelled_of out) r (state_of w1) (labelled_by (env_of t.env) t.values due z ty before x (state_of w))) (sym e) h)

-- ---- what each function of a switch gives, from what its parts give

pub block_cases_arm : (t : Told) (due : Ty) (ty : IntType) (w w1 : Work) (r : Result rust_labelled.Labelled Fault) (x : Stmt) (xs : Stmts) → block_in x ≡ Some xs
    → IsLabelled r w1 (block_cases_at t due ty xs w) → IsLabelled r w1 (cases_at t due ty x w)
unfolding IsLabelled block_cases_at
block_cases_arm t due ty w w1 r x xs e h = cases_found t due ty w w1 r x (Some xs) e h

pub plain_body_arm : (t : Told) (due : Ty) (ty : IntType) (w w1 : Work) (r : Result rust_labelled.Labelled Fault) (x : Stmt) → block_in x ≡ None
    → IsLabelled r w1 (plain_body_at t due x w) → IsLabelled r w1 (cases_at t due ty x w)
unfolding IsLabelled plain_body_at
plain_body_arm t due ty w w1 r x e h = cases_found t due ty w w1 r x None e h

pub case_arm : (t : Told) (due : Ty) (ty : IntType) (before : Labelled) (w w1 : Work) (r : Result (Unit {0}) Fault) (out : rust_labelled.Labelled) (x y : Stmt) (e : s.Expr) → label_in x ≡ flow.case e y
    → IsAdded r out w1 (case_at t due ty before e y w) → IsAdded r out w1 (labelled_at t due ty before x w)
unfolding IsAdded case_at
case_arm t due ty before w w1 r out x y e is h = label_found t due ty before w w1 r out x (flow.case e y) is h

pub default_arm : (t : Told) (due : Ty) (ty : IntType) (before : Labelled) (w w1 : Work) (r : Result (Unit {0}) Fault) (out : rust_labelled.Labelled) (x y : Stmt) → label_in x ≡ flow.default y
    → IsAdded r out w1 (default_at t due ty before y w) → IsAdded r out w1 (labelled_at t due ty before x w)
unfolding IsAdded default_at
default_arm t due ty before w w1 r out x y is h = label_found t due ty before w w1 r out x (flow.default y) is h

pub plain_item_arm : (t : Told) (due : Ty) (ty : IntType) (before : Labelled) (w w1 : Work) (r : Result (Unit {0}) Fault) (out : rust_labelled.Labelled) (x : Stmt) → label_in x ≡ flow.nothing
    → IsAdded r out w1 (plain_item_at t due before x w) → IsAdded r out w1 (labelled_at t due ty before x w)
unfolding IsAdded plain_item_at
plain_item_arm t due ty before w w1 r out x is h = label_found t due ty before w w1 r out x flow.nothing is h
