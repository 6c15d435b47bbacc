-- Statements cut where the code is cut.
use Rattle.std.proofs.Common.{◌≡◌, ℕ, suc, ◌+◌, ℤ, true, List, [], ◌∷◌, ◌++◌, length, Option, Some, None, Ok, Err, ap, sym, ◌∙◌, refl, arith, append_assoc}
use Rattle.std.proofs.lemmas.List.{length-append}
use Rattle.nm_base.specs.declared.int_type.IntType.{IntType}
use Rattle.nm_base.specs.declared.pos.Pos.{Pos}
use Rattle.nesc_core.specs.Plain as core
use Rattle.nesc_core.specs.Plain.{Ty, Expr}
use Rattle.nesc_tree.specs.Plain as s
use Rattle.nesc_types.specs.Constant.{pos_of}
use Rattle.nesc_types.specs.Conversions.{promoted}
use Rattle.nesc_types.specs.Rule.{Rule}
use Rattle.nesc_types.specs.Values.{Constant}
use Rattle.elab_meaning.specs.Convert.{Typed, integer}
use Rattle.elab_meaning.specs.Elab.{Elab, State, after, by, give}
use Rattle.elab_meaning.specs.Operators.{promoted_value}
use Rattle.elab_meaning.specs.Scope.{Env}
use Rattle.elab_meaning.specs.Wired.{value}
use Rattle.elab_exprs.proofs.Steps.{after-after, after-same}
use Rattle.elab_pieces.specs.Flow.{Label, added, block_in, entered, label_in, left, outer}
use Rattle.elab_pieces.specs.Flow as flow
use Rattle.body_meaning.specs.Scopes.{scoped}
use Rattle.body_meaning.specs.Tree.{Start, Stmt, Stmts}
use Rattle.body_meaning.specs.Tree as tree
use Rattle.body_meaning.specs.Stmts.{Labelled, behind, cases, declaration_in, empty, followed_by, item_of, label, labelled, started, step_of, stmt, switch_on, tested_or_one, unlabelled, with_label}
use Rattle.elab_stmts.specs.Parts.{block_cases, case_behind, for_loop, for_within, item, labelled_behind, plain_body, plain_item, switch, turn_of, turning}

-- ---- labels

abbrev pub with_parts : List core.Case → List core.Stmt → Labelled
with_parts cs xs = record { cases = cs; code = xs }

pub same_labelled : (cs ds : List core.Case) (xs ys : List core.Stmt) → cs ≡ ds → xs ≡ ys → with_parts cs xs ≡ with_parts ds ys
same_labelled cs ds xs ys p q = ap (λ (zs : List core.Case). with_parts zs xs) p ∙ ap (λ (zs : List core.Stmt). with_parts ds zs) q

label_first : (value : Option ℤ) (before l : Labelled) → followed_by before (with_label value (length before.code) l) ≡ followed_by (added value before) l
label_first value before l =
    let one : List core.Case = record { value = value; start = length before.code } ∷ [] in
    same_labelled (before.cases ++ (one ++ l.cases)) ((before.cases ++ one) ++ l.cases) (before.code ++ ((empty ∷ []) ++ l.code)) ((before.code ++ (empty ∷ [])) ++ l.code)
    (sym (append_assoc before.cases one l.cases)) (sym (append_assoc before.code (empty ∷ []) l.code))

label_moves : (value : Option ℤ) (before : Labelled) (r : Rule (Labelled × State))
    → after (after r (λ l. give (with_label value (length before.code) l))) (λ l. give (followed_by before l)) ≡ after r (λ l. give (followed_by (added value before) l))
label_moves value before (Ok p) = ap (λ (l : Labelled). Ok (l, p.1)) (label_first value before p.0)
label_moves value before (Err e) = refl

module _ (env : Env) (given : List (Option Constant)) (due : Ty) where
  label_then : (t : IntType) (value : Option ℤ) (before : Labelled) (x : Stmt) (st : State)
      → after (after (labelled env given due t (suc (length before.code)) x (stmt env given due x) st) (λ l. give (with_label value (length before.code) l))) (λ l. give (followed_by before l))
      ≡ labelled_behind env given due t (added value before) x st
  label_then t value before x st =
      let longer : suc (length before.code) ≡ length (before.code ++ (empty ∷ [])) = omega (arith, length-append before.code (empty ∷ [])) in
      label_moves value before (labelled env given due t (suc (length before.code)) x (stmt env given due x) st)
      ∙ ap (λ (n : ℕ). after (labelled env given due t n x (stmt env given due x) st) (λ l. give (followed_by (added value before) l))) longer

  abbrev pub labelled_by : Label → IntType → Labelled → Stmt → Elab Labelled
  labelled_by (flow.case e x) t before whole = case_behind env given due t before e x
  labelled_by (flow.default x) t before whole = labelled_behind env given due t (added None before) x
  labelled_by flow.nothing t before whole = plain_item env given due before whole

  pub labelled_is : (t : IntType) (before : Labelled) (x : Stmt) (st : State) → labelled_behind env given due t before x st ≡ labelled_by (label_in x) t before x st
  labelled_is t before (tree.case e x at) st =
      let long : ℤ → State → Rule (Labelled × State) = λ z. λ s1. after (labelled env given due t (suc (length before.code)) x (stmt env given due x) s1) (λ l. give (with_label (Some z) (length before.code) l)) in
      let end : Labelled → State → Rule (Labelled × State) = λ l. give (followed_by before l) in
      sym (after-after (label env given t e st) long end)
      ∙ after-same (label env given t e st) (λ z. λ s1. after (long z s1) end) (λ z. labelled_behind env given due t (added (Some z) before) x) (λ z. λ s1. label_then t (Some z) before x s1)
  labelled_is t before (tree.default x at) st = label_then t None before x st
  labelled_is t before x st = sym (after-after (item env given due x st) (λ code. give (unlabelled code)) (λ l. give (followed_by before l)))

  abbrev pub cases_by : Option Stmts → IntType → Stmt → Elab Labelled
  cases_by (Some xs) t whole = block_cases env given due t xs
  cases_by None t whole = plain_body env given due whole

  pub cases_is : (t : IntType) (x : Stmt) (st : State) → cases env given due t x (stmt env given due x) st ≡ cases_by (block_in x) t x st
  cases_is t (tree.block xs at) st = refl
  cases_is t x st = refl

  -- ---- `switch`

  pub switch_is : (e : s.Expr) (x : Stmt) (at : Pos) (st : State) → stmt env given due (tree.switch e x at) st ≡ switch env given due e x st
  switch_is e x at st =
      let end : Expr × IntType → State → Rule (core.Stmt × State) = λ p. λ s2. after (cases env given due p.1 x (stmt env given due x) s2) (λ l. give (switch_on p.0 l)) in
      let pair : Typed → State → Rule ((Expr × IntType) × State) = λ v. λ s1. after (by (integer (pos_of e) v.ty) s1) (λ t. give (promoted_value t v.expr, promoted t)) in
      let long : Typed → State → Rule (core.Stmt × State) = λ v. λ s1. after (by (integer (pos_of e) v.ty) s1) (λ t. end (promoted_value t v.expr, promoted t)) in
      after-same (value env given e st) long (λ v. λ s1. after (pair v s1) end)
      (λ v. λ s1. after-after (by (integer (pos_of e) v.ty) s1) (λ t. give (promoted_value t v.expr, promoted t)) end)
      ∙ after-after (value env given e st) pair end

  -- ---- `for`

  scoped_same : {A : Type 0} (f g : Elab A) (st : State) → f (entered st) ≡ g (entered st) → scoped f st ≡ scoped g st
  scoped_same {A} f g st h = ap (λ (r : Rule (A × State)). after r (λ x. λ s1. Ok (x, left (outer st) s1))) h

  abbrev for_parts : Start → s.MaybeExpr → s.MaybeExpr → Stmt → Pos → Elab core.Stmt
  for_parts start test step x at = λ st. after (started env given at start st) (λ before. λ s1. after (tested_or_one env given test s1) (λ t. λ s2. after (step_of env given step s2) (λ next. λ s3. after (stmt env given due x s3) (λ code. give (behind before (core.loop true t next code))))))

  turns_is : (before : List core.Stmt) (test step : s.MaybeExpr) (x : Stmt) (st : State)
      → after (tested_or_one env given test st) (λ t. λ s2. after (step_of env given step s2) (λ next. λ s3. after (stmt env given due x s3) (λ code. give (behind before (core.loop true t next code)))))
      ≡ after (turning env given due test step x st) (λ code. give (behind before code))
  turns_is before test step x st =
      let body : Expr × Option Expr → State → Rule (core.Stmt × State) = λ p. λ s3. after (stmt env given due x s3) (λ code. give (core.loop true p.0 p.1 code)) in
      let end : core.Stmt → State → Rule (core.Stmt × State) = λ code. give (behind before code) in
      let both : Expr × Option Expr → State → Rule (core.Stmt × State) = λ p. λ s3. after (stmt env given due x s3) (λ code. give (behind before (core.loop true p.0 p.1 code))) in
      let pair : Expr → State → Rule ((Expr × Option Expr) × State) = λ t. λ s2. after (step_of env given step s2) (λ next. give (t, next)) in
      let long : Expr → State → Rule (core.Stmt × State) = λ t. λ s2. after (step_of env given step s2) (λ next. both (t, next)) in
      after-same (tested_or_one env given test st) long (λ t. λ s2. after (pair t s2) both) (λ t. λ s2. after-after (step_of env given step s2) (λ next. give (t, next)) both)
      ∙ after-after (tested_or_one env given test st) pair both
      ∙ after-same (turn_of env given test step st) both (λ p. λ s3. after (body p s3) end) (λ p. λ s3. after-after (stmt env given due x s3) (λ code. give (core.loop true p.0 p.1 code)) end)
      ∙ after-after (turn_of env given test step st) body end

  pub for_is : (start : Start) (test step : s.MaybeExpr) (x : Stmt) (at : Pos) (st : State) → stmt env given due (tree.for start test step x at) st ≡ for_loop env given due start test step x at st
  for_is start test step x at st =
      let long : List core.Stmt → State → Rule (core.Stmt × State) = λ before. λ s1. after (tested_or_one env given test s1) (λ t. λ s2. after (step_of env given step s2) (λ next. λ s3. after (stmt env given due x s3) (λ code. give (behind before (core.loop true t next code))))) in
      scoped_same (for_parts start test step x at) (for_within env given due start test step x at) st
      (after-same (started env given at start (entered st)) long (λ before. λ s1. after (turning env given due test step x s1) (λ code. give (behind before code))) (λ before. λ s1. turns_is before test step x s1))
