-- Statements and the bodies of functions leave the names and tags that are in force where they are, and declarations only add some.
use Rattle.std.proofs.Common.{◌≡◌, ℕ, Bool, true, false, List, [], ◌∷◌, ◌++◌, length, Option, Some, None, Ok, Err, refl, sym, ap, subst}
use Rattle.std.specs.Prelude.{suc, ◌+◌}
use Rattle.nm_base.specs.declared.int_type.IntType.{IntType}
use Rattle.nm_base.specs.declared.pos.Pos.{Pos}
use Rattle.nm_base.specs.declared.refusal.Refusal.TheVariants.{BadType}
use Rattle.nesc_core.specs.Plain as core
use Rattle.nesc_core.specs.Plain.{Place, Ty}
use Rattle.nesc_tree.specs.Plain as s
use Rattle.nesc_types.specs.Constant.{pos_of}
use Rattle.nesc_types.specs.Conversions.{promoted}
use Rattle.nesc_types.specs.Rule.{Rule, or_refuse}
use Rattle.nesc_types.specs.Values.{Constant}
use Rattle.body_meaning.specs.Initial.{init_pos, initial, initials, part_of}
use Rattle.body_meaning.specs.Scopes.{back_to}
use Rattle.body_meaning.specs.Stmts.{Labelled, all_variables, cases, declaration, declaration_in, declares, evaluated, initials_of, item_of, items, label, labelled, labelled_items, otherwise_of, returned, returned_nothing, returned_value, started, step_of, stmt, tested, tested_or_one, type_declared, type_named, variable}
use Rattle.body_meaning.specs.Tree as tree
use Rattle.body_meaning.specs.Tree.{Decl, Head, Init, Inits, MaybeStmt, Start, Stmt, Stmts, Variable, first, many, more_inits, more_stmts, no_inits, no_stmt, no_stmts, nothing, one, some_stmt}
use Rattle.elab_items.proofs.Scoped.{Scoped, again, alone_scoped, scoped_give, scoped_of, scoped_stopped, scoped_then}
use Rattle.elab_kept.specs.Grows.{IsPrefix}
use Rattle.elab_kept.proofs.Parts as parts
use Rattle.elab_kept.proofs.Places.{stored_kept}
use Rattle.elab_kept.proofs.Steps.{Kept, grows_on, kept_by, kept_on, kept_rule, kept_same, kept_then, longer_prefix, whole_prefix, with_local, with_name}
use Rattle.elab_kept.proofs.Walk.{base_kept, constant_kept, found_kept, lengths_kept}
use Rattle.elab_meaning.specs.Convert.{Target, converted, integer, is_void, size, target}
use Rattle.elab_meaning.specs.Elab.{Elab, State, after, by, give}
use Rattle.elab_meaning.specs.Operators.{Based, new_name}
use Rattle.elab_meaning.specs.Scope.{Env}
use Rattle.elab_meaning.specs.Wired.{found, value}
use Rattle.elab_modules.specs.Behind.{Has}
use Rattle.program_meaning.specs.Heads.{Form, Heading, code_of, heading, line, line_at, line_given, line_number, is_interrupt, may_handle, no_locals, outermost, vector_in}
use Rattle.program_meaning.specs.Variables.{declared_variable}

-- ---- steps

pub has_same : (st : State) → Has st st
has_same st = (whole_prefix st.names, whole_prefix st.tags)

pub scoped_same : {A : Type 0} (x : A) (st : State) → Scoped st (Ok (x, st))
scoped_same x st = scoped_give x st st (whole_prefix st.names) (whole_prefix st.tags)

-- behind a rule that looks at no state
scoped_rule : {A B : Type 0} (st : State) (r : Rule A) (next : A → State → Rule (B × State)) → ((x : A) → Scoped st (next x st)) → Scoped st (after (by r st) next)
scoped_rule st (Ok x) next f = f x
scoped_rule st (Err e) next f = scoped_stopped st e

pub same_prefix : {A : Type 0} (xs ys : List A) → ys ≡ xs → IsPrefix xs ys
same_prefix xs ys e = subst (λ l. IsPrefix xs l) (sym e) (whole_prefix xs)

-- a scope is closed again behind work in it
closed : {A : Type 0} (st inner : State) (r : Rule (A × State)) → Has st inner → Scoped inner r → Scoped st (after r (λ x t. after (back_to st t) (λ u. give x)))
closed st inner (Ok x) h k =
    let kept = k.by x.0 x.1 refl in
    scoped_give x.0 st _ (same_prefix st.names _ (again st.names x.1.names (longer_prefix st.names inner.names x.1.names h.0 kept.0)))
    (same_prefix st.tags _ (again st.tags x.1.tags (longer_prefix st.tags inner.tags x.1.tags h.1 kept.1)))
closed st inner (Err e) h k = scoped_stopped st e

abbrev pub entered : State → State
entered st = record st { first_name = length st.names; first_tag = length st.tags }

in_scope : {A : Type 0} (st : State) (r : Rule (A × State)) → Scoped (entered st) r → Scoped st (after r (λ x t. after (back_to st t) (λ u. give x)))
in_scope st r h = closed st (entered st) r (has_same st) h

module _ (env : Env) (values : List (Option Constant)) where
  -- ---- declarations

  mutual
    initial_kept : (at : Pos) (p : Target) (i : Init) (st : State) → Kept st (initial env values at p i st)
    initial_kept at p (one e) st = kept_then st _ _ (found_kept env values e st)
        (λ f t. kept_then t _ _ (stored_kept None at (pos_of e) p f t) (λ g u. kept_same _ u))
    initial_kept at p (many is) st = initials_kept at p 0 is st

    initials_kept : (at : Pos) (p : Target) (k : ℕ) (is : Inits) (st : State) → Kept st (initials env values at p k is st)
    initials_kept at p k no_inits st = kept_same _ st
    initials_kept at p k (more_inits i rest) st = kept_rule st (or_refuse (BadType (init_pos at i)) (part_of st.structs p k p.ty)) _
        (λ q. kept_then st _ _ (initial_kept at q i st) (λ xs t. kept_then t _ _ (initials_kept at p (suc k) rest t) (λ ys u. kept_same _ u)))

  pub initials_of_kept : (at : Pos) (p : Place) (t : Ty) (i : Option Init) (st : State) → Kept st (initials_of env values at p t i st)
  initials_of_kept at p t None st = kept_same _ st
  initials_of_kept at p t (Some i) st = initial_kept at (target p [] t) i st

  variable_kept : (b : Based) (said : Bool) (v : Variable) (st : State) → Kept st (variable env values b said v st)
  variable_kept b said v st = kept_then st _ _ (parts.starred_kept v.at v.stars b st)
      (λ p t. kept_then t _ _ (lengths_kept env values v.dims t)
      (λ ns u. kept_then u _ _ (parts.dimensioned_kept v.at p ns u)
      (λ (ty : Ty) (x : State). kept_rule x (size x.structs v.at ty) _
      (λ n. kept_rule x (new_name v.at x.first_name x.names v.name) _
      (λ z. kept_on x _ _ (grows_on x _ _ (with_local x ty) (with_name _ _))
      (kept_then _ _ _ (initials_of_kept v.at (core.local (length x.locals)) ty v.init _) (λ es w. kept_same _ w)))))))

  variables_kept : (b : Based) (said : Bool) (vs : List Variable) (st : State) → Kept st (all_variables env values b said vs st)
  variables_kept b said [] st = kept_same _ st
  variables_kept b said (v ∷ vs) st = kept_then st _ _ (variable_kept b said v st)
      (λ xs t. kept_then t _ _ (variables_kept b said vs t) (λ ys u. kept_same _ u))

  declares_kept : (at : Pos) (t : s.TypeSpec) (vs : List Variable) (st : State) → Kept st (declares env values at t vs st)
  declares_kept at (s.type_spec base stars dims is_const) vs st = kept_then st _ _ (base_kept env values at base st) (λ b t. variables_kept b is_const vs t)

  pub type_named_kept : (at : Pos) (name : List ℕ) (t : s.TypeSpec) (st : State) → Kept st (type_named env values at name t st)
  type_named_kept at name (s.type_spec base stars dims is_const) st = kept_then st _ _ (base_kept env values at base st)
      (λ b t. kept_then t _ _ (parts.starred_kept at stars b t)
      (λ p u. kept_then u _ _ (lengths_kept env values dims u)
      (λ ns v. kept_then v _ _ (parts.dimensioned_kept at p ns v)
      (λ ty (x : State). kept_rule x (new_name at x.first_name x.names name) _ (λ z. kept_on x _ _ (with_name x _) (kept_same _ _))))))

  pub type_declared_kept : (at : Pos) (t : s.TypeSpec) (st : State) → Kept st (type_declared env values at t st)
  type_declared_kept at (s.type_spec base stars dims is_const) st = kept_then st _ _ (base_kept env values at base st) (λ b t. kept_same _ t)

  declaration_scoped : (at : Pos) (d : Decl) (st : State) → Scoped st (declaration env values at d st)
  declaration_scoped at (tree.typedef name t attrs name_at) st = scoped_of st _ (type_named_kept name_at name t st)
  declaration_scoped at (tree.type_only t type_at) st = scoped_of st _ (type_declared_kept type_at t st)
  declaration_scoped at (tree.variables t norace vs) st = scoped_of st _ (declares_kept at t vs st)
  declaration_scoped at (tree.function head body) st = scoped_stopped st _

  -- ---- parts of statements

  value_kept : (e : s.Expr) (st : State) → Kept st (value env values e st)
  value_kept e st = parts.valued_kept e (found env values e) st (found_kept env values e st)

  tested_scoped : (e : s.Expr) (st : State) → Scoped st (tested env values e st)
  tested_scoped e st = scoped_of st _ (kept_then st _ _ (value_kept e st) (λ v t. kept_by t _))

  tested_or_one_scoped : (e : s.MaybeExpr) (st : State) → Scoped st (tested_or_one env values e st)
  tested_or_one_scoped s.no_expr st = scoped_same _ st
  tested_or_one_scoped (s.some_expr e) st = tested_scoped e st

  evaluated_scoped : (e : s.Expr) (st : State) → Scoped st (evaluated env values e st)
  evaluated_scoped e st = scoped_of st _ (kept_then st _ _ (value_kept e st) (λ v t. kept_same _ t))

  step_scoped : (e : s.MaybeExpr) (st : State) → Scoped st (step_of env values e st)
  step_scoped s.no_expr st = scoped_same _ st
  step_scoped (s.some_expr e) st = scoped_then st _ _ (evaluated_scoped e st) (λ x t. scoped_same _ t)

  started_scoped : (at : Pos) (x : Start) (st : State) → Scoped st (started env values at x st)
  started_scoped at nothing st = scoped_same _ st
  started_scoped at (first e) st = scoped_then st _ _ (evaluated_scoped e st) (λ x t. scoped_same _ t)
  started_scoped at (tree.declared t vs) st = scoped_of st _ (declares_kept at t vs st)

  label_scoped : (t : IntType) (e : s.Expr) (st : State) → Scoped st (label env values t e st)
  label_scoped t e st = scoped_of st _ (kept_then st _ _ (constant_kept env values (pos_of e) e true st) (λ c t. kept_same _ t))

  item_scoped : (d : Option (Decl × Pos)) (work : Elab core.Stmt) (st : State) → Scoped st (work st) → Scoped st (item_of env values d work st)
  item_scoped (Some d) work st h = declaration_scoped d.1 d.0 st
  item_scoped None work st h = scoped_then st _ _ h (λ c t. scoped_same _ t)

  module _ (result : Ty) where
    nothing_scoped : (at : Pos) (t : Bool) (st : State) → Scoped st (returned_nothing result at t st)
    nothing_scoped at true st = scoped_same _ st
    nothing_scoped at false st = scoped_stopped st _

    value_scoped : (e : s.Expr) (t : Bool) (st : State) → Scoped st (returned_value env values result e t st)
    value_scoped e true st = scoped_stopped st _
    value_scoped e false st = scoped_of st _ (kept_then st _ _ (value_kept e st) (λ v t. kept_rule t (converted (pos_of e) result v) _ (λ x. kept_same _ t)))

    returned_scoped : (at : Pos) (e : s.MaybeExpr) (st : State) → Scoped st (returned env values result at e st)
    returned_scoped at s.no_expr st = nothing_scoped at (is_void result) st
    returned_scoped at (s.some_expr e) st = value_scoped e (is_void result) st

    -- ---- statements

    mutual
      stmt_scoped : (x : Stmt) (st : State) → Scoped st (stmt env values result x st)
      stmt_scoped (tree.block xs at) st = scoped_then st _ _ (in_scope st _ (items_scoped xs (entered st))) (λ c t. scoped_same _ t)
      stmt_scoped (tree.empty at) st = scoped_same _ st
      stmt_scoped (tree.eval e at) st = scoped_then st _ _ (evaluated_scoped e st) (λ x t. scoped_same _ t)
      stmt_scoped (tree.atomic x at) st = scoped_then st _ _ (stmt_scoped x st) (λ c t. scoped_same _ t)
      stmt_scoped (tree.branch e x otherwise at) st = scoped_then st _ _ (tested_scoped e st)
          (λ y t. scoped_then t _ _ (stmt_scoped x t) (λ c u. scoped_then u _ _ (otherwise_scoped otherwise u) (λ o v. scoped_same _ v)))
      stmt_scoped (tree.while e x at) st = scoped_then st _ _ (tested_scoped e st) (λ y t. scoped_then t _ _ (stmt_scoped x t) (λ c u. scoped_same _ u))
      stmt_scoped (tree.do_while x e at) st = scoped_then st _ _ (stmt_scoped x st) (λ c t. scoped_then t _ _ (tested_scoped e t) (λ y u. scoped_same _ u))
      stmt_scoped (tree.for start test step x at) st = in_scope st _ (scoped_then (entered st) _ _ (started_scoped at start (entered st))
          (λ before t. scoped_then t _ _ (tested_or_one_scoped test t)
          (λ y u. scoped_then u _ _ (step_scoped step u) (λ next v. scoped_then v _ _ (stmt_scoped x v) (λ c w. scoped_same _ w)))))
      stmt_scoped (tree.switch e x at) st = scoped_then st _ _ (scoped_of st _ (value_kept e st))
          (λ v t. scoped_rule t (integer (pos_of e) v.ty) _
          (λ n. scoped_then t _ _ (cases_scoped (promoted n) x (stmt env values result x) t (stmt_scoped x t)) (λ l u. scoped_same _ u)))
      stmt_scoped (tree.break at) st = scoped_same _ st
      stmt_scoped (tree.continue at) st = scoped_same _ st
      stmt_scoped (tree.return e at) st = returned_scoped at e st
      stmt_scoped (tree.local d at) st = scoped_then st _ _ (declaration_scoped at d st) (λ c t. scoped_same _ t)
      stmt_scoped (tree.case e x at) st = scoped_stopped st _
      stmt_scoped (tree.default x at) st = scoped_stopped st _

      otherwise_scoped : (x : MaybeStmt) (st : State) → Scoped st (otherwise_of env values result x st)
      otherwise_scoped no_stmt st = scoped_same _ st
      otherwise_scoped (some_stmt x) st = stmt_scoped x st

      items_scoped : (xs : Stmts) (st : State) → Scoped st (items env values result xs st)
      items_scoped no_stmts st = scoped_same _ st
      items_scoped (more_stmts x xs) st = scoped_then st _ _ (item_scoped (declaration_in x) (stmt env values result x) st (stmt_scoped x st))
          (λ c t. scoped_then t _ _ (items_scoped xs t) (λ cs u. scoped_same _ u))

      cases_scoped : (t : IntType) (x : Stmt) (work : Elab core.Stmt) (st : State) → Scoped st (work st) → Scoped st (cases env values result t x work st)
      cases_scoped t (tree.block xs at) work st h = in_scope st _ (labelled_items_scoped t 0 xs (entered st))
      cases_scoped t x work st h = scoped_then st _ _ h (λ c u. scoped_same _ u)

      labelled_items_scoped : (t : IntType) (start : ℕ) (xs : Stmts) (st : State) → Scoped st (labelled_items env values result t start xs st)
      labelled_items_scoped t start no_stmts st = scoped_same _ st
      labelled_items_scoped t start (more_stmts x xs) st = scoped_then st _ _ (labelled_scoped t start x (stmt env values result x) st (stmt_scoped x st))
          (λ (l : Labelled) (u : State). scoped_then u _ _ (labelled_items_scoped t (start + length l.code) xs u) (λ more v. scoped_same _ v))

      labelled_scoped : (t : IntType) (start : ℕ) (x : Stmt) (work : Elab core.Stmt) (st : State) → Scoped st (work st) → Scoped st (labelled env values result t start x work st)
      labelled_scoped t start (tree.case e x at) work st h = scoped_then st _ _ (label_scoped t e st)
          (λ z u. scoped_then u _ _ (labelled_scoped t (suc start) x (stmt env values result x) u (stmt_scoped x u)) (λ l v. scoped_same _ v))
      labelled_scoped t start (tree.default x at) work st h = scoped_then st _ _ (labelled_scoped t (suc start) x (stmt env values result x) st (stmt_scoped x st)) (λ l v. scoped_same _ v)
      labelled_scoped t start x work st h = scoped_then st _ _ (item_scoped (declaration_in x) work st h) (λ c u. scoped_same _ u)

    outermost_scoped : (x : Stmt) (st : State) → Scoped st (outermost env values result x st)
    outermost_scoped (tree.block xs at) st = scoped_then st _ _ (items_scoped xs st) (λ c t. scoped_same _ t)
    outermost_scoped x st = stmt_scoped x st

  -- ---- heads and bodies of functions

  pub code_scoped : (g : Heading) (x : Stmt) (st : State) → Scoped st (code_of env values g x st)
  code_scoped g x st =
      let inner : State = record (entered st) { names = st.names ++ g.names; tags = st.tags ++ g.tags } in
      closed st inner (outermost env values g.form.result x inner) ((g.names, refl), (g.tags, refl)) (outermost_scoped g.form.result x inner)

  pub heading_scoped : (h : Head) (st : State) → Scoped st (heading env values h st)
  heading_scoped h st = record {
    by = λ g t e. (alone_scoped env values h st).by g (record t { locals = [] }) (ap (λ (r : Rule (Heading × State)). after r (λ x u. after (no_locals u) (λ z. give x))) e);
  }

  line_at_kept : (e : Option s.Expr) (st : State) → Kept st (line_at env values e st)
  line_at_kept None st = kept_same _ st
  line_at_kept (Some e) st = kept_then st _ _ (constant_kept env values (pos_of e) e true st)
      (λ (c : Constant) (t : State). kept_rule t (line_number (pos_of e) c.1) _ (λ n. kept_same _ t))

  pub line_kept : (inside : Bool) (h : Head) (f : Form) (st : State) → Kept st (line env values inside h f st)
  line_kept inside h f st = kept_rule st (line_given h.at (is_interrupt h.attrs) (may_handle inside f) (vector_in h.attrs)) _ (λ e. line_at_kept e st)

  pub declared_kept : (b : Based) (said : Bool) (v : Variable) (k : ℕ) (st : State) → Kept st (declared_variable env values b said v k st)
  declared_kept b said v k st = kept_then st _ _ (parts.starred_kept v.at v.stars b st)
      (λ p t. kept_then t _ _ (lengths_kept env values v.dims t)
      (λ ns u. kept_then u _ _ (parts.dimensioned_kept v.at p ns u)
      (λ (ty : Ty) (x : State). kept_rule x (size x.structs v.at ty) _
      (λ n. kept_rule x (new_name v.at x.first_name x.names v.name) _ (λ z. kept_on x _ _ (with_name x _) (kept_same _ _))))))
