-- Statements, declarations and functions by their parts.
use Rattle.std.proofs.Common.{◌≡◌, ℕ, ◌+◌, ◌<◌, ◌≤◌, Bool, List, [], ◌∷◌, ◌++◌, drop, length, get_or, map, Option, Some, None, Ok, Err, ap, sym, ◌∙◌, refl, rules}
use Rattle.std.specs.Option.{option_map}
use Rattle.std.proofs.Math.ListN.{drop_of_length-le}
use Rattle.nm_base.specs.declared.pos.Pos.{Pos}
use Rattle.nesc_tree.specs.Plain as s
use Rattle.nesc_tree.specs.declared.declarations.Decl as rust_decl
use Rattle.nesc_tree.specs.declared.declarations.Init as rust_init
use Rattle.nesc_tree.specs.declared.declarations.Stmt as rust_stmt
use Rattle.nesc_tree.specs.declared.declarations.Variable as rust_variable
use Rattle.nesc_tree.specs.declared.tree.Expr as rust_expr
use Rattle.nesc_tree.specs.declared.tree.Param as rust_param
use Rattle.nesc_tree.specs.View.{expr_of}
use Rattle.nesc_types.specs.Rule.{Rule}
use Rattle.elab_meaning.specs.Elab.{Elab, State, after, give, ◌>>◌}
use Rattle.elab_meaning.specs.Operators.{Based}
use Rattle.elab_meaning.specs.Scope.{Env}
use Rattle.elab_meaning.specs.Wired.{base_of}
use Rattle.elab_pieces.specs.Flow.{block_in}
use Rattle.elab_attempts.specs.Attempts.{attempted, unless_refused, type_in_force}
use Rattle.elab_stmts.proofs.Forms.{case_is, default_is}
use Rattle.body_meaning.specs.Scopes.{in_turn, scoped}
use Rattle.body_meaning.specs.Tree as tree
use Rattle.body_meaning.specs.Tree.{Init, Inits, Variable, Start, Decl, Head, Stmt, Stmts, MaybeStmt}
use Rattle.body_meaning.specs.View.{decl_of, init_of, inits, maybe_stmt, param_of, stmt_of, stmts, variable_of}
use Rattle.nesc_unwired.specs.Told.{Reach}
use Rattle.nesc_unwired.specs.Calls as calls
use Rattle.item_targets.specs.Walk.{all_declared_at, behind_bracket_at, body_at, declared_at, env_in, expr_at, function_at, init_at, init_of_at, inits_at, local_at, maybe_at, maybe_stmt_at, module_of, outermost_at, started_at, stmt_at, stmts_at, type_at, typed_at, variable_at, variables_at, variables_by_at, within_at}
use Rattle.item_targets.specs.declared.walk.Walk.{Walk}
use Rattle.item_targets.proofs.ItemLists.{next_of}
use Rattle.item_targets.proofs.Turns.{Alike, done}
use Rattle.item_targets.proofs.Blocks.{regrouped}

-- ---- parameters that come in force

module _ (env : Env) (m : calls.Module) (at : Pos) (xs : List rust_param.Param) where
  pub params_next : (k : ℕ) (x : rust_param.Param) (st st1 : State) → k < length xs → x ≡ get_or xs k x → calls.param_in_force env m at (param_of x) st ≡ done st1
      → calls.params_in_force env m at (map param_of (drop k xs)) st ≡ calls.params_in_force env m at (map param_of (drop (k + 1) xs)) st1
  params_next k x st st1 below is h =
      ap (λ (ys : List rust_param.Param). calls.params_in_force env m at (map param_of ys) st) (next_of xs k x below is)
      ∙ ap (λ (r : Rule (Unit {0} × State)). after r (λ _. calls.params_in_force env m at (map param_of (drop (k + 1) xs)))) h

  pub params_end : (k : ℕ) (st : State) → length xs ≤ k → calls.params_in_force env m at (map param_of (drop k xs)) st ≡ done st
  params_end k st h = ap (λ (ys : List rust_param.Param). calls.params_in_force env m at (map param_of ys) st) (drop_of_length-le xs h)

-- ---- the same forms as plain data

pub case_shape : (whole : rust_stmt.Stmt) (e : rust_expr.Expr) (y x : rust_stmt.Stmt) (at : Pos) → whole ≡ rust_stmt.Case e y at → x ≡ y → stmt_of whole ≡ tree.case (expr_of e) (stmt_of x) at
case_shape whole e y x at is p = case_is whole e y at is ∙ ap (λ (z : rust_stmt.Stmt). tree.case (expr_of e) (stmt_of z) at) (sym p)

pub default_shape : (whole y x : rust_stmt.Stmt) (at : Pos) → whole ≡ rust_stmt.Default y at → x ≡ y → stmt_of whole ≡ tree.default (stmt_of x) at
default_shape whole y x at is p = default_is whole y at is ∙ ap (λ (z : rust_stmt.Stmt). tree.default (stmt_of z) at) (sym p)

pub init_one_is : (whole : rust_init.Init) (e : rust_expr.Expr) → whole ≡ rust_init.One e → init_of whole ≡ tree.one (expr_of e)
init_one_is whole e is = ap init_of is ∙ search (rules, rust_init.the_lemmas)

pub init_many_is : (whole : rust_init.Init) (xs : List rust_init.Init) → whole ≡ rust_init.Many xs → init_of whole ≡ tree.many (inits (map init_of xs))
init_many_is whole xs is = ap init_of is ∙ search (rules, rust_init.the_lemmas)

module _ {R : Type 0} (reach : R → Reach) (w : Walk R) where
  -- ---- initialisers

  pub by_init : (whole : rust_init.Init) (y : Init) (b : Elab (List Pos)) → init_of whole ≡ y → Alike (init_at reach w y) b → Alike (init_at reach w (init_of whole)) b
  by_init whole y b is form = λ st. ap (λ (z : Init). init_at reach w z st) is ∙ form st

  pub init_one : (e : s.Expr) → Alike (init_at reach w (tree.one e)) (expr_at reach w e)
  unfolding expr_at init_at
  init_one e = λ st. refl

  pub init_many : (is : Inits) → Alike (init_at reach w (tree.many is)) (inits_at reach w is)
  unfolding init_at inits_at
  init_many is = λ st. refl

  pub inits_next : (xs : List rust_init.Init) (k : ℕ) (x : rust_init.Init) → k < length xs → x ≡ get_or xs k x
      → Alike (inits_at reach w (inits (map init_of (drop k xs)))) (in_turn (init_at reach w (init_of x)) (inits_at reach w (inits (map init_of (drop (k + 1) xs)))))
  unfolding init_at inits_at
  inits_next xs k x below is = λ st. ap (λ (ys : List rust_init.Init). inits_at reach w (inits (map init_of ys)) st) (next_of xs k x below is)

  pub inits_end : (xs : List rust_init.Init) (k : ℕ) → length xs ≤ k → Alike (inits_at reach w (inits (map init_of (drop k xs)))) (give [])
  unfolding inits_at
  inits_end xs k h = λ st. ap (λ (ys : List rust_init.Init). inits_at reach w (inits (map init_of ys)) st) (drop_of_length-le xs h)

  -- ---- variables

  pub variable_parts : (b : Option Based) (said : Bool) (v : Variable)
      → Alike (variable_at reach w b said v) (calls.variable_by (env_in reach w) (module_of reach w) b said v >> init_of_at reach w v.init)
  unfolding init_of_at variable_at
  variable_parts b said v = λ st. refl

  one_more : (b : Option Based) (said : Bool) (v : Variable) (vs : List Variable)
      → Alike (variables_by_at reach w b said (v ∷ vs)) (in_turn (variable_at reach w b said v) (variables_by_at reach w b said vs))
  unfolding variable_at variables_by_at
  one_more b said v vs = λ st.
      regrouped (calls.variable_by (env_in reach w) (module_of reach w) b said v) (calls.init_of (env_in reach w) (module_of reach w) v.init) (calls.variables_by (env_in reach w) (module_of reach w) b said vs) st

  pub variables_next : (b : Option Based) (said : Bool) (xs : List rust_variable.Variable) (k : ℕ) (x : rust_variable.Variable) → k < length xs → x ≡ get_or xs k x
      → Alike (variables_by_at reach w b said (map variable_of (drop k xs))) (in_turn (variable_at reach w b said (variable_of x)) (variables_by_at reach w b said (map variable_of (drop (k + 1) xs))))
  variables_next b said xs k x below is = λ st. ap (λ (ys : List rust_variable.Variable). variables_by_at reach w b said (map variable_of ys) st) (next_of xs k x below is)
      ∙ one_more b said (variable_of x) (map variable_of (drop (k + 1) xs)) st

  pub variables_end : (b : Option Based) (said : Bool) (xs : List rust_variable.Variable) (k : ℕ) → length xs ≤ k → Alike (variables_by_at reach w b said (map variable_of (drop k xs))) (give [])
  unfolding variables_by_at
  variables_end b said xs k h = λ st. ap (λ (ys : List rust_variable.Variable). variables_by_at reach w b said (map variable_of ys) st) (drop_of_length-le xs h)

  based : (said : Bool) (vs : List Variable) (old : State) (r : Rule (Based × State))
      → calls.based_then (env_in reach w) (module_of reach w) said vs old r ≡ variables_by_at reach w (unless_refused old r).0 said vs (unless_refused old r).1
  unfolding variables_by_at
  based said vs old (Ok x) = refl
  based said vs old (Err e) = refl

  -- behind the type before the stars, or where it is refused
  pub typed_parts : (at : Pos) (base : s.Base) (said : Bool) (vs : List Variable) (b : Option Based) (st x : State)
      → b ≡ (attempted (base_of (env_in reach w) [] at base) st).0 → x ≡ (attempted (base_of (env_in reach w) [] at base) st).1
      → typed_at reach w at base said vs st ≡ variables_by_at reach w b said vs x
  unfolding typed_at
  typed_parts at base said vs b st x p q =
      based said vs st (base_of (env_in reach w) [] at base st)
      ∙ ap (λ (c : Option Based). variables_by_at reach w c said vs (attempted (base_of (env_in reach w) [] at base) st).1) (sym p)
      ∙ ap (λ (y : State). variables_by_at reach w b said vs y) (sym q)

  -- ---- declarations in blocks

  pub type_parts : (at : Pos) (d : Decl) → Alike (type_at reach w at d) (type_in_force (env_in reach w) at d >> give [])
  unfolding type_at
  type_parts at d = λ st. refl

  -- ---- statements

  pub by_stmt : (whole : rust_stmt.Stmt) (y : Stmt) (b : Elab (List Pos)) → stmt_of whole ≡ y → Alike (stmt_at reach w y) b → Alike (stmt_at reach w (stmt_of whole)) b
  by_stmt whole y b is form = λ st. ap (λ (z : Stmt). stmt_at reach w z st) is ∙ form st

  pub block_form : (xs : Stmts) (at : Pos) → Alike (stmt_at reach w (tree.block xs at)) (scoped (stmts_at reach w xs))
  unfolding stmt_at stmts_at
  block_form xs at = λ st. refl

  pub empty_form : (at : Pos) → Alike (stmt_at reach w (tree.empty at)) (give [])
  unfolding stmt_at
  empty_form at = λ st. refl

  pub break_form : (at : Pos) → Alike (stmt_at reach w (tree.break at)) (give [])
  unfolding stmt_at
  break_form at = λ st. refl

  pub continue_form : (at : Pos) → Alike (stmt_at reach w (tree.continue at)) (give [])
  unfolding stmt_at
  continue_form at = λ st. refl

  pub eval_form : (e : s.Expr) (at : Pos) → Alike (stmt_at reach w (tree.eval e at)) (expr_at reach w e)
  unfolding expr_at stmt_at
  eval_form e at = λ st. refl

  pub atomic_form : (x : Stmt) (at : Pos) → Alike (stmt_at reach w (tree.atomic x at)) (stmt_at reach w x)
  unfolding stmt_at
  atomic_form x at = λ st. refl

  pub default_form : (x : Stmt) (at : Pos) → Alike (stmt_at reach w (tree.default x at)) (stmt_at reach w x)
  unfolding stmt_at
  default_form x at = λ st. refl

  pub branch_form : (e : s.Expr) (x : Stmt) (other : MaybeStmt) (at : Pos)
      → Alike (stmt_at reach w (tree.branch e x other at)) (in_turn (expr_at reach w e) (in_turn (stmt_at reach w x) (maybe_stmt_at reach w other)))
  unfolding expr_at maybe_stmt_at stmt_at
  branch_form e x other at = λ st. refl

  pub while_form : (e : s.Expr) (x : Stmt) (at : Pos) → Alike (stmt_at reach w (tree.while e x at)) (in_turn (expr_at reach w e) (stmt_at reach w x))
  unfolding expr_at stmt_at
  while_form e x at = λ st. refl

  pub switch_form : (e : s.Expr) (x : Stmt) (at : Pos) → Alike (stmt_at reach w (tree.switch e x at)) (in_turn (expr_at reach w e) (stmt_at reach w x))
  unfolding expr_at stmt_at
  switch_form e x at = λ st. refl

  pub case_form : (e : s.Expr) (x : Stmt) (at : Pos) → Alike (stmt_at reach w (tree.case e x at)) (in_turn (expr_at reach w e) (stmt_at reach w x))
  unfolding expr_at stmt_at
  case_form e x at = λ st. refl

  pub do_form : (x : Stmt) (e : s.Expr) (at : Pos) → Alike (stmt_at reach w (tree.do_while x e at)) (in_turn (stmt_at reach w x) (expr_at reach w e))
  unfolding expr_at stmt_at
  do_form x e at = λ st. refl

  pub for_form : (start : Start) (test step : s.MaybeExpr) (x : Stmt) (at : Pos)
      → Alike (stmt_at reach w (tree.for start test step x at)) (scoped (in_turn (started_at reach w at start) (in_turn (maybe_at reach w test) (in_turn (maybe_at reach w step) (stmt_at reach w x)))))
  unfolding maybe_at started_at stmt_at
  for_form start test step x at = λ st. refl

  pub return_form : (e : s.MaybeExpr) (at : Pos) → Alike (stmt_at reach w (tree.return e at)) (maybe_at reach w e)
  unfolding maybe_at stmt_at
  return_form e at = λ st. refl

  pub local_form : (d : Decl) (at : Pos) → Alike (stmt_at reach w (tree.local d at)) (local_at reach w at d)
  unfolding local_at stmt_at
  local_form d at = λ st. refl

  pub stmts_next : (xs : List rust_stmt.Stmt) (k : ℕ) (x : rust_stmt.Stmt) → k < length xs → x ≡ get_or xs k x
      → Alike (stmts_at reach w (stmts (map stmt_of (drop k xs)))) (in_turn (stmt_at reach w (stmt_of x)) (stmts_at reach w (stmts (map stmt_of (drop (k + 1) xs)))))
  unfolding stmt_at stmts_at
  stmts_next xs k x below is = λ st. ap (λ (ys : List rust_stmt.Stmt). stmts_at reach w (stmts (map stmt_of ys)) st) (next_of xs k x below is)

  pub stmts_end : (xs : List rust_stmt.Stmt) (k : ℕ) → length xs ≤ k → Alike (stmts_at reach w (stmts (map stmt_of (drop k xs)))) (give [])
  unfolding stmts_at
  stmts_end xs k h = λ st. ap (λ (ys : List rust_stmt.Stmt). stmts_at reach w (stmts (map stmt_of ys)) st) (drop_of_length-le xs h)

  -- ---- functions

  abbrev outermost_by : Option Stmts → Stmt → Elab (List Pos)
  outermost_by (Some xs) whole = stmts_at reach w xs
  outermost_by None whole = stmt_at reach w whole

  outermost_is : (x : Stmt) → Alike (outermost_at reach w x) (outermost_by (block_in x) x)
  unfolding outermost_at stmt_at stmts_at
  outermost_is (tree.block xs at) = λ st. refl
  outermost_is x = λ st. refl

  pub outermost_block : (x : Stmt) (xs : Stmts) → block_in x ≡ Some xs → Alike (outermost_at reach w x) (stmts_at reach w xs)
  outermost_block x xs is = λ st. outermost_is x st ∙ ap (λ (o : Option Stmts). outermost_by o x st) is

  pub outermost_plain : (x : Stmt) → block_in x ≡ None → Alike (outermost_at reach w x) (stmt_at reach w x)
  outermost_plain x is = λ st. outermost_is x st ∙ ap (λ (o : Option Stmts). outermost_by o x st) is

  pub behind_bracket_parts : (h : Head) (x : Stmt) → Alike (behind_bracket_at reach w h x) (calls.params_in_force (env_in reach w) (module_of reach w) h.at h.params >> outermost_at reach w x)
  unfolding behind_bracket_at outermost_at
  behind_bracket_parts h x = λ st. refl

  pub within_parts : (h : Head) (x : Stmt) → Alike (within_at reach w h x) (calls.bracket_in_force (env_in reach w) (module_of reach w) h.at h.bracket >> behind_bracket_at reach w h x)
  unfolding behind_bracket_at within_at
  within_parts h x = λ st. refl

  body_some : (h : Head) (x : Stmt) → Alike (body_at reach w h (tree.some_stmt x)) (scoped (within_at reach w h x))
  unfolding body_at within_at
  body_some h x = λ st. refl

  pub body_found : (h : Head) (o : Option rust_stmt.Stmt) (x : rust_stmt.Stmt) → o ≡ Some x → Alike (body_at reach w h (maybe_stmt (option_map stmt_of o))) (scoped (within_at reach w h (stmt_of x)))
  body_found h o x is = λ st. ap (λ (y : Option rust_stmt.Stmt). body_at reach w h (maybe_stmt (option_map stmt_of y)) st) is ∙ body_some h (stmt_of x) st

  pub function_parts : (h : Head) (x : MaybeStmt) → Alike (function_at reach w h x) (calls.own_name (env_in reach w) (module_of reach w) h h.kind >> body_at reach w h x)
  unfolding body_at function_at
  function_parts h x = λ st. refl

  -- ---- the declarations of a module

  pub declared_variables : (t : s.TypeSpec) (norace : Bool) (vs : List Variable) (at : Pos) → at ≡ calls.first_at (env_in reach w) (module_of reach w) (record { file = 0; line = 1; col = 1 }) vs
      → Alike (declared_at reach w (tree.variables t norace vs)) (variables_at reach w at t vs)
  unfolding declared_at variables_at
  declared_variables t norace vs at is = λ st. ap (λ (p : Pos). variables_at reach w p t vs st) (sym is)

  pub decls_next : (xs : List rust_decl.Decl) (k : ℕ) (x : rust_decl.Decl) → k < length xs → x ≡ get_or xs k x
      → Alike (all_declared_at reach w (map decl_of (drop k xs))) (in_turn (declared_at reach w (decl_of x)) (all_declared_at reach w (map decl_of (drop (k + 1) xs))))
  unfolding all_declared_at declared_at
  decls_next xs k x below is = λ st. ap (λ (ys : List rust_decl.Decl). all_declared_at reach w (map decl_of ys) st) (next_of xs k x below is)

  pub decls_end : (xs : List rust_decl.Decl) (k : ℕ) → length xs ≤ k → Alike (all_declared_at reach w (map decl_of (drop k xs))) (give [])
  unfolding all_declared_at
  decls_end xs k h = λ st. ap (λ (ys : List rust_decl.Decl). all_declared_at reach w (map decl_of ys) st) (drop_of_length-le xs h)
