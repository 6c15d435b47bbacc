-- The definition at what is told of a module, under names that do not unfold (own).
use Rattle.std.specs.Prelude.{ℕ, Bool, true, ◌||◌, if◌then◌else◌, List, [], ◌∷◌, map, Option, Ok}
use Rattle.nm_base.specs.declared.pos.Pos.{Pos}
use Rattle.nesc_tree.specs.Plain as s
use Rattle.elab_meaning.specs.Elab.{Elab, State, ◌>>◌, give}
use Rattle.elab_meaning.specs.Operators.{Based}
use Rattle.elab_meaning.specs.Scope.{Env}
use Rattle.elab_meaning.specs.Wired.{base_of}
use Rattle.body_meaning.specs.Tree.{Init, Inits, Variable, Start, Decl, Head, Stmt, Stmts, MaybeStmt}
use Rattle.body_meaning.specs.View.{decl_of}
use Rattle.wire_elements.specs.View.{early_env}
use Rattle.elab_attempts.specs.Attempts.{type_in_force}
use Rattle.nesc_unwired.specs.Told.{Element, Reach, has}
use Rattle.nesc_unwired.specs.Calls as calls
use Rattle.nesc_unwired.specs.Calls.{Module}
use Rattle.item_targets.specs.View.{element_of}
use Rattle.item_targets.specs.declared.walk.Walk.{Walk}

module _ {R : Type 0} (reach : R → Reach) (w : Walk R) where
  abbrev pub env_in : Env
  env_in = early_env w.early.now

  abbrev pub module_of : Module
  module_of = record { elements = map element_of w.elements.now; reach = reach w.reach.now; decls = map decl_of w.decls.now }

  -- by a default, or along wires
  abbrev pub is_answered : State → (k : ℕ) → Element → (item : List ℕ) → s.MaybeExpr → Bool
  is_answered x k e item param = has e.name item true module_of.decls || calls.reaches_with env_in x (module_of.reach k) e.parameter param

  unfoldable pub unanswered_at : (k : ℕ) → Element → (item : List ℕ) → s.MaybeExpr → Pos → Elab (List Pos)
  unanswered_at k e item param at = λ x. Ok (if is_answered x k e item param then [] else at ∷ [], x)

  unfoldable pub of_element_at : (signal : Bool) → (item : List ℕ) → s.MaybeExpr → Pos → Option (ℕ × Element) → Elab (List Pos)
  of_element_at signal item param at e = λ x. Ok (calls.of_element env_in module_of x signal item param at e, x)

  unfoldable pub call_at : (signal : Bool) → (element item : List ℕ) → s.MaybeExpr → Pos → Elab (List Pos)
  call_at signal element item param at = λ x. Ok (calls.of_call env_in module_of x signal element item param at, x)

  unfoldable pub expr_at : s.Expr → Elab (List Pos)
  expr_at e = calls.expr env_in module_of e

  unfoldable pub exprs_at : s.Exprs → Elab (List Pos)
  exprs_at es = λ x. Ok (calls.in_exprs env_in module_of x es, x)

  unfoldable pub maybe_at : s.MaybeExpr → Elab (List Pos)
  maybe_at e = calls.maybe env_in module_of e

  unfoldable pub init_at : Init → Elab (List Pos)
  init_at i = calls.init env_in module_of i

  unfoldable pub inits_at : Inits → Elab (List Pos)
  inits_at is = calls.inits env_in module_of is

  unfoldable pub init_of_at : Option Init → Elab (List Pos)
  init_of_at i = calls.init_of env_in module_of i

  -- a variable, and its initialiser in its scope
  unfoldable pub variable_at : Option Based → (said_const : Bool) → Variable → Elab (List Pos)
  variable_at b said v = calls.variable_by env_in module_of b said v >> calls.init_of env_in module_of v.init

  unfoldable pub variables_by_at : Option Based → (said_const : Bool) → List Variable → Elab (List Pos)
  variables_by_at b said vs = calls.variables_by env_in module_of b said vs

  -- behind the type before their stars
  unfoldable pub typed_at : Pos → s.Base → (said_const : Bool) → List Variable → Elab (List Pos)
  typed_at at base said vs = λ x. calls.based_then env_in module_of said vs x (base_of env_in [] at base x)

  unfoldable pub variables_at : Pos → s.TypeSpec → List Variable → Elab (List Pos)
  variables_at at t vs = calls.variables env_in module_of at t vs

  unfoldable pub type_at : Pos → Decl → Elab (List Pos)
  type_at at d = type_in_force env_in at d >> give []

  unfoldable pub local_at : Pos → Decl → Elab (List Pos)
  local_at at d = calls.local env_in module_of at d

  unfoldable pub started_at : Pos → Start → Elab (List Pos)
  started_at at x = calls.started env_in module_of at x

  unfoldable pub stmt_at : Stmt → Elab (List Pos)
  stmt_at x = calls.stmt env_in module_of x

  unfoldable pub stmts_at : Stmts → Elab (List Pos)
  stmts_at xs = calls.stmts env_in module_of xs

  unfoldable pub maybe_stmt_at : MaybeStmt → Elab (List Pos)
  maybe_stmt_at x = calls.maybe_stmt env_in module_of x

  unfoldable pub outermost_at : Stmt → Elab (List Pos)
  outermost_at x = calls.outermost env_in module_of x

  -- the parameters of a function, and its body in their scope
  unfoldable pub behind_bracket_at : Head → Stmt → Elab (List Pos)
  behind_bracket_at h x = calls.params_in_force env_in module_of h.at h.params >> calls.outermost env_in module_of x

  unfoldable pub within_at : Head → Stmt → Elab (List Pos)
  within_at h x = calls.bracket_in_force env_in module_of h.at h.bracket >> (calls.params_in_force env_in module_of h.at h.params >> calls.outermost env_in module_of x)

  unfoldable pub body_at : Head → MaybeStmt → Elab (List Pos)
  body_at h x = calls.body env_in module_of h x

  unfoldable pub function_at : Head → MaybeStmt → Elab (List Pos)
  function_at h x = calls.own_name env_in module_of h h.kind >> calls.body env_in module_of h x

  unfoldable pub declared_at : Decl → Elab (List Pos)
  declared_at d = calls.declared env_in module_of d

  unfoldable pub all_declared_at : List Decl → Elab (List Pos)
  all_declared_at ds = calls.all_declared env_in module_of ds
