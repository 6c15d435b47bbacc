-- The calls and signals of a module that reach nothing and have no default, in the order of the text (nesC 1.3 Reference, sections 5, 6 and
-- 9; own: one whose parameter is no constant needs a default). Scopes, declarations and constants are those of elaboration, step by step; what
-- elaboration will refuse declares a name that is no constant.
use Rattle.std.specs.Prelude.{ℕ, ℤ, pos, negsuc, Bool, true, false, ◌||◌, if◌then◌else◌, List, [], ◌∷◌, ◌++◌, Option, Some, None, Ok, Err}
use Rattle.std.specs.List.{list_any}
use Rattle.nm_base.specs.declared.int_type.IntType.{IntType}
use Rattle.nm_base.specs.declared.pos.Pos.{Pos}
use Rattle.nm_base.specs.IntType.{wrapped}
use Rattle.nesc_tree.specs.Plain as s
use Rattle.nesc_tree.specs.declared.declarations.FuncKind.{FuncKind}
use Rattle.nesc_tree.specs.declared.declarations.FuncKind.TheVariants as kind
use Rattle.nesc_types.specs.Rule.{Rule}
use Rattle.nesc_types.specs.Values.{Constant}
use Rattle.elab_meaning.specs.Scope.{Env, task}
use Rattle.elab_meaning.specs.Elab.{State, Elab, ◌>>=◌, ◌>>◌, give, state, add_name}
use Rattle.elab_meaning.specs.Operators.{Based}
use Rattle.elab_meaning.specs.Wired.{base_of, whole_constant}
use Rattle.body_meaning.specs.Tree as tree
use Rattle.body_meaning.specs.Tree.{Init, Inits, Variable, Start, Decl, Head, Param, Stmt, Stmts, MaybeStmt}
use Rattle.body_meaning.specs.Scopes.{scoped, in_turn}
use Rattle.body_meaning.specs.Stmts.{declaration, variable}
use Rattle.program_meaning.specs.Heads.{bracket, parameter, passed_by}
use Rattle.nesc_unwired.specs.Told.{Element, Reach, has, element_from, is_called}

-- ---- names in force: work of elaboration, whose refusals come later

-- a name that is neither a constant nor a type
abbrev pub hides : List ℕ → Elab (Unit {0})
hides name = add_name name (task 0)

abbrev pub or_else : {A : Type 0} → Elab (Unit {0}) → State → Rule (A × State) → Rule (Unit {0} × State)
or_else fallback old (Ok x) = Ok (tt, x.1)
or_else fallback old (Err e) = fallback old

abbrev pub quietly : {A : Type 0} → Elab A → Elab (Unit {0})
quietly work = λ x. or_else (give tt) x (work x)

abbrev pub declares : {A : Type 0} → List ℕ → Elab A → Elab (Unit {0})
declares name work = λ x. or_else (hides name) x (work x)

abbrev pub hides_any : Option (List ℕ) → Elab (Unit {0})
hides_any None = give tt
hides_any (Some name) = hides name

-- ---- one call

abbrev pub constant_of : {A : Type 0} → Rule (Constant × A) → Option Constant
constant_of (Ok x) = Some x.0
constant_of (Err e) = None

-- of an unsigned type
abbrev pub natural : ℤ → ℕ
natural (pos n) = n
natural (negsuc n) = 0

abbrev pub reaches_by : (Option ℕ → Bool) → IntType → Option Constant → Bool
reaches_by reaches t None = false
reaches_by reaches t (Some c) = reaches (Some (natural (wrapped t c.1)))

-- with a bracket as the element has one; another is refused later
abbrev pub reaches_with : Env → State → (Option ℕ → Bool) → Option IntType → s.MaybeExpr → Bool
reaches_with env x reaches None s.no_expr = reaches None
reaches_with env x reaches (Some t) (s.some_expr e) = reaches_by reaches t (constant_of (whole_constant env [] e x))
reaches_with env x reaches _ _ = true

-- what is told of a module: its elements, what they reach, and its declarations
pub record Module : Type 0 where
  pub elements : List Element
  pub reach : Reach
  pub decls : List Decl

module _ (env : Env) (m : Module) where
  abbrev pub of_element : State → (signal : Bool) → (item : List ℕ) → s.MaybeExpr → Pos → Option (ℕ × Element) → List Pos
  of_element x signal item param at None = []
  of_element x signal item param at (Some e) =
      if list_any (is_called e.1 signal item) e.1.items
      then (if has e.1.name item true m.decls || reaches_with env x (m.reach e.0) e.1.parameter param then [] else at ∷ [])
      else []

  abbrev pub of_call : State → (signal : Bool) → (element item : List ℕ) → s.MaybeExpr → Pos → List Pos
  of_call x signal element item param at = of_element x signal item param at (element_from 0 m.elements element)

  -- ---- expressions, in a state

  abbrev mutual
    pub in_expr : State → s.Expr → List Pos
    in_expr x (s.name n at) = []
    in_expr x (s.number n at) = []
    in_expr x (s.char n at) = []
    in_expr x (s.null at) = []
    in_expr x (s.unique n at) = []
    in_expr x (s.unique_count n at) = []
    in_expr x (s.unary o e at) = in_expr x e
    in_expr x (s.postfix o e at) = in_expr x e
    in_expr x (s.binary o a b at) = in_expr x a ++ in_expr x b
    in_expr x (s.assign o a b at) = in_expr x a ++ in_expr x b
    in_expr x (s.choice a b c at) = in_expr x a ++ (in_expr x b ++ in_expr x c)
    in_expr x (s.comma a b at) = in_expr x a ++ in_expr x b
    in_expr x (s.cast t e at) = in_expr x e
    in_expr x (s.size_of_expr e at) = in_expr x e
    in_expr x (s.size_of_type t at) = []
    in_expr x (s.index a i at) = in_expr x a ++ in_expr x i
    in_expr x (s.member e n at) = in_expr x e
    in_expr x (s.arrow e n at) = in_expr x e
    in_expr x (s.call_fn f arguments at) = in_expr x f ++ in_exprs x arguments
    in_expr x (s.call_item signal element item param arguments at) =
        of_call x signal element item param at ++ (in_maybe x param ++ in_exprs x arguments)
    in_expr x (s.port_read port at) = in_expr x port
    in_expr x (s.port_write port e at) = in_expr x port ++ in_expr x e
    in_expr x (s.post n at) = []

    pub in_exprs : State → s.Exprs → List Pos
    in_exprs x s.no_exprs = []
    in_exprs x (s.more_exprs e es) = in_expr x e ++ in_exprs x es

    pub in_maybe : State → s.MaybeExpr → List Pos
    in_maybe x s.no_expr = []
    in_maybe x (s.some_expr e) = in_expr x e

  abbrev pub expr : s.Expr → Elab (List Pos)
  expr e = λ x. Ok (in_expr x e, x)

  abbrev pub maybe : s.MaybeExpr → Elab (List Pos)
  maybe e = λ x. Ok (in_maybe x e, x)

  -- ---- initialisers

  abbrev mutual
    pub init : Init → Elab (List Pos)
    init (tree.one e) = expr e
    init (tree.many is) = inits is

    pub inits : Inits → Elab (List Pos)
    inits tree.no_inits = give []
    inits (tree.more_inits i is) = in_turn (init i) (inits is)

  abbrev pub init_of : Option Init → Elab (List Pos)
  init_of None = give []
  init_of (Some i) = init i

  -- ---- declarations

  abbrev pub without_init : Variable → Variable
  without_init v = record { stars = v.stars; name = v.name; dims = v.dims; init = None; at = v.at }

  -- a variable's name is in force in its initialiser
  abbrev pub variable_by : Option Based → (said_const : Bool) → Variable → Elab (Unit {0})
  variable_by None said v = hides v.name
  variable_by (Some b) said v = declares v.name (variable env [] b said (without_init v))

  abbrev pub variables_by : Option Based → (said_const : Bool) → List Variable → Elab (List Pos)
  variables_by b said [] = give []
  variables_by b said (v ∷ vs) = do
    variable_by b said v
    in_turn (init_of v.init) (variables_by b said vs)

  abbrev pub based_then : (said_const : Bool) → List Variable → State → Rule (Based × State) → Rule (List Pos × State)
  based_then said vs old (Ok x) = variables_by (Some x.0) said vs x.1
  based_then said vs old (Err e) = variables_by None said vs old

  abbrev pub variables : Pos → s.TypeSpec → List Variable → Elab (List Pos)
  variables at (s.type_spec base stars dims is_const) vs = λ x. based_then is_const vs x (base_of env [] at base x)

  abbrev pub first_at : Pos → List Variable → Pos
  first_at at [] = at
  first_at at (v ∷ vs) = v.at

  -- a declaration in a block
  abbrev pub local : Pos → Decl → Elab (List Pos)
  local at (tree.typedef name t attrs name_at) = do
    declares name (declaration env [] at (tree.typedef name t attrs name_at))
    give []
  local at (tree.type_only t type_at) = do
    quietly (declaration env [] at (tree.type_only t type_at))
    give []
  local at (tree.variables t norace vs) = variables at t vs
  local at (tree.function head body) = give []

  -- ---- statements

  abbrev pub started : Pos → Start → Elab (List Pos)
  started at tree.nothing = give []
  started at (tree.first e) = expr e
  started at (tree.declared t vs) = variables at t vs

  abbrev mutual
    pub stmt : Stmt → Elab (List Pos)
    stmt (tree.block xs at) = scoped (stmts xs)
    stmt (tree.empty at) = give []
    stmt (tree.eval e at) = expr e
    stmt (tree.atomic x at) = stmt x
    stmt (tree.branch e x otherwise at) = in_turn (expr e) (in_turn (stmt x) (maybe_stmt otherwise))
    stmt (tree.while e x at) = in_turn (expr e) (stmt x)
    stmt (tree.do_while x e at) = in_turn (stmt x) (expr e)
    stmt (tree.for start test step x at) = scoped (in_turn (started at start) (in_turn (maybe test) (in_turn (maybe step) (stmt x))))
    stmt (tree.switch e x at) = in_turn (expr e) (stmt x)
    stmt (tree.case e x at) = in_turn (expr e) (stmt x)
    stmt (tree.default x at) = stmt x
    stmt (tree.break at) = give []
    stmt (tree.continue at) = give []
    stmt (tree.return e at) = maybe e
    stmt (tree.local d at) = local at d

    pub stmts : Stmts → Elab (List Pos)
    stmts tree.no_stmts = give []
    stmts (tree.more_stmts x xs) = in_turn (stmt x) (stmts xs)

    pub maybe_stmt : MaybeStmt → Elab (List Pos)
    maybe_stmt tree.no_stmt = give []
    maybe_stmt (tree.some_stmt x) = stmt x

  -- ---- functions: the scope of the parameters is that of the outermost block

  abbrev pub outermost : Stmt → Elab (List Pos)
  outermost (tree.block xs at) = stmts xs
  outermost x = stmt x

  abbrev pub param_in_force : Pos → Param → Elab (Unit {0})
  param_in_force at p = λ x. or_else (hides_any p.name) x ((passed_by env [] at p.ty >>= λ t. parameter at t p.name) x)

  abbrev pub params_in_force : Pos → List Param → Elab (Unit {0})
  params_in_force at [] = give tt
  params_in_force at (p ∷ ps) = param_in_force at p >> params_in_force at ps

  abbrev pub bracket_name : Option Param → Option (List ℕ)
  bracket_name None = None
  bracket_name (Some p) = p.name

  abbrev pub bracket_in_force : Pos → Option Param → Elab (Unit {0})
  bracket_in_force at p = λ x. or_else (hides_any (bracket_name p)) x (bracket env [] at p x)

  abbrev pub body : Head → MaybeStmt → Elab (List Pos)
  body h tree.no_stmt = give []
  body h (tree.some_stmt x) = scoped (do
    bracket_in_force h.at h.bracket
    params_in_force h.at h.params
    outermost x)

  -- the name of a function or a task; an item's name is that of its element
  abbrev pub own_name : Head → FuncKind → Elab (Unit {0})
  own_name h kind.Plain = hides h.name
  own_name h kind.Task = hides h.name
  own_name h kind.Command = give tt
  own_name h kind.Event = give tt

  -- ---- the declarations of the module

  abbrev pub declared : Decl → Elab (List Pos)
  declared (tree.typedef name t attrs at) = local at (tree.typedef name t attrs at)
  declared (tree.type_only t at) = local at (tree.type_only t at)
  declared (tree.variables t norace vs) = variables (first_at (record { file = 0; line = 1; col = 1 }) vs) t vs
  declared (tree.function h x) = do
    own_name h h.kind
    body h x

  abbrev pub all_declared : List Decl → Elab (List Pos)
  all_declared [] = give []
  all_declared (d ∷ ds) = in_turn (declared d) (all_declared ds)
