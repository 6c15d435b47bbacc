-- The wired program of statements and of the declarations in them (C99, 6.7 and 6.8; the nesC 1.3 Language Reference): one equation
-- for each form, in the order of the text.
use Rattle.std.specs.Prelude.{ℕ, suc, ℤ, pos, ◌+◌, Bool, true, false, if◌then◌else◌, List, [], ◌∷◌, ◌++◌, length, map, Option, Some, None}
use Rattle.nm_base.specs.declared.pos.Pos.{Pos}
use Rattle.nm_base.specs.declared.int_type.IntType.{IntType}
use Rattle.nm_base.specs.declared.int_type.IntType.TheVariants.{I16}
use Rattle.nm_base.specs.declared.refusal.Refusal.TheVariants.{BadType, Syntax}
use Rattle.nm_base.specs.IntType.{wrapped}
use Rattle.nesc_core.specs.Plain as core
use Rattle.nesc_core.specs.Plain.{Ty, Place, Expr}
use Rattle.nesc_tree.specs.Plain as s
use Rattle.nesc_types.specs.Constant.{pos_of}
use Rattle.nesc_types.specs.Conversions.{promoted}
use Rattle.nesc_types.specs.Rule.{refuse}
use Rattle.nesc_types.specs.Values.{Constant}
use Rattle.elab_meaning.specs.Scope.{Env, local, type}
use Rattle.elab_meaning.specs.Elab.{Elab, by, ◌>>=◌, ◌>>◌, give, state, fresh, add_name}
use Rattle.elab_meaning.specs.Convert.{scalar, integer, converted, is_void, size, target}
use Rattle.elab_meaning.specs.Operators.{Based, promoted_value, new_name}
use Rattle.elab_meaning.specs.Wired.{starred, dimensioned, is_const_at, base_of, lengths, value, whole_constant}
use Rattle.body_meaning.specs.Tree.{Init, Variable, Decl, Start, nothing, first, declared, Stmt, Stmts, MaybeStmt, no_stmts, more_stmts, no_stmt, some_stmt}
use Rattle.body_meaning.specs.Tree as tree
use Rattle.body_meaning.specs.Scopes.{scoped, in_turn}
use Rattle.body_meaning.specs.Initial.{initial}

-- ---- lists of statements of the core

abbrev pub stmts_of : List core.Stmt → core.Stmts
stmts_of [] = core.no_stmts
stmts_of (x ∷ xs) = core.more_stmts x (stmts_of xs)

abbrev pub block_of : List core.Stmt → core.Stmt
block_of xs = core.block (stmts_of xs)

abbrev pub empty : core.Stmt
empty = core.block core.no_stmts

-- a loop, behind what stands before it
abbrev pub behind : List core.Stmt → core.Stmt → core.Stmt
behind [] x = x
behind (y ∷ ys) x = block_of ((y ∷ ys) ++ x ∷ [])

-- ---- the cases of a switch

-- the statements of its block, and where in them each label begins
pub record Labelled : Type 0 where
  pub cases : List core.Case
  pub code : List core.Stmt

abbrev pub unlabelled : List core.Stmt → Labelled
unlabelled code = record { cases = []; code = code }

abbrev pub with_label : Option ℤ → (start : ℕ) → Labelled → Labelled
with_label value start l = record { cases = record { value = value; start = start } ∷ l.cases; code = empty ∷ l.code }

abbrev pub followed_by : Labelled → Labelled → Labelled
followed_by l more = record { cases = l.cases ++ more.cases; code = l.code ++ more.code }

abbrev pub switch_on : Expr → Labelled → core.Stmt
switch_on e l = core.switch e l.cases (stmts_of l.code)

abbrev pub declaration_in : Stmt → Option (Decl × Pos)
declaration_in (tree.local d at) = Some (d, at)
declaration_in _ = None

-- ---- the result of a function

-- `return` without a value, where no result is due
abbrev pub returned_nothing : (result : Ty) → Pos → (is_void : Bool) → Elab core.Stmt
returned_nothing result at true = give (core.return None)
returned_nothing result at false = by (refuse (BadType at))

module _ (env : Env) (values : List (Option Constant)) where
  -- ---- declarations

  abbrev pub initials_of : Pos → Place → Ty → Option Init → Elab (List Expr)
  initials_of at p t None = give []
  initials_of at p t (Some i) = initial env values at (target p [] t) i

  -- a variable is set to 0, and then its initial values are stored; its name is in force from its declarator on
  abbrev pub variable : Based → (said_const : Bool) → Variable → Elab (List core.Stmt)
  variable b said v = do
    p ← starred v.at v.stars b
    ns ← lengths env values v.dims
    t ← dimensioned v.at p ns
    x ← state
    n ← by (size x.structs v.at t)
    by (new_name v.at x.first_name x.names v.name)
    k ← fresh t
    add_name v.name (local k t (is_const_at v.stars said b.is_const))
    es ← initials_of v.at (core.local k) t v.init
    give (core.clear k ∷ map core.eval es)

  abbrev pub all_variables : Based → (said_const : Bool) → List Variable → Elab (List core.Stmt)
  all_variables b said [] = give []
  all_variables b said (v ∷ vs) = in_turn (variable b said v) (all_variables b said vs)

  abbrev pub declares : Pos → s.TypeSpec → List Variable → Elab (List core.Stmt)
  declares at (s.type_spec base stars dims is_const) vs = do
    b ← base_of env values at base
    all_variables b is_const vs

  -- the name of a type, at this name
  abbrev pub type_named : Pos → (name : List ℕ) → s.TypeSpec → Elab (List core.Stmt)
  type_named at name (s.type_spec base stars dims is_const) = do
    b ← base_of env values at base
    p ← starred at stars b
    ns ← lengths env values dims
    t ← dimensioned at p ns
    x ← state
    by (new_name at x.first_name x.names name)
    add_name name (type t (is_const_at stars is_const b.is_const))
    give []

  abbrev pub type_declared : Pos → s.TypeSpec → Elab (List core.Stmt)
  type_declared at (s.type_spec base stars dims is_const) = do
    b ← base_of env values at base
    give []

  abbrev pub declaration : Pos → Decl → Elab (List core.Stmt)
  declaration at (tree.typedef name t attrs name_at) = type_named name_at name t
  declaration at (tree.type_only t type_at) = type_declared type_at t
  declaration at (tree.variables t norace vs) = declares at t vs
  declaration at (tree.function head body) = by (refuse (Syntax at))

  -- ---- parts of statements

  abbrev pub tested : s.Expr → Elab Expr
  tested e = do
    v ← value env values e
    by (scalar (pos_of e) v)

  -- a test that is left out is 1
  abbrev pub tested_or_one : s.MaybeExpr → Elab Expr
  tested_or_one s.no_expr = give (core.const I16 (pos 1))
  tested_or_one (s.some_expr e) = tested e

  abbrev pub evaluated : s.Expr → Elab Expr
  evaluated e = do
    v ← value env values e
    give v.expr

  abbrev pub step_of : s.MaybeExpr → Elab (Option Expr)
  step_of s.no_expr = give None
  step_of (s.some_expr e) = do
    x ← evaluated e
    give (Some x)

  -- what stands before a loop
  abbrev pub started : Pos → Start → Elab (List core.Stmt)
  started at nothing = give []
  started at (first e) = do
    x ← evaluated e
    give (core.eval x ∷ [])
  started at (declared t vs) = declares at t vs

  abbrev pub returned_value : (result : Ty) → s.Expr → (is_void : Bool) → Elab core.Stmt
  returned_value result e true = by (refuse (BadType (pos_of e)))
  returned_value result e false = do
    v ← value env values e
    x ← by (converted (pos_of e) result v)
    give (core.return (Some x))

  abbrev pub returned : (result : Ty) → Pos → s.MaybeExpr → Elab core.Stmt
  returned result at s.no_expr = returned_nothing result at (is_void result)
  returned result at (s.some_expr e) = returned_value result e (is_void result)

  -- a label's value, converted to the type that is switched on
  abbrev pub label : IntType → s.Expr → Elab ℤ
  label t e = do
    c ← whole_constant env values e
    give (wrapped t c.1)

  -- a declaration in a block stands in it part by part
  abbrev pub item_of : Option (Decl × Pos) → Elab core.Stmt → Elab (List core.Stmt)
  item_of (Some d) work = declaration d.1 d.0
  item_of None work = do
    code ← work
    give (code ∷ [])

  -- ---- statements, in a function with this result

  module _ (result : Ty) where
    abbrev mutual
      pub stmt : Stmt → Elab core.Stmt
      stmt (tree.block xs at) = do
        code ← scoped (items xs)
        give (block_of code)
      stmt (tree.empty at) = give empty
      stmt (tree.eval e at) = do
        x ← evaluated e
        give (core.eval x)
      stmt (tree.atomic x at) = do
        code ← stmt x
        give (core.atomic code)
      stmt (tree.branch e x otherwise at) = do
        test ← tested e
        code ← stmt x
        other ← otherwise_of otherwise
        give (core.branch test code other)
      stmt (tree.while e x at) = do
        test ← tested e
        code ← stmt x
        give (core.loop true test None code)
      stmt (tree.do_while x e at) = do
        code ← stmt x
        test ← tested e
        give (core.loop false test None code)
      stmt (tree.for start test step x at) = scoped (do
        before ← started at start
        t ← tested_or_one test
        next ← step_of step
        code ← stmt x
        give (behind before (core.loop true t next code)))
      stmt (tree.switch e x at) = do
        v ← value env values e
        t ← by (integer (pos_of e) v.ty)
        l ← cases (promoted t) x (stmt x)
        give (switch_on (promoted_value t v.expr) l)
      stmt (tree.break at) = give core.break
      stmt (tree.continue at) = give core.continue
      stmt (tree.return e at) = returned result at e
      stmt (tree.local d at) = do
        code ← declaration at d
        give (block_of code)
      stmt (tree.case e x at) = by (refuse (Syntax at))
      stmt (tree.default x at) = by (refuse (Syntax at))

      pub otherwise_of : MaybeStmt → Elab core.Stmt
      otherwise_of no_stmt = give empty
      otherwise_of (some_stmt x) = stmt x

      pub items : Stmts → Elab (List core.Stmt)
      items no_stmts = give []
      items (more_stmts x xs) = in_turn (item_of (declaration_in x) (stmt x)) (items xs)

      -- the body of a switch: labels stand in its block alone; given what it gives without them
      pub cases : IntType → Stmt → Elab core.Stmt → Elab Labelled
      cases t (tree.block xs at) work = scoped (labelled_items t 0 xs)
      cases t x work = do
        code ← work
        give (unlabelled (code ∷ []))

      pub labelled_items : IntType → (start : ℕ) → Stmts → Elab Labelled
      labelled_items t start no_stmts = give (unlabelled [])
      labelled_items t start (more_stmts x xs) = do
        l ← labelled t start x (stmt x)
        more ← labelled_items t (start + length l.code) xs
        give (followed_by l more)

      -- a case begins at an empty block, behind which its statement stands; given what the statement gives without a label
      pub labelled : IntType → (start : ℕ) → Stmt → Elab core.Stmt → Elab Labelled
      labelled t start (tree.case e x at) work = do
        z ← label t e
        l ← labelled t (suc start) x (stmt x)
        give (with_label (Some z) start l)
      labelled t start (tree.default x at) work = do
        l ← labelled t (suc start) x (stmt x)
        give (with_label None start l)
      labelled t start x work = do
        code ← item_of (declaration_in x) work
        give (unlabelled code)
