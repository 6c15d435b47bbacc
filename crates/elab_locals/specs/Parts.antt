-- What one part of a declaration does, given what stands before it (own: the equations of the meaning, cut where the code is cut).
use Rattle.std.specs.Prelude.{ℕ, Bool, List, [], ◌∷◌, map, Option, None}
use Rattle.nm_base.specs.declared.pos.Pos.{Pos}
use Rattle.nm_base.specs.declared.refusal.Refusal.TheVariants.{BadType}
use Rattle.nesc_core.specs.Plain as core
use Rattle.nesc_core.specs.Plain.{Ty, Expr}
use Rattle.nesc_tree.specs.Plain as s
use Rattle.nesc_types.specs.Rule.{or_refuse}
use Rattle.nesc_types.specs.Values.{Constant}
use Rattle.elab_meaning.specs.Scope.{Env, local, type}
use Rattle.elab_meaning.specs.Elab.{Elab, by, ◌>>=◌, ◌>>◌, give, state, fresh, add_name}
use Rattle.elab_meaning.specs.Convert.{Found, Target, size}
use Rattle.elab_meaning.specs.Operators.{Based, new_name}
use Rattle.elab_meaning.specs.Places.{stored}
use Rattle.elab_meaning.specs.Wired.{starred, dimensioned, is_const_at, base_of, lengths}
use Rattle.body_meaning.specs.Tree.{Init, Variable}
use Rattle.body_meaning.specs.Initial.{init_pos, part_of, steps_of, initial}
use Rattle.body_meaning.specs.Stmts.{initials_of}

-- what is done where a part gets a value
abbrev pub stored_steps : (at at_value : Pos) → Target → Found → Elab (List Expr)
stored_steps at at_value p f = do
  g ← stored None at at_value p f
  give (steps_of g)

-- a new local of this type
abbrev pub new_local : Pos → List ℕ → Ty → (is_const : Bool) → Elab ℕ
new_local at name t is_const = do
  x ← state
  n ← by (size x.structs at t)
  by (new_name at x.first_name x.names name)
  k ← fresh t
  add_name name (local k t is_const)
  give k

-- a new name of a type
abbrev pub new_type : Pos → List ℕ → Ty → (is_const : Bool) → Elab (Unit {0})
new_type at name t is_const = do
  x ← state
  by (new_name at x.first_name x.names name)
  add_name name (type t is_const)

module _ (env : Env) (values : List (Option Constant)) where
  -- one of the initialisers in braces
  abbrev pub one_initial : Pos → Target → (k : ℕ) → Init → Elab (List Expr)
  one_initial at p k i = do
    x ← state
    q ← by (or_refuse (BadType (init_pos at i)) (part_of x.structs p k p.ty))
    initial env values at q i

  -- the type that stars and dimensions make of the type before them
  abbrev pub shaped : Pos → Based → (stars : ℕ) → s.Exprs → Elab Ty
  shaped at b stars dims = do
    p ← starred at stars b
    ns ← lengths env values dims
    dimensioned at p ns

  -- a local is set to 0, and then its initial values are stored
  abbrev pub set : Pos → (local : ℕ) → Ty → Option Init → Elab (List core.Stmt)
  set at k t init = do
    es ← initials_of env values at (core.local k) t init
    give (core.clear k ∷ map core.eval es)

  abbrev pub one_variable : Based → (said_const : Bool) → Variable → Elab (List core.Stmt)
  one_variable b said v = do
    t ← shaped v.at b v.stars v.dims
    k ← new_local v.at v.name t (is_const_at v.stars said b.is_const)
    set v.at k t v.init

  abbrev pub type_name : Pos → List ℕ → s.TypeSpec → Elab (List core.Stmt)
  type_name at name (s.type_spec base stars dims is_const) = do
    b ← base_of env values at base
    t ← shaped at b stars dims
    new_type at name t (is_const_at stars is_const b.is_const)
    give []
