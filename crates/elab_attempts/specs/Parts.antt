-- Declarations that may be refused (own: the steps of `nesc_unwired`, in one form).
use Rattle.std.specs.Prelude.{ℕ, Bool, List, [], ◌∷◌, ◌++◌, length, take, Option, Some, None}
use Rattle.nm_base.specs.declared.pos.Pos.{Pos}
use Rattle.nesc_types.specs.Values.{Constant}
use Rattle.elab_meaning.specs.Scope.{Env, task}
use Rattle.elab_meaning.specs.Elab.{State, Elab, ◌>>=◌, give}
use Rattle.elab_meaning.specs.Operators.{Based}
use Rattle.elab_meaning.specs.Wired.{is_const_at}
use Rattle.elab_locals.specs.Parts.{shaped, new_local}
use Rattle.body_meaning.specs.Tree as tree
use Rattle.body_meaning.specs.Tree.{Decl, Param, Variable}
use Rattle.body_meaning.specs.Stmts as stmts
use Rattle.program_meaning.specs.Heads as heads
use Rattle.nesc_unwired.specs.Calls.{hides_any, or_else}

-- ---- states

abbrev pub nothing : State
nothing = record { names = []; tags = []; first_name = 0; first_tag = 0; structs = []; locals = []; taken = []; asked = [] }

-- of each list as much as another state has
abbrev pub cut_to : State → State → State
cut_to kept x = record {
  names = take (length kept.names) x.names;
  tags = take (length kept.tags) x.tags;
  first_name = x.first_name;
  first_tag = x.first_tag;
  structs = take (length kept.structs) x.structs;
  locals = take (length kept.locals) x.locals;
  taken = take (length kept.taken) x.taken;
  asked = take (length kept.asked) x.asked;
}

-- behind a name that is neither a constant nor a type
abbrev pub hidden : List ℕ → State → State
hidden name x = record x { names = x.names ++ record { name = name; meaning = task 0 } ∷ [] }

-- ---- work of which nothing is wanted but what is in force behind it

abbrev pub done : {A : Type 0} → Elab A → Elab (Unit {0})
done work = work >>= λ _. give tt

-- what declares names and may be refused
pub data Attempt : Type 0 where
  variable : Based → (said_const : Bool) → Variable → Attempt
  a_type : Pos → Decl → Attempt
  parameter : Pos → Param → Attempt
  bracket : Pos → Option Param → Attempt

module _ (env : Env) (values : List (Option Constant)) where
  -- a variable without its initial value
  abbrev pub placed_variable : Based → (said_const : Bool) → Variable → Elab (Unit {0})
  placed_variable b said v = do
    t ← shaped env values v.at b v.stars v.dims
    k ← new_local v.at v.name t (is_const_at v.stars said b.is_const)
    give tt

  -- a variable and a function are none
  abbrev pub placed_type : Pos → Decl → Elab (Unit {0})
  placed_type at (tree.typedef name t attrs name_at) = done (stmts.declaration env values at (tree.typedef name t attrs name_at))
  placed_type at (tree.type_only t type_at) = done (stmts.declaration env values at (tree.type_only t type_at))
  placed_type at (tree.variables t norace vs) = give tt
  placed_type at (tree.function head body) = give tt

  abbrev pub placed_parameter : Pos → Param → Elab (Unit {0})
  placed_parameter at p = do
    t ← heads.passed_by env values at p.ty
    heads.parameter at t p.name

  abbrev pub work_of : Attempt → Elab (Unit {0})
  work_of (variable b said v) = placed_variable b said v
  work_of (a_type at d) = placed_type at d
  work_of (parameter at p) = placed_parameter at p
  work_of (bracket at p) = done (heads.bracket env values at p)

-- ---- the name that is declared

abbrev pub type_name : Decl → Option (List ℕ)
type_name (tree.typedef name t attrs at) = Some name
type_name (tree.type_only t at) = None
type_name (tree.variables t norace vs) = None
type_name (tree.function head body) = None

abbrev pub bracket_name : Option Param → Option (List ℕ)
bracket_name None = None
bracket_name (Some p) = p.name

abbrev pub name_of : Attempt → Option (List ℕ)
name_of (variable b said v) = Some v.name
name_of (a_type at d) = type_name d
name_of (parameter at p) = p.name
name_of (bracket at p) = bracket_name p

-- what is declared is in force, or where it is refused its name alone
abbrev pub in_force : Env → Attempt → Elab (Unit {0})
in_force env a = λ x. or_else (hides_any (name_of a)) x (work_of env [] a x)
