-- The type and the name of a variable of a module, given what stands before it (own: `declared_variable` of the meaning, cut where the code is cut).
use Rattle.std.specs.Prelude.{ℕ, Bool, List, Option}
use Rattle.nm_base.specs.declared.pos.Pos.{Pos}
use Rattle.nesc_core.specs.Plain.{Ty}
use Rattle.nesc_types.specs.Values.{Constant}
use Rattle.body_meaning.specs.Tree.{Variable}
use Rattle.elab_locals.specs.Parts.{shaped}
use Rattle.elab_meaning.specs.Convert.{size}
use Rattle.elab_meaning.specs.Elab.{Elab, by, ◌>>=◌, ◌>>◌, give, state, add_name}
use Rattle.elab_meaning.specs.Operators.{Based, new_name}
use Rattle.elab_meaning.specs.Scope.{Env, object}
use Rattle.elab_meaning.specs.Wired.{is_const_at}

-- a variable of this type comes in force
abbrev pub new_object : Pos → List ℕ → Ty → (number : ℕ) → (is_const : Bool) → Elab (Unit {0})
new_object at name t k is_const = do
  x ← state
  n ← by (size x.structs at t)
  by (new_name at x.first_name x.names name)
  add_name name (object k t is_const)

-- its type, with its name in force
abbrev pub declared : Env → List (Option Constant) → Based → (said_const : Bool) → Variable → (number : ℕ) → Elab Ty
declared env values b said v k = do
  t ← shaped env values v.at b v.stars v.dims
  new_object v.at v.name t k (is_const_at v.stars said b.is_const)
  give t
