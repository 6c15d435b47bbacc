-- The types and names of variables of modules (C99, 6.7).
use Rattle.std.specs.Prelude.{ℕ, Bool, List, Option}
use Rattle.nesc_core.specs.Plain.{Ty}
use Rattle.nesc_types.specs.Values.{Constant}
use Rattle.elab_meaning.specs.Scope.{Env, Meaning, object}
use Rattle.elab_meaning.specs.Elab.{Elab, by, ◌>>=◌, ◌>>◌, give, state, add_name}
use Rattle.elab_meaning.specs.Convert.{size}
use Rattle.elab_meaning.specs.Operators.{Based, new_name}
use Rattle.elab_meaning.specs.Wired.{starred, dimensioned, is_const_at, lengths}
use Rattle.body_meaning.specs.Tree.{Variable}

abbrev pub name_in_force : List ℕ → Meaning → Elab (Unit {0})
name_in_force name m = add_name name m

-- its name is in force from its declarator on
abbrev pub declared_variable : Env → List (Option Constant) → Based → (said_const : Bool) → Variable → (number : ℕ) → Elab Ty
declared_variable env values b said v k = do
  p ← starred v.at v.stars b
  ns ← lengths env values v.dims
  t ← dimensioned v.at p ns
  x ← state
  n ← by (size x.structs v.at t)
  by (new_name v.at x.first_name x.names v.name)
  add_name v.name (object k t (is_const_at v.stars said b.is_const))
  give t
