-- What one part of the work on a specification or a parameter does, given what stands before it (own: cut where the code is cut).
use Rattle.std.specs.Prelude.{ℕ, List, [], Option, Some}
use Rattle.nm_base.specs.declared.int_type.IntType.{IntType}
use Rattle.nm_base.specs.declared.pos.Pos.{Pos}
use Rattle.nesc_tree.specs.Plain.{TypeSpec}
use Rattle.elab_meaning.specs.Convert.{int_of, integer}
use Rattle.elab_meaning.specs.Elab.{Elab, by, ◌>>=◌, give, add_name}
use Rattle.elab_meaning.specs.Scope.{Env}
use Rattle.elab_meaning.specs.Wired.{type_of}
use Rattle.wire_facts.specs.Components.{Param}
use Rattle.wire_facts.specs.Scopes.{Base, Scope, inside}
use Rattle.wire_facts.specs.Seen.{Given, greatest_of, meaning_given, param_declared}

-- the greatest value of a type
abbrev pub greatest_in : Env → Pos → TypeSpec → Elab (Option ℕ)
greatest_in env at t = do
  u ← type_of env [] at t
  by (greatest_of at (int_of u))

-- the integer type that is written
abbrev pub integer_in : Env → Pos → TypeSpec → Elab (Option IntType)
integer_in env at t = do
  u ← type_of env [] at t
  i ← by (integer at u)
  give (Some i)

-- a name gets its argument
abbrev pub meant : (line : Pos) → (name : List ℕ) → Option IntType → Given → Elab (Unit {0})
meant line name t x = do
  m ← by (meaning_given line t x)
  add_name name m

-- the scope of an instance with one more parameter
abbrev pub declared_in : Base → (made : Env) → (at line : Pos) → Param → Given → Scope → Elab Scope
declared_in b made at line p g scope = do
  more ← inside b scope (param_declared made at line p g)
  give more.1
