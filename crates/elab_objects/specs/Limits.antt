-- The limits of the whole program (own: cut where the code is cut).
use Rattle.std.specs.Prelude.{ℕ, List, Option, Some, None, Ok, sum_by, slice_get}
use Rattle.nm_base.specs.declared.limit.Which.TheVariants as which
use Rattle.nm_base.specs.declared.limit.TheConstants.{MAX_NODES, MAX_TASKS, MAX_OBJECTS}
use Rattle.nm_base.specs.declared.pos.Pos.{Pos}
use Rattle.nesc_core.specs.Nodes.{body_nodes_of}
use Rattle.nesc_core.specs.Plain.{Body}
use Rattle.nesc_types.specs.Addresses.{taken}
use Rattle.nesc_types.specs.Rule.{Rule, ◌>>=◌}
use Rattle.elab_meaning.specs.Scope.{Struct}
use Rattle.program_meaning.specs.Making.{Boot, Variable}
use Rattle.program_meaning.specs.Program.{at_most, sizes}
use Rattle.program_meaning.specs.Walk.{fields_of, weighed}

abbrev pub nodes_in : List Body → ℕ
nodes_in bodies = sum_by body_nodes_of bodies

abbrev pub body_weighed : List Struct → Pos → Option Body → Rule (Unit {0})
body_weighed structs at None = Ok tt
body_weighed structs at (Some x) = weighed at structs x

abbrev pub boot_weighed : List Struct → Option Boot → List Body → Rule (Unit {0})
boot_weighed structs None bodies = Ok tt
boot_weighed structs (Some b) bodies = body_weighed structs b.at (slice_get bodies b.body)

abbrev pub room : List ℕ → Rule (List ℕ)
room ns = do
  a ← at_most which.Objects MAX_OBJECTS (taken ns)
  Ok ns

-- the sizes of the variables, within all limits
abbrev pub sizes_within : List Struct → Option Boot → List Body → (tasks : ℕ) → List Variable → Rule (List ℕ)
sizes_within structs boot bodies tasks variables = do
  a ← boot_weighed structs boot bodies
  b ← at_most which.Nodes MAX_NODES (nodes_in bodies)
  c ← at_most which.Tasks MAX_TASKS tasks
  room (sizes (fields_of structs) variables)
