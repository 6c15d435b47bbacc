-- What elaboration is given, from the files, the instances and the pairs of an application (nesC 1.3 Reference, sections 5, 6 and 9;
-- own: its parts).
use Rattle.std.specs.Prelude.{◌≡◌, ℕ, List, [], ◌∷◌, ◌++◌, flat_map, length, drop, Option, Some, None, Ok, Err}
use Rattle.nesc_types.specs.Rule.{Rule}
use Rattle.body_meaning.specs.Tree.{Decl}
use Rattle.elab_meaning.specs.Elab.{State}
use Rattle.elab_meaning.specs.Scope.{Env, Struct, UniqueCount}
use Rattle.program_meaning.specs.Parts.{Application}
use Rattle.wire_instances.specs.declared.plan.Made.{Made}
use Rattle.wire_pairs.specs.declared.ends.Pair.{Pair}
use Rattle.wire_units.specs.declared.loaded.Loaded.{Loaded}
use Rattle.wire_envs.specs.Envs.{headers_told, instances_told}
use Rattle.wire_facts.specs.Components.{Component, components_of}
use Rattle.wire_facts.specs.Seen.{Course, Sight, headers_declared, sight_of, start}
use Rattle.wire_facts.specs.Seen as seen
use Rattle.elab_application.specs.Instances.{Each, IsInstance}

-- what types and constants are told by: each use of `unique` has its number
abbrev pub application_of : List Loaded → List Made → seen.Application
application_of units made = record {
  components = components_of units;
  made = made;
  headers = headers_told units made;
  envs = instances_told units made;
}

-- the declarations of all files, in the order of reading
abbrev pub decls_of : List Component → List Decl
decls_of [] = []
decls_of (c ∷ cs) = c.decls ++ decls_of cs

-- how often each text is used, that headers or instances ask for
abbrev pub counts_of : seen.Application → List UniqueCount
counts_of app = app.headers.counts ++ flat_map (λ (e : Env). e.counts) app.envs

-- ---- structs

-- the state behind declarations; where they are refused, none of them is in force
abbrev pub state_behind : Rule (Unit {0} × State) → State
state_behind (Ok x) = x.1
state_behind (Err e) = start

-- behind the headers
abbrev pub header_state : seen.Application → State
header_state app = state_behind (headers_declared app.headers app.components start)

-- how many structs the headers declare
abbrev pub header_structs : seen.Application → ℕ
header_structs app = length (header_state app).structs

-- those that were met behind the first of them; where a line is refused there are no pairs
abbrev pub structs_behind : ℕ → Option Course → List Struct
structs_behind n None = []
structs_behind n (Some c) = drop n c.1.structs

-- ---- all of it

-- what is given where this is seen of the instances
pub record IsGivenBy (units : List Loaded) (made : List Made) (pairs : List Pair) (app : seen.Application) (sight : Sight) (x : Application) : Type 0 where
  pub headers_are : x.headers ≡ decls_of app.components
  pub uniques_are : x.uniques ≡ app.headers.uniques
  pub counts_are : x.counts ≡ counts_of app
  pub structs_are : x.structs ≡ structs_behind (header_structs app) sight.course
  pub instances_are : Each (IsInstance units made pairs app sight.seen) 0 made x.instances

-- what is given where this is told of the application
pub record IsGivenIn (units : List Loaded) (made : List Made) (pairs : List Pair) (app : seen.Application) (x : Application) : Type 0 where
  pub sight : Sight
  pub is_seen : sight_of app ≡ Ok sight
  pub parts : IsGivenBy units made pairs app sight x

-- what elaboration is given of these files, instances and pairs
abbrev pub IsGiven : List Loaded → List Made → List Pair → Application → Type 0
IsGiven units made pairs x = IsGivenIn units made pairs (application_of units made) x
