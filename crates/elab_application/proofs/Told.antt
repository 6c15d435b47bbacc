-- What is given, where each use of `unique` has its number.
use Rattle.std.proofs.Common.{◌≡◌, ap₂, subst, List}
use Rattle.elab_meaning.specs.Scope.{Env}
use Rattle.program_meaning.specs.Parts.{Application}
use Rattle.wire_instances.specs.declared.plan.Made.{Made}
use Rattle.wire_pairs.specs.declared.ends.Pair.{Pair}
use Rattle.wire_units.specs.declared.loaded.Loaded.{Loaded}
use Rattle.wire_facts.specs.Components.{components_of}
use Rattle.wire_facts.specs.Seen as seen
use Rattle.wire_envs.specs.Envs.{headers_told, instances_told}
use Rattle.elab_application.specs.Given.{IsGivenIn, application_of}

abbrev pub with_envs : List Loaded → List Made → Env → List Env → seen.Application
with_envs units made headers envs = record { components = components_of units; made = made; headers = headers; envs = envs }

pub same_application : (units : List Loaded) (made : List Made) (headers : Env) (envs : List Env)
    → headers ≡ headers_told units made → envs ≡ instances_told units made → with_envs units made headers envs ≡ application_of units made
same_application units made headers envs p q = ap₂ (with_envs units made) p q

pub given_as : (units : List Loaded) (made : List Made) (pairs : List Pair) (a b : seen.Application) (x : Application) → a ≡ b → IsGivenIn units made pairs a x → IsGivenIn units made pairs b x
given_as units made pairs a b x is given = subst (λ (app : seen.Application). IsGivenIn units made pairs app x) is given

pub ruleset told = (same_application, given_as)
