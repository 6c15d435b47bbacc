-- The components of instances, and what is told to these, found by their places.
use Rattle.std.proofs.Common.{◌≡◌, ℕ, List, map, Option, Some, None, refl, sym, ap, ◌∙◌, slice_get, option_map, option_and_then, unwrap_or}
use Rattle.std.proofs.lemmas.Option.{slice_get-map}
use Rattle.elab_meaning.specs.Scope.{Env}
use Rattle.wire_facts.specs.Components as components
use Rattle.wire_facts.specs.Seen.{component_at, component_of, nowhere}
use Rattle.wire_instances.specs.declared.plan.Made.{Made}
use Rattle.wire_units.specs.declared.loaded.Loaded.{Loaded}
use Rattle.wire_told.specs.declared.sources.Sources.{Sources}
use Rattle.wire_told.specs.Cuts.{component_in, file_of}
use Rattle.wire_told.specs.View.{application_of}

file_is : (o : Option Loaded) → unwrap_or (option_map components.component_of o) nowhere ≡ component_in o
file_is None = refl
file_is (Some u) = refl

made_is : (s : Sources) (o : Option Made) → component_at (application_of s) o ≡ component_in (option_and_then (λ (m : Made). slice_get s.units.now m.component) o)
made_is s None = refl
made_is s (Some m) = ap (λ x. unwrap_or x nowhere) (slice_get-map components.component_of s.units.now m.component) ∙ file_is (slice_get s.units.now m.component)

pub component_is : (s : Sources) (k : ℕ) (o : Option Loaded) → o ≡ file_of s k → component_of (application_of s) k ≡ component_in o
component_is s k o is = made_is s (slice_get s.made.now k) ∙ ap component_in (sym is)

-- what is told to instances is a list of environments
pub env_there : {E : Type 0} (view : E → Env) (es : List E) (k : ℕ) (others : Env) (e : E) → slice_get es k ≡ Some e → unwrap_or (slice_get (map view es) k) others ≡ view e
env_there view es k others e is = ap (λ x. unwrap_or x others) (slice_get-map view es k ∙ ap (option_map view) is)

pub env_past : {E : Type 0} (view : E → Env) (es : List E) (k : ℕ) (others : Env) → slice_get es k ≡ None → unwrap_or (slice_get (map view es) k) others ≡ others
env_past view es k others is = ap (λ x. unwrap_or x others) (slice_get-map view es k ∙ ap (option_map view) is)

pub ruleset found = (component_is, env_there, env_past, slice_get-map)
