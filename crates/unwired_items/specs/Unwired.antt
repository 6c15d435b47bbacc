-- What the instances of an application lack, whose wires are linked: the first place, in the order of creation and of the text.
use Rattle.std.specs.Prelude.{◌≡◌, ℕ, ◌+◌, List, [], ◌∷◌, ◌++◌, Option, Some, None, Ok}
use Rattle.nm_base.specs.declared.pos.Pos.{Pos}
use Rattle.nm_base.specs.declared.refusal.Refusal.TheVariants.{Unwired}
use Rattle.nesc_types.specs.Rule.{Rule, refuse}
use Rattle.elab_meaning.specs.Elab.{State}
use Rattle.program_meaning.specs.Parts.{Application, Instance}
use Rattle.wire_instances.specs.declared.plan.Made.{Made}
use Rattle.wire_pairs.specs.declared.ends.Pair.{Pair}
use Rattle.wire_units.specs.declared.loaded.Loaded.{Loaded}
use Rattle.wire_facts.specs.Scopes.{Base, Scope, base_of, in_block, with_own}
use Rattle.wire_facts.specs.Seen.{Course, Seen, Sight, env_of, seen_at, sight_of}
use Rattle.wire_facts.specs.Seen as seen
use Rattle.elab_application.specs.Given.{IsGiven, application_of, header_state}
use Rattle.nesc_unwired.specs.Unwired.{unwired}
use Rattle.unwired_items.specs.Modules.{module_of}

-- inside the scope of a component, its implementation is one block
abbrev pub inside : Base → Scope → State → State
inside b scope s = with_own b (in_block b scope) s

-- what instance k lacks, in whose scope the state is
abbrev pub in_scope : seen.Application → (k : ℕ) → Instance → State → List Pos
in_scope app k i s = unwired (env_of app k) (module_of i) s

-- an application, the names of its headers, and what is seen of its instances
module _ (app : seen.Application) (b : Base) (seen : List Seen) where
  abbrev pub in_instance : (k : ℕ) → Instance → State → List Pos
  in_instance k i s = in_scope app k i (inside b (seen_at seen k).scope s)

  -- from instance k on; the scope of each takes the place of the one before
  abbrev pub all_unwired : (k : ℕ) → List Instance → State → List Pos
  all_unwired k [] s = []
  all_unwired k (i ∷ is) s = in_instance k i s ++ all_unwired (k + 1) is (inside b (seen_at seen k).scope s)

-- where a line is refused, nothing is linked
abbrev pub unwired_behind : seen.Application → List Instance → List Seen → Option Course → List Pos
unwired_behind app is seen None = []
unwired_behind app is seen (Some c) = all_unwired app (base_of (header_state app)) seen 0 is c.1

abbrev pub refused_at : List Pos → Rule (Unit {0})
refused_at [] = Ok tt
refused_at (at ∷ more) = refuse (Unwired at)

-- of what is seen of an application
abbrev pub reached : seen.Application → List Instance → Sight → Rule (Unit {0})
reached app is sight = refused_at (unwired_behind app is sight.seen sight.course)

-- what is seen of it, and what follows
pub record ReachesIn (app : seen.Application) (is : List Instance) (answer : Rule (Unit {0})) : Type 0 where
  pub sight : Sight
  pub is_seen : sight_of app ≡ Ok sight
  pub answer_is : reached app is sight ≡ answer

-- no instance lacks an item, and each call and signal reaches something or has a default; or the first that does not
abbrev pub Reaches : List Loaded → List Made → List Pair → Rule (Unit {0}) → Type 0
Reaches units made pairs answer = (x : Application) × IsGiven units made pairs x × ReachesIn (application_of units made) x.instances answer
