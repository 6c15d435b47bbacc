-- What is seen of an application, and then what it lacks.
use Rattle.std.proofs.Common.{◌≡◌, subst, List, Result, Ok, Err, IfOk}
use Rattle.nm_base.specs.declared.fault.Fault.{Fault}
use Rattle.nesc_types.specs.Rule.{Rule}
use Rattle.elab_meaning.specs.Answers.{Follows}
use Rattle.program_meaning.specs.Parts.{Application, Instance}
use Rattle.wire_instances.specs.declared.plan.Made.{Made}
use Rattle.wire_pairs.specs.declared.ends.Pair.{Pair}
use Rattle.wire_units.specs.declared.loaded.Loaded.{Loaded}
use Rattle.wire_facts.specs.Seen.{Sight, sight_of}
use Rattle.wire_facts.specs.Seen as seen
use Rattle.wire_phases.specs.Faults.{IsRefusal}
use Rattle.elab_application.specs.Given.{IsGiven, application_of}
use Rattle.elab_application.proofs.Refusals.{refusal_is}
use Rattle.unwired_items.specs.Unwired.{ReachesIn, Reaches, reached}

module _ (app : seen.Application) (is : List Instance) (sight : Sight) (r : Result (Unit {0}) Fault) where
  pub reaches_all : sight_of app ≡ Ok sight → Follows (λ x. x) r (reached app is sight) → IfOk r (λ _. ReachesIn app is (Ok tt))
  reaches_all s h = by_answer r h
    where
      by_answer : (q : Result (Unit {0}) Fault) → Follows (λ x. x) q (reached app is sight) → IfOk q (λ _. ReachesIn app is (Ok tt))
      by_answer (Ok tt) h = record { sight = sight; is_seen = s; answer_is = h }
      by_answer (Err e) h = tt

  pub lacks_first : (e : Fault) → sight_of app ≡ Ok sight → Follows (λ x. x) r (reached app is sight) → r ≡ Err e → IsRefusal e → ReachesIn app is (Err e)
  lacks_first e s h fails refusal =
      record { sight = sight; is_seen = s; answer_is = refusal_is (λ x. x) r (reached app is sight) e h fails refusal }

pub given_so : (units : List Loaded) (made : List Made) (pairs : List Pair) (x : Application) (a : seen.Application) (answer : Rule (Unit {0}))
    → a ≡ application_of units made → IsGiven units made pairs x → ReachesIn a x.instances answer → Reaches units made pairs answer
given_so units made pairs x a answer is given reaches = (x, given, subst (λ (b : seen.Application). ReachesIn b x.instances answer) is reaches)

pub ruleset reaches = (reaches_all, lacks_first, given_so)
