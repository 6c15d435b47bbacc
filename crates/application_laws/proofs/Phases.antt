-- The phases behind reading give one application, and what passes them is not refused.
use Rattle.std.proofs.Common.{◌≡◌, List, Ok, Err, sym, ap, subst, ◌∙◌}
use Rattle.nm_base.specs.declared.fault.Fault.{Fault}
use Rattle.program_meaning.specs.Parts.{Application, Instance}
use Rattle.wire_instances.specs.declared.plan.Made.{Made}
use Rattle.wire_pairs.specs.declared.ends.Pair.{Pair}
use Rattle.wire_units.specs.declared.loaded.Loaded.{Loaded}
use Rattle.wire_facts.specs.Seen as seen
use Rattle.wire_phases.specs.Wired.{Phase, Wired, wired_of}
use Rattle.wire_phases.specs.Closed.{WithPaths, app_of}
use Rattle.elab_application.specs.Given.{application_of}
use Rattle.unwired_items.specs.Unwired.{Reaches, ReachesIn, reached}
use Rattle.nesc_wiring.specs.Loads.{IsWired, WithItems, tells}
use Rattle.given_laws.specs.OneGiven.{OneGiven}
use Rattle.application_laws.proofs.Order.{ok_err, same_ok}
use Rattle.application_laws.proofs.Paths.{FewTargets, paths_pass}

-- ---- paths

paths_once : (x : Phase Wired) (w v : Wired) → WithPaths x (Ok w) → WithPaths x (Ok v) → w ≡ v
paths_once (Ok a) w v p q = p.0 ∙ sym q.0
paths_once (Err e) w v p q = absurd (ok_err w e p)

paths_passed : FewTargets → (x : Phase Wired) (w : Wired) (e : Fault) → WithPaths x (Ok w) → WithPaths x (Err e) → ⊥
paths_passed few (Ok a) w e p q = paths_pass few (app_of a) a.pairs e p.1 q
paths_passed few (Err f) w e p q = ok_err w f p

-- ---- what instances lack

reached_in : (app : seen.Application) (is : List Instance) (e : Fault) → ReachesIn app is (Ok tt) → ReachesIn app is (Err e) → ⊥
reached_in app is e a b =
    let same : a.sight ≡ b.sight = same_ok a.sight b.sight (sym a.is_seen ∙ b.is_seen) in
    ok_err tt e (sym a.answer_is ∙ (ap (reached app is) same ∙ b.answer_is))

reached_passed : OneGiven → (units : List Loaded) (made : List Made) (pairs : List Pair) (e : Fault) → Reaches units made pairs (Ok tt) → Reaches units made pairs (Err e) → ⊥
reached_passed given units made pairs e a b =
    let same : b.0 ≡ a.0 = given units made pairs b.0 a.0 b.1 a.1 in
    reached_in (application_of units made) a.0.instances e a.2 (subst (λ (x : Application). ReachesIn (application_of units made) x.instances (Err e)) same b.2)

-- ---- both, behind pairs

module _ (few : FewTargets) (given : OneGiven) (x : Phase Wired) where
  items_once : (o r : Phase Wired) (w v : Wired) → WithPaths x o → WithPaths x r → WithItems o (Ok w) → WithItems r (Ok v) → w ≡ v
  items_once (Err e) r w v a b p q = absurd (ok_err w e p)
  items_once (Ok y) (Err e) w v a b p q = absurd (ok_err v e q)
  items_once (Ok y) (Ok z) w v a b p q = p.0 ∙ (paths_once x y z a b ∙ sym q.0)

  items_passed : (o r : Phase Wired) (w : Wired) (e : Fault) → WithPaths x o → WithPaths x r → WithItems o (Ok w) → WithItems r (Err e) → ⊥
  items_passed (Err f) r w e a b p q = ok_err w f p
  items_passed (Ok y) (Err f) w e a b p q = paths_passed few x y f a b
  items_passed (Ok y) (Ok z) w e a b p q =
      let same : z ≡ y = paths_once x z y b a in
      reached_passed given y.units y.made y.pairs e p.1 (subst (λ (u : Wired). Reaches u.units u.made u.pairs (Err e)) same q)

module _ (few : FewTargets) (given : OneGiven) (units : List Loaded) where
  pub wired_once : (w v : Wired) → IsWired units (Ok w) → IsWired units (Ok v) → w ≡ v
  wired_once w v a b = items_once few given (wired_of tells units) a.0 b.0 w v a.1 b.1 a.2 b.2

  pub wired_passed : (w : Wired) (e : Fault) → IsWired units (Ok w) → IsWired units (Err e) → ⊥
  wired_passed w e a b = items_passed few given (wired_of tells units) a.0 b.0 w e a.1 b.1 a.2 b.2
