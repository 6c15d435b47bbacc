-- What is told, where each use of `unique` has its number.
use Rattle.std.proofs.Common.{◌≡◌, subst, Result, Ok, Err, IfOk}
use Rattle.nm_base.specs.declared.fault.Fault.{Fault}
use Rattle.nesc_types.specs.Rule.{Rule}
use Rattle.elab_meaning.specs.Answers.{Follows}
use Rattle.wire_facts.specs.Seen.{Application}
use Rattle.wire_phases.specs.Faults.{IsRefusal}
use Rattle.elab_application.proofs.Refusals.{refusal_is}
use Rattle.elab_application.proofs.Told.{same_application}

pub given_as : {X Y : Type 0} (view : X → Y) (r : Result X Fault) (f : Application → Rule Y) (a b : Application) → a ≡ b
    → Follows view r (f a) → IfOk r (λ x. f b ≡ Ok (view x))
given_as view (Ok x) f a b is h = subst (λ (c : Application). f c ≡ Ok (view x)) is h
given_as view (Err e) f a b is h = tt

pub refused_as : {X Y : Type 0} (view : X → Y) (r : Result X Fault) (f : Application → Rule Y) (a b : Application) (e : Fault) → a ≡ b
    → Follows view r (f a) → r ≡ Err e → IsRefusal e → f b ≡ Err e
refused_as view r f a b e is h fails refusal =
    subst (λ (c : Application). f c ≡ Err e) is (refusal_is view r (f a) e h fails refusal)

pub ruleset telling = (same_application, given_as, refused_as)
