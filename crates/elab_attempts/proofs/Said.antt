-- What work says where what it gave is told.
use Rattle.std.proofs.Common.{◌≡◌, Option, Some, None, Result, Ok, Err, ap, sym, subst, refl, ◌∙◌}
use Rattle.std.specs.Prelude.{IfOk, IsErr}
use Rattle.nm_base.specs.declared.fault.Fault.{Fault}
use Rattle.nm_base.specs.declared.fault.Fault.TheVariants.{Refused, Missing, ReadFault, Limit, TooLarge, NoMemory}
use Rattle.nesc_types.specs.Rule.{Rule}
use Rattle.nesc_types.specs.Values.{Constant}
use Rattle.elab_meaning.specs.Answers.{Gives}
use Rattle.elab_meaning.specs.Elab.{Elab, State}
use Rattle.nesc_unwired.specs.Calls.{constant_of}
use Rattle.elab_attempts.specs.Given.{IsGiven, Says}

module _ {X Y : Type 0} (view : X → Y) where
  says : (found : Option X) (given : Result X Fault) (st : State) (outcome : Rule (Y × State)) → IsGiven found given → Gives view given st outcome → Says view found st outcome
  says (Some x) given st outcome is g = subst (λ (r : Result X Fault). Gives view r st outcome) is g
  says None (Ok x) st outcome is g = absurd is
  says None (Err NoMemory) st outcome is g = absurd is
  says None (Err (Refused x)) st outcome is g = subst (λ (r : Rule (Y × State)). IsErr r) (sym g) refl
  says None (Err (Missing x)) st outcome is g = subst (λ (r : Rule (Y × State)). IsErr r) (sym g) refl
  says None (Err ReadFault) st outcome is g = subst (λ (r : Rule (Y × State)). IsErr r) (sym g) refl
  says None (Err (Limit x)) st outcome is g = subst (λ (r : Rule (Y × State)). IsErr r) (sym g) refl
  says None (Err (TooLarge x y)) st outcome is g = subst (λ (r : Rule (Y × State)). IsErr r) (sym g) refl

  pub said : {E : Type 0} (r : Result (Option X) E) (given : Result X Fault) (st : State) (outcome : Rule (Y × State))
      → IfOk r (λ found. IsGiven found given) → Gives view given st outcome → IfOk r (λ found. Says view found st outcome)
  said (Ok found) given st outcome is g = says found given st outcome is g
  said (Err e) given st outcome is g = tt

-- the constant that work in an equal state says
pub constant_said : (work : Elab Constant) (found : Option Constant) (s t0 t1 : State) → t0 ≡ s → Says (λ x. x) found t1 (work t0) → found ≡ constant_of (work s)
constant_said work (Some x) s t0 t1 same says = sym (ap (λ (r : Rule (Constant × State)). constant_of r) (sym (ap work same) ∙ says))
constant_said work None s t0 t1 same says = sym (none (work s) (subst (λ (u : State). IsErr (work u)) same says))
  where
    none : (r : Rule (Constant × State)) → IsErr r → constant_of r ≡ None
    none (Ok x) h = absurd cc
    none (Err e) h = refl
