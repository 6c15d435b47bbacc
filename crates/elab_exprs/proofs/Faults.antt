-- Faults pass through what comes behind them, and rules stand in the work.
use Rattle.std.proofs.Common.{◌≡◌, Result, Ok, Err, ap, sym, subst}
use Rattle.std.specs.Prelude.{IsErr, IsErrAnd}
use Rattle.nm_base.specs.declared.fault.Fault.{Fault}
use Rattle.nm_base.specs.declared.fault.Fault.TheVariants.{Refused, Missing, ReadFault, Limit, TooLarge, NoMemory}
use Rattle.nesc_types.specs.Rule.{Rule}
use Rattle.elab_meaning.specs.Answers.{FaultIs, Follows, Gives}
use Rattle.elab_meaning.specs.Elab.{State, after, by}

pub passes : {A B : Type 0} (e : Fault) (r : Rule (A × State)) (g : A → State → Rule (B × State)) → FaultIs e r → FaultIs e (after r g)
passes NoMemory r g h = tt
passes (Refused x) r g h = ap (λ r. after r g) h
passes (Missing x) r g h = ap (λ r. after r g) h
passes ReadFault r g h = ap (λ r. after r g) h
passes (Limit x) r g h = ap (λ r. after r g) h
passes (TooLarge x y) r g h = ap (λ r. after r g) h

-- a fault that is handed on
pub stops : {X Y : Type 0} (view : X → Y) (r : Result X Fault) (e : Fault) (st : State) (outcome : Rule (Y × State))
    → IsErr r × IsErrAnd r (λ x. x ≡ e) → FaultIs e outcome → Gives view r st outcome
stops view (Ok u) e st outcome k f = let w = k.0 in absurd cc
stops view (Err x) e st outcome k f = subst (λ (v : Fault). FaultIs v outcome) (sym k.1) f

-- a rule that looks at no state
pub by_follows : {X Y : Type 0} (view : X → Y) (r : Result X Fault) (rule : Rule Y) (st : State) → Follows view r rule → Gives view r st (by rule st)
by_follows view (Ok x) rule st h = ap (λ q. by q st) h
by_follows view (Err NoMemory) rule st h = tt
by_follows view (Err (Refused x)) rule st h = ap (λ q. by q st) h
by_follows view (Err (Missing x)) rule st h = ap (λ q. by q st) h
by_follows view (Err ReadFault) rule st h = ap (λ q. by q st) h
by_follows view (Err (Limit x)) rule st h = ap (λ q. by q st) h
by_follows view (Err (TooLarge x y)) rule st h = ap (λ q. by q st) h
