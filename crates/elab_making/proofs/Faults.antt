-- Faults pass through what comes behind them, and rules stand among steps over the whole program.
use Rattle.std.proofs.Common.{◌≡◌, Result, Ok, Err, ap, sym, subst}
use Rattle.std.specs.Prelude.{IsErr, IsErrAnd}
use Rattle.nm_base.specs.declared.fault.Fault.{Fault}
use Rattle.nm_base.specs.declared.fault.Fault.TheVariants.{Refused, Missing, ReadFault, Limit, TooLarge, NoMemory}
use Rattle.nesc_types.specs.Rule.{Rule}
use Rattle.elab_meaning.specs.Answers.{FaultIs, Follows}
use Rattle.elab_making.specs.Does.{Does}
use Rattle.program_meaning.specs.Making.{Whole, after, by}

pub passes : {A B : Type 0} (e : Fault) (r : Rule (A × Whole)) (g : A → Whole → Rule (B × Whole)) → FaultIs e r → FaultIs e (after r g)
passes NoMemory r g h = tt
passes (Refused x) r g h = ap (λ r. after r g) h
passes (Missing x) r g h = ap (λ r. after r g) h
passes ReadFault r g h = ap (λ r. after r g) h
passes (Limit x) r g h = ap (λ r. after r g) h
passes (TooLarge x y) r g h = ap (λ r. after r g) h

-- a fault that is handed on
pub stops : {X Y : Type 0} (view : X → Y) (r : Result X Fault) (e : Fault) (w : Whole) (outcome : Rule (Y × Whole))
    → IsErr r × IsErrAnd r (λ x. x ≡ e) → FaultIs e outcome → Does view r w outcome
stops view (Ok u) e w outcome k f = let h = k.0 in absurd cc
stops view (Err x) e w outcome k f = subst (λ (v : Fault). FaultIs v outcome) (sym k.1) f

-- a rule that looks at nothing
pub by_does : {X Y : Type 0} (view : X → Y) (r : Result X Fault) (rule : Rule Y) (w : Whole) → Follows view r rule → Does view r w (by rule w)
by_does view (Ok x) rule w h = ap (λ q. by q w) h
by_does view (Err NoMemory) rule w h = tt
by_does view (Err (Refused x)) rule w h = ap (λ q. by q w) h
by_does view (Err (Missing x)) rule w h = ap (λ q. by q w) h
by_does view (Err ReadFault) rule w h = ap (λ q. by q w) h
by_does view (Err (Limit x)) rule w h = ap (λ q. by q w) h
by_does view (Err (TooLarge x y)) rule w h = ap (λ q. by q w) h
