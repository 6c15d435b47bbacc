-- The program stands behind what is declared, and a fault of that passes through it.
use Rattle.std.proofs.Common.{◌≡◌, Result, Ok, ap, sym, subst}
use Rattle.nm_base.specs.declared.fault.Fault.{Fault}
use Rattle.nm_base.specs.declared.fault.Fault.TheVariants.{Refused, Missing, ReadFault, Limit, TooLarge, NoMemory}
use Rattle.nesc_core.specs.Plain.{Program}
use Rattle.nesc_types.specs.Rule.{Rule}
use Rattle.elab_meaning.specs.Answers.{FaultIs, Follows}
use Rattle.program_meaning.specs.Making.{Whole}
use Rattle.program_meaning.specs.Parts.{Application}
use Rattle.program_meaning.specs.Program.{ended}

pub goes_on : {X : Type 0} (view : X → Program) (app : Application) (found : Result X Fault) (all : Rule (Unit {0} × Whole)) (w : Whole)
    → all ≡ Ok (tt, w) → Follows view found (ended app (Ok (tt, w))) → Follows view found (ended app all)
goes_on view app found all w is h = subst (λ (r : Rule (Unit {0} × Whole)). Follows view found (ended app r)) (sym is) h

pub fails : (app : Application) (e : Fault) (all : Rule (Unit {0} × Whole)) → FaultIs e all → FaultIs e (ended app all)
fails app NoMemory all h = tt
fails app (Refused x) all h = ap (ended app) h
fails app (Missing x) all h = ap (ended app) h
fails app ReadFault all h = ap (ended app) h
fails app (Limit x) all h = ap (ended app) h
fails app (TooLarge x y) all h = ap (ended app) h

pub ruleset ends = (goes_on, fails)
