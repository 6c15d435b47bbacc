-- What was given or refused, and what that says of the work (own: want of memory is no refusal).
use Rattle.std.specs.Prelude.{◌≡◌, Option, Some, None, Result, Ok, Err, IsErr}
use Rattle.nm_base.specs.declared.fault.Fault.{Fault}
use Rattle.nm_base.specs.declared.fault.Fault.TheVariants.{Refused, Missing, ReadFault, Limit, TooLarge, NoMemory}
use Rattle.nesc_types.specs.Rule.{Rule}
use Rattle.elab_meaning.specs.Elab.{State}

abbrev pub IsRefusal : Fault → Type 0
IsRefusal NoMemory = ⊥
IsRefusal (Refused x) = Unit {0}
IsRefusal (Missing x) = Unit {0}
IsRefusal ReadFault = Unit {0}
IsRefusal (Limit x) = Unit {0}
IsRefusal (TooLarge x y) = Unit {0}

-- what was given, or nothing behind a refusal
abbrev pub IsGiven : {X : Type 0} → Option X → Result X Fault → Type 0
IsGiven (Some x) given = given ≡ Ok x
IsGiven None (Ok x) = ⊥
IsGiven None (Err e) = IsRefusal e

-- what work gives, with the state that it leaves, or that it is refused
abbrev pub Says : {X Y : Type 0} → (X → Y) → Option X → State → Rule (Y × State) → Type 0
Says view (Some x) new outcome = outcome ≡ Ok (view x, new)
Says view None new outcome = IsErr outcome

-- the same of work on what is kept and on a trial, which are equal behind work that is not refused
abbrev pub Tried : {X Y : Type 0} → (X → Y) → Option X → (old kept trial : State) → Rule (Y × State) → Type 0
Tried view (Some x) old kept trial outcome = (outcome ≡ Ok (view x, kept)) × (trial ≡ kept)
Tried view None old kept trial outcome = IsErr outcome × (kept ≡ old)
