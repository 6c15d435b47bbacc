-- What a function returned is what the definition gives, unless memory ran out (own).
use Rattle.std.specs.Prelude.{◌≡◌, Result, Ok, Err}
use Rattle.nm_base.specs.declared.fault.Fault.{Fault}
use Rattle.nm_base.specs.declared.fault.Fault.TheVariants.{NoMemory}
use Rattle.nesc_types.specs.Rule.{Rule}
use Rattle.elab_meaning.specs.Elab.{State}

abbrev pub FaultIs : {B : Type 0} → Fault → Rule B → Type 0
FaultIs NoMemory rule = Unit {0}
FaultIs e rule = rule ≡ Err e

abbrev pub Follows : {X Y : Type 0} → (X → Y) → Result X Fault → Rule Y → Type 0
Follows view (Ok x) rule = rule ≡ Ok (view x)
Follows view (Err e) rule = FaultIs e rule

-- and the state that it left
abbrev pub Gives : {X Y : Type 0} → (X → Y) → Result X Fault → State → Rule (Y × State) → Type 0
Gives view (Ok x) new outcome = outcome ≡ Ok (view x, new)
Gives view (Err e) new outcome = FaultIs e outcome
