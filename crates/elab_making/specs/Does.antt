-- What a function returned and left of the whole program is what the definition gives, unless memory ran out (own).
use Rattle.std.specs.Prelude.{◌≡◌, Result, Ok, Err}
use Rattle.nm_base.specs.declared.fault.Fault.{Fault}
use Rattle.nesc_types.specs.Rule.{Rule}
use Rattle.elab_meaning.specs.Answers.{FaultIs}
use Rattle.program_meaning.specs.Making.{Whole}

abbrev pub Does : {X Y : Type 0} → (X → Y) → Result X Fault → Whole → Rule (Y × Whole) → Type 0
Does view (Ok x) new outcome = outcome ≡ Ok (view x, new)
Does view (Err e) new outcome = FaultIs e outcome
