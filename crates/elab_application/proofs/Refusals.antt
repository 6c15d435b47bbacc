-- A fault that is no want of memory is the definition's refusal.
use Rattle.std.proofs.Common.{◌≡◌, refl, subst, Result, Err}
use Rattle.nm_base.specs.declared.fault.Fault.{Fault}
use Rattle.nm_base.specs.declared.fault.Fault.TheVariants as fault
use Rattle.nesc_types.specs.Rule.{Rule}
use Rattle.elab_meaning.specs.Answers.{FaultIs, Follows}
use Rattle.wire_phases.specs.Faults.{IsRefusal}

fault_is : {Y : Type 0} (e : Fault) (rule : Rule Y) → FaultIs e rule → IsRefusal e → rule ≡ Err e
fault_is fault.NoMemory rule h refusal = absurd (refusal refl)
fault_is (fault.Refused r) rule h refusal = h
fault_is (fault.Missing name) rule h refusal = h
fault_is fault.ReadFault rule h refusal = h
fault_is (fault.Limit l) rule h refusal = h
fault_is (fault.TooLarge room n) rule h refusal = h

pub refusal_is : {X Y : Type 0} (view : X → Y) (r : Result X Fault) (rule : Rule Y) (e : Fault) → Follows view r rule → r ≡ Err e → IsRefusal e → rule ≡ Err e
refusal_is view r rule e h fails refusal = fault_is e rule (subst (λ q. Follows view q rule) fails h) refusal
