-- A rule's refusal is handed on.
use Rattle.std.proofs.Common.{◌≡◌, Result, Ok, Err, ap, sym, subst}
use Rattle.std.specs.Prelude.{IsErr, IsErrAnd}
use Rattle.nm_base.specs.declared.fault.Fault.{Fault}
use Rattle.nm_base.specs.declared.fault.Fault.TheVariants.{Refused, Missing, ReadFault, Limit, TooLarge, NoMemory}
use Rattle.nesc_core.specs.Plain.{Ty}
use Rattle.nesc_types.specs.Rule.{Rule}
use Rattle.elab_meaning.specs.Answers.{FaultIs, Follows}
use Rattle.program_meaning.specs.Heads.{as_pointer}

pub refused : {X Y : Type 0} (view : X → Y) (r : Result X Fault) (e : Fault) (rule : Rule Y) → IsErr r × IsErrAnd r (λ x. x ≡ e) → FaultIs e rule → Follows view r rule
refused view (Ok u) e rule k f = let w = k.0 in absurd cc
refused view (Err x) e rule k f = subst (λ (v : Fault). FaultIs v rule) (sym k.1) f

pub pointer_refused : (e : Fault) (r : Rule Ty) → FaultIs e r → FaultIs e (as_pointer r)
pointer_refused NoMemory r h = tt
pointer_refused (Refused x) r h = ap as_pointer h
pointer_refused (Missing x) r h = ap as_pointer h
pointer_refused ReadFault r h = ap as_pointer h
pointer_refused (Limit x) r h = ap as_pointer h
pointer_refused (TooLarge x y) r h = ap as_pointer h
