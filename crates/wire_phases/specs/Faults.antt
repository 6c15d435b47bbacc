-- Refusals of creation and of wires as faults of the compiler (own).
use Rattle.std.specs.Prelude.{◌≡◌, ℕ, ◌+◌, Result, Ok, Err}
use Rattle.nm_base.specs.declared.fault.Fault.{Fault}
use Rattle.nm_base.specs.declared.fault.Fault.TheVariants as fault
use Rattle.nm_base.specs.declared.refusal.Refusal.TheVariants as refusal
use Rattle.nm_base.specs.declared.limit.Which.TheVariants as which
use Rattle.nm_base.specs.declared.limit.TheConstants.{MAX_INSTANCES}
use Rattle.wire_instances.specs.declared.plan.Unmet.{Unmet}
use Rattle.wire_instances.specs.declared.plan.Unmet.TheVariants as unmet
use Rattle.wire_instances.specs.declared.naming.Stop.{Stop}
use Rattle.wire_instances.specs.declared.naming.Stop.TheVariants as stop
use Rattle.wire_pairs.specs.declared.facts.Unlinked.{Unlinked}
use Rattle.wire_pairs.specs.declared.facts.Unlinked.TheVariants as unlinked

abbrev pub unmet_fault : Unmet → Fault
unmet_fault (unmet.UnknownName at) = fault.Refused (refusal.UnknownName at)
unmet_fault (unmet.DuplicateName at) = fault.Refused (refusal.DuplicateName at)
unmet_fault (unmet.ComponentLoop at) = fault.Refused (refusal.ComponentLoop at)
unmet_fault (unmet.ArgumentMismatch at) = fault.Refused (refusal.ArgumentMismatch at)

-- one instance more than the limit
abbrev pub too_many : Fault
too_many = fault.Limit (record { which = which.Instances; have = MAX_INSTANCES + 1 })

abbrev pub creation_fault : Stop → Fault
creation_fault (stop.Unmet e) = unmet_fault e
creation_fault stop.Instances = too_many
creation_fault stop.NoMemory = fault.NoMemory

abbrev pub wire_fault : Unlinked → Fault
wire_fault (unlinked.BadType at) = fault.Refused (refusal.BadType at)
wire_fault (unlinked.NotConstant at) = fault.Refused (refusal.NotConstant at)
wire_fault (unlinked.UnknownName at) = fault.Refused (refusal.UnknownName at)
wire_fault (unlinked.WireMismatch at) = fault.Refused (refusal.WireMismatch at)

abbrev pub or_fault : {A E : Type 0} → (E → Fault) → Result A E → Result A Fault
or_fault fault_of (Ok x) = Ok x
or_fault fault_of (Err e) = Err (fault_of e)

-- want of memory is no refusal
abbrev pub IsRefusal : Fault → Type 0
IsRefusal e = e ≡ fault.NoMemory → ⊥
