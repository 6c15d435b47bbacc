-- Refusals of creation and of wires as faults.
use Rattle.std.proofs.Common.{◌≡◌, refl, ap, sym, ◌∙◌, subst, List, Result, Ok, Err}
use Rattle.nm_base.specs.declared.fault.Fault.{Fault}
use Rattle.wire_instances.specs.declared.naming.Stop.{Stop}
use Rattle.wire_instances.specs.Instances.{IsRefusal as IsStop}
use Rattle.wire_units.specs.declared.loaded.Loaded.{Loaded}
use Rattle.wire_paths.specs.Paths.{Paths}
use Rattle.wire_phases.specs.Faults.{creation_fault, or_fault, IsRefusal}
use Rattle.wire_phases.specs.Wired.{Phase, Wired, Telling, wired_of}
use Rattle.wire_phases.specs.Closed.{app_of, WithPaths, Wires}

-- what is no want of memory as a fault is none in creation
pub is_stop : (s : Stop) (e : Fault) → creation_fault s ≡ e → IsRefusal e → IsStop s
is_stop s e is refusal = λ none. refusal (sym is ∙ ap creation_fault none)

pub refused_as : {A E : Type 0} (fault_of : E → Fault) (r : Result A E) (x : E) (e : Fault) → r ≡ Err x → fault_of x ≡ e → or_fault fault_of r ≡ Err e
refused_as fault_of r x e is same = ap (or_fault fault_of) is ∙ ap (λ y. Err y) same

pub ruleset refusals = (is_stop, refused_as)

-- ---- paths behind pairs

pub passed : (tell : Telling) (units : List Loaded) (w : Wired) → wired_of tell units ≡ Ok w → Paths (app_of w) w.pairs (Ok tt) → Wires tell units (Ok w)
passed tell units w is fine = subst (λ (r : Phase Wired). WithPaths r (Ok w)) (sym is) (refl, fine)

pub path_refused : (tell : Telling) (units : List Loaded) (w : Wired) (e : Fault) → wired_of tell units ≡ Ok w → Paths (app_of w) w.pairs (Err e) → Wires tell units (Err e)
path_refused tell units w e is stops = subst (λ (r : Phase Wired). WithPaths r (Err e)) (sym is) stops

pub wire_refused : (tell : Telling) (units : List Loaded) (e : Fault) → wired_of tell units ≡ Err e → Wires tell units (Err e)
wire_refused tell units e is = subst (λ (r : Phase Wired). WithPaths r (Err e)) (sym is) refl

pub ruleset paths = (passed, path_refused, wire_refused)
