-- Reading, and the phases behind it.
use Rattle.std.proofs.Common.{◌≡◌, ℕ, refl, sym, ap, subst, List, Option, Result, Ok, Err}
use Rattle.nm_base.specs.declared.fault.Fault.{Fault}
use Rattle.nm_base.specs.declared.fault.Fault.TheVariants as fault
use Rattle.nm_base.specs.Outside.{FilesSeen}
use Rattle.nesc_tree.specs.Sorts.{Names}
use Rattle.nesc_preproc.specs.Sources.{Known}
use Rattle.wire_reading.specs.Order.{Name}
use Rattle.wire_reading.specs.Told.{Told, Counts, IfMissing}
use Rattle.wire_instances.specs.declared.plan.Made.{Made}
use Rattle.wire_units.specs.declared.loaded.Loaded.{Loaded}
use Rattle.wire_pairs.specs.declared.facts.InstanceFacts.{InstanceFacts}
use Rattle.wire_pairs.specs.declared.ends.Pair.{Pair}
use Rattle.wire_loading.specs.declared.stopped.Stopped.{Stopped}
use Rattle.wire_loading.specs.Opened.{Declaring, Held, Parsing, answer_of, held, ReadsAs, stopped}
use Rattle.wire_loading.proofs.Outside.{given, refused}
use Rattle.wire_phases.specs.Wired.{wired}
use Rattle.wire_phases.specs.Closed.{Wires}
use Rattle.unwired_items.specs.Unwired.{Reaches}
use Rattle.nesc_wiring.specs.Loads.{tells, wiring, Loads, IsInside, IsWired}

-- ---- what instances lack

pub lacks_nothing : (units : List Loaded) (made : List Made) (facts : List InstanceFacts) (pairs : List Pair)
    → Wires tells units (Ok (wired units made facts pairs)) → Reaches units made pairs (Ok tt) → IsWired units (Ok (wired units made facts pairs))
lacks_nothing units made facts pairs wires reaches = (Ok (wired units made facts pairs), wires, (refl, reaches))

pub lacks_something : (units : List Loaded) (made : List Made) (facts : List InstanceFacts) (pairs : List Pair) (e : Fault)
    → Wires tells units (Ok (wired units made facts pairs)) → Reaches units made pairs (Err e) → IsWired units (Err e)
lacks_something units made facts pairs e wires reaches = (Ok (wired units made facts pairs), wires, reaches)

pub is_not_linked : (units : List Loaded) (e : Fault) → Wires tells units (Err e) → IsWired units (Err e)
is_not_linked units e wires = (Err e, wires, refl)

pub ruleset items = (lacks_nothing, lacks_something, is_not_linked)

-- ---- reading

module _ (Declares : Declaring) (Parses : Parsing) (told : Told) (app : Name) where
  pub loads : (known : Option Known) (names : Names) (units : List Loaded) (made : List Made) (facts : List InstanceFacts) (pairs : List Pair)
      → ReadsAs Declares Parses told app (Ok (held known names units)) → IsWired units (Ok (wired units made facts pairs))
      → Loads Declares Parses told app (Ok (wiring known units made facts pairs))
  loads known names units made facts pairs read wires = (Ok (held known names units), read, (refl, wires))

  pub refused_behind : (known : Option Known) (names : Names) (units : List Loaded) (e : Fault)
      → ReadsAs Declares Parses told app (Ok (held known names units)) → IsWired units (Err e)
      → Loads Declares Parses told app (Err (stopped e known))
  refused_behind known names units e read wires = (Ok (held known names units), read, (refl, wires))

  pub refused_in_reading : (s : Stopped) → ReadsAs Declares Parses told app (Err s) → Loads Declares Parses told app (Err s)
  refused_in_reading s read = (Err s, read, refl)

-- the same, where the phases behind were given a view of what was read
pub loads_as : (Declares : Declaring) (Parses : Parsing) (told : Told) (app : Name) (known : Option Known) (names : Names) (units slice : List Loaded)
    (made : List Made) (facts : List InstanceFacts) (pairs : List Pair) → slice ≡ units
    → ReadsAs Declares Parses told app (Ok (held known names units)) → IsWired slice (Ok (wired slice made facts pairs))
    → Loads Declares Parses told app (Ok (wiring known units made facts pairs))
loads_as Declares Parses told app known names units slice made facts pairs s read wires =
    loads Declares Parses told app known names units made facts pairs read (subst (λ (us : List Loaded). IsWired us (Ok (wired us made facts pairs))) s wires)

pub refused_as_read : (Declares : Declaring) (Parses : Parsing) (told : Told) (app : Name) (known : Option Known) (names : Names) (units slice : List Loaded) (e : Fault) → slice ≡ units
    → ReadsAs Declares Parses told app (Ok (held known names units)) → IsWired slice (Err e)
    → Loads Declares Parses told app (Err (stopped e known))
refused_as_read Declares Parses told app known names units slice e s read wires =
    refused_behind Declares Parses told app known names units e read (subst (λ (us : List Loaded). IsWired us (Err e)) s wires)

-- ---- the outside, which no phase behind reading touches

no_read_fault : (e : Fault) → IsInside e → e ≡ fault.ReadFault → ⊥
no_read_fault fault.ReadFault inside is = inside
no_read_fault (fault.Refused r) inside is = absurd cc
no_read_fault (fault.Missing name) inside is = inside
no_read_fault (fault.Limit l) inside is = absurd cc
no_read_fault (fault.TooLarge room n) inside is = absurd cc
no_read_fault fault.NoMemory inside is = absurd cc

not_missing : (A : Type 0) (e : Fault) (P : List ℕ → Type 0) → IsInside e → IfMissing {A = A} (Err e) P
not_missing A (fault.Missing name) P inside = absurd inside
not_missing A _ P inside = tt

abbrev fault_in : {A : Type 0} → Result A Fault → Fault
fault_in (Ok x) = fault.NoMemory
fault_in (Err e) = e

untouched : {A B : Type 0} (x : A) (e : Fault) (old new : FilesSeen) → Counts (Ok x) old new → IsInside e → Counts {A = B} (Err e) old new
untouched {A} {B} x e old new c inside = record {
  same = c.same;
  faults_kept = c.faults_kept;
  misses_kept = c.misses_kept;
  read_fault = λ is. absurd (no_read_fault e inside (ap fault_in is));
  missing = not_missing B e _ inside;
}

module _ {A B : Type 0} (q : Result A Stopped) (old new : FilesSeen) where
  pub loaded_outside : (x : A) (y : B) → q ≡ Ok x → Counts (answer_of q) old new → Counts {A = B} (Ok y) old new
  loaded_outside x y is c = given A B (answer_of q) x y old new (ap (λ (t : Result A Stopped). answer_of t) is) c

  pub refused_outside : (x : A) (e : Fault) → q ≡ Ok x → IsInside e → Counts (answer_of q) old new → Counts {A = B} (Err e) old new
  refused_outside x e is inside c = untouched x e old new (subst (λ (r : Result A Fault). Counts r old new) (ap (λ (t : Result A Stopped). answer_of t) is) c) inside

  pub stopped_outside : (r : Result B Stopped) (s : Stopped) → q ≡ Err s → r ≡ Err s → Counts (answer_of q) old new → Counts (answer_of r) old new
  stopped_outside r s is so c = subst (λ (t : Result B Stopped). Counts (answer_of t) old new) (sym so) (refused A B (answer_of q) s.fault old new (ap (λ (t : Result A Stopped). answer_of t) is) c)

pub ruleset phases = (loads, refused_behind, refused_in_reading)
