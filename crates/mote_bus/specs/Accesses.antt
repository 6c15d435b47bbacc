-- What a processor did on a bus, and what a trace shows of it (own).
use Rattle.std.specs.Prelude.{◌%◌, ◌==◌, ◌&&◌, nat_lt, if◌then◌else◌, List, [], ◌∷◌, ◌++◌, length}
use Rattle.nm_base.specs.declared.memory_map.TheConstants.{FAULT}
use Rattle.mote_devices.specs.declared.shown.Shown.{Shown}
use Rattle.mote_devices.specs.declared.shown.Shown.TheVariants.{In, Out, Fault}
use Rattle.msp430_cpu.specs.Bus.{Bus}
use Rattle.msp430_cpu.specs.Cpu.{even}
use Rattle.msp430_cpu.specs.Memory.{is_port}
use Rattle.mote_bus.specs.declared.access.Access.{Access}
use Rattle.mote_bus.specs.declared.access.Access.TheVariants.{Read, Write}

-- what stands behind, and the first four reads and writes since they were last forgotten
pub record Noted (M : Type 0) : Type 0 where
  pub memory : M
  pub accesses : List Access

abbrev pub noted : List Access → Access → List Access
noted accesses a = if nat_lt (length accesses) 4 then accesses ++ a ∷ [] else accesses

-- a bus that notes reads and writes; fetches and acceptances are not noted
abbrev pub noting : {M : Type 0} → Bus M → Bus (Noted M)
noting ops = record {
  read = λ n a wide. let r = ops.read n.memory a wide in (r.0, record { memory = r.1; accesses = noted n.accesses (Read a wide r.0) });
  write = λ n a wide v. record { memory = ops.write n.memory a wide v; accesses = noted n.accesses (Write a wide v) };
  fetch = λ n a. ops.fetch n.memory a;
  line = λ n. ops.line n.memory;
  accept = λ n v. record { memory = ops.accept n.memory v; accesses = n.accesses };
  stopped = λ n. ops.stopped n.memory;
}

-- a read or a write of a word at a port is shown, at an even address; a write to FAULT as the code
abbrev pub shown_of : Access → List Shown
shown_of (Read a wide v) = if is_port a && wide then In (even a) v ∷ [] else []
shown_of (Write a wide v) =
    if is_port a && wide
    then (if even a == FAULT then Fault (v % 256) else Out (even a) v) ∷ []
    else []

abbrev pub events_of : List Access → List Shown
events_of [] = []
events_of (a ∷ rest) = shown_of a ++ events_of rest
