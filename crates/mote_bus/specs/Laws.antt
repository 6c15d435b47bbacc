-- What the accesses of a step show (own).
use Rattle.std.specs.Prelude.{◌≡◌, ◌≤◌, length, List, [], ◌∷◌, ◌++◌}
use Rattle.mote_devices.specs.declared.shown.Shown.{Shown}
use Rattle.mote_devices.specs.declared.shown.Shown.TheVariants.{Enter}
use Rattle.mote_devices.specs.Outside.{Outside, board_ports}
use Rattle.msp430_cpu.specs.declared.cpu.Stepped.{Stepped}
use Rattle.msp430_cpu.specs.declared.cpu.Stepped.TheVariants.{Entered}
use Rattle.msp430_cpu.specs.Memory.{Memory, memory_bus}
use Rattle.msp430_cpu.specs.Exec.{Joined, exec}
use Rattle.mote_bus.specs.Slots.{Bare, bare_ports}
use Rattle.mote_bus.specs.Accesses.{Noted, noting, events_of}

-- the same processor, RAM, code, board and code of a stop
pub record Agree (j : Joined (Noted (Memory Bare))) (k : Joined (Memory Outside)) : Type 0 where
  pub cpu : j.cpu ≡ k.cpu
  pub ram : j.bus.memory.ram ≡ k.bus.ram
  pub code : j.bus.memory.code ≡ k.bus.code
  pub board : j.bus.memory.ports.board ≡ k.bus.ports.board
  pub stopped : j.bus.memory.ports.stopped ≡ k.bus.ports.stopped

-- what a step shows behind its accesses
abbrev pub entry_of : Stepped → List Shown
entry_of (Entered v) = Enter v ∷ []
entry_of _ = []

-- one step on a bus that notes accesses, and one on ports that show events
pub record StepShows (j : Joined (Noted (Memory Bare))) (k : Joined (Memory Outside)) : Type 0 where
  pub agree : Agree (exec (noting (memory_bus bare_ports)) j).after (exec (memory_bus board_ports) k).after
  pub stepped : (exec (noting (memory_bus bare_ports)) j).stepped ≡ (exec (memory_bus board_ports) k).stepped
  -- so none is lost
  pub few : length (exec (noting (memory_bus bare_ports)) j).after.bus.accesses ≤ 3
  pub shown : (exec (memory_bus board_ports) k).after.bus.ports.shown
      ≡ k.bus.ports.shown ++ (events_of (exec (noting (memory_bus bare_ports)) j).after.bus.accesses ++ entry_of (exec (noting (memory_bus bare_ports)) j).stepped)

-- from states that agree, with no access noted, the events of a step are those of its accesses
abbrev pub StepsShowAccesses : Type 0
StepsShowAccesses = (j : Joined (Noted (Memory Bare))) (k : Joined (Memory Outside)) → Agree j k → j.bus.accesses ≡ [] → StepShows j k
