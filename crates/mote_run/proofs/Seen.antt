-- What contracts see of a mote, given what the state of a device is.
use Rattle.mote_devices.specs.declared.state.DevState.{DevState}
use Rattle.msp430_cpu.specs.Kept.{memory_of}
use Rattle.mote_bus.specs.Slots.{board_with}
use Rattle.mote_run.specs.declared.mote.MoteOf.{MoteOf}
use Rattle.mote_run.specs.Held.{Held}

abbrev pub held_of : {D : Type 0} → (D → DevState) → MoteOf D → Held
held_of state m = record {
  joined = record {
    cpu = m.cpu;
    bus = record {
      memory = memory_of m.bus.memory.ram.items m.bus.memory.code.items (record { board = board_with state m.bus.memory.ports.mask m.bus.memory.ports.slots; stopped = m.bus.memory.ports.stopped });
      accesses = m.bus.accesses.items;
    };
  };
  slots = m.slots;
  ran = m.ran;
  least = m.least;
  stopped = m.stopped;
}
