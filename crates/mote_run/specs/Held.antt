-- A mote on its board as it is kept, and the mote that it stands for (own).
use Rattle.std.specs.Prelude.{◌≡◌, ◌+◌, min, ℕ, Bool, false, List, []}
use Rattle.mote_devices.specs.declared.state.BoardState.{BoardState}
use Rattle.mote_devices.specs.declared.shown.Due.{Due}
use Rattle.mote_devices.specs.declared.shown.Given.{Given}
use Rattle.mote_devices.specs.Board.{board_given}
use Rattle.mote_devices.specs.Outside.{Outside, board_ports}
use Rattle.msp430_cpu.specs.Bus.{Bus}
use Rattle.msp430_cpu.specs.Memory.{Memory, memory_bus}
use Rattle.msp430_cpu.specs.Exec.{Joined, Step, exec}
use Rattle.msp430_cpu.specs.Slots.{Running, at_reset, counts, is_stopped}
use Rattle.mote_bus.specs.Slots.{Bare, bare_ports}
use Rattle.mote_bus.specs.Accesses.{Noted, noting}
use Rattle.mote_bus.specs.Mote.{outside_of}
use Rattle.mote_run.specs.Rows.{board_after}

-- The processor and its bus, which keeps the accesses of the last step and no event. `slots`, `ran`, `least` and
-- `stopped` are those of a mote that keeps its events
pub record Held : Type 0 where
  pub joined : Joined (Noted (Memory Bare))
  pub slots : ℕ
  pub ran : ℕ
  pub least : ℕ
  pub stopped : Bool

-- the same as a mote that keeps its events
pub record Follows (m : Held) (running : Running Outside) : Type 0 where
  pub cpu : m.joined.cpu ≡ running.joined.cpu
  pub ram : m.joined.bus.memory.ram ≡ running.joined.bus.ram
  pub code : m.joined.bus.memory.code ≡ running.joined.bus.code
  pub board : m.joined.bus.memory.ports.board ≡ running.joined.bus.ports.board
  -- a word that is no instruction is told to the other alone
  pub code_written : m.stopped ≡ false → m.joined.bus.memory.ports.stopped ≡ running.joined.bus.ports.stopped
  pub slots : m.slots ≡ running.slots
  pub ran : m.ran ≡ running.ran
  pub least : m.least ≡ running.least
  pub stopped : m.stopped ≡ running.stopped

abbrev pub image_in : Held → ℕ → ℕ
image_in m = m.joined.bus.memory.code

abbrev pub board_in : Held → BoardState
board_in m = m.joined.bus.memory.ports.board

-- at reset, with its image and its board
abbrev pub IsFresh : Held → Type 0
IsFresh m = Follows m (at_reset (image_in m) board_ports (outside_of (board_in m)))

abbrev pub with_board : Held → BoardState → Held
with_board m b = record {
  joined = record {
    cpu = m.joined.cpu;
    bus = record {
      memory = record { ram = m.joined.bus.memory.ram; code = m.joined.bus.memory.code; ports = record { board = b; stopped = m.joined.bus.memory.ports.stopped } };
      accesses = m.joined.bus.accesses;
    };
  };
  slots = m.slots;
  ran = m.ran;
  least = m.least;
  stopped = m.stopped;
}

abbrev pub given_to : Held → Given → Held
given_to m g = with_board m (board_given (board_in m) g)

-- the rows have happened
abbrev pub all_given : Held → List Due → Held
all_given m rows = with_board m (board_after (board_in m) rows)

abbrev pub bare_bus : Bus (Noted (Memory Bare))
bare_bus = noting (memory_bus bare_ports)

-- without the accesses of the last step
abbrev pub forgotten : Joined (Noted (Memory Bare)) → Joined (Noted (Memory Bare))
forgotten j = record { cpu = j.cpu; bus = record { memory = j.bus.memory; accesses = [] } }

abbrev pub step_of : Held → Step bare_bus
step_of m = exec bare_bus (forgotten m.joined)

abbrev pub after_step : Held → Step bare_bus → Held
after_step m s = record {
  joined = s.after;
  slots = m.slots + 1;
  ran = m.ran + counts s.stepped;
  least = min m.least s.after.cpu.sp;
  stopped = is_stopped s.stepped;
}
