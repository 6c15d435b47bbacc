-- A mote as it is loaded is the mote at reset.
use Rattle.std.proofs.Common.{◌≡◌, ℕ, false, [], None, refl, ap, sym, ◌∙◌}
use Rattle.mote_devices.specs.declared.state.BoardState.{BoardState}
use Rattle.mote_devices.specs.Board.{with_closed_mask}
use Rattle.msp430_cpu.specs.Cpu.{Cpu, even, reset}
use Rattle.msp430_cpu.specs.Memory.{Memory}
use Rattle.mote_bus.specs.Slots.{Bare}
use Rattle.mote_bus.specs.Accesses.{Noted}
use Rattle.mote_run.specs.Held.{Held, IsFresh, bare_bus}

module _ (cpu : Cpu) (bus : Noted (Memory Bare)) (image : ℕ → ℕ) (before : BoardState) (board : Bare) (word : ℕ) where
  abbrev loaded : Held
  loaded = record { joined = record { cpu = cpu; bus = bus }; slots = 0; ran = 0; least = 0x3900; stopped = false }

  pub fresh : bus ≡ record { memory = record { ram = λ a. 0; code = image; ports = board }; accesses = [] }
      → board.board ≡ with_closed_mask before → board.stopped ≡ None → cpu ≡ reset (even word) → word ≡ bare_bus.fetch bus 0xFFFE → IsFresh loaded
  fresh is closed none at_reset vector =
      let shut = ap (λ (n : Noted (Memory Bare)). n.memory.ports.board) is ∙ closed in
      record {
        cpu = at_reset ∙ ap (λ w. reset (even w)) vector;
        ram = ap (λ (n : Noted (Memory Bare)). n.memory.ram) is;
        code = refl;
        board = shut ∙ sym (ap with_closed_mask shut);
        code_written = λ on. ap (λ (n : Noted (Memory Bare)). n.memory.ports.stopped) is ∙ none;
        slots = refl;
        ran = refl;
        least = refl;
        stopped = refl;
      }
