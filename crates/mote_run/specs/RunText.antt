-- What a mote's run writes: its trace, slot by slot, and how it ended (own).
use Rattle.std.specs.Prelude.{◌≡◌, ℕ, if◌then◌else◌, List, [], ◌∷◌, ◌++◌, map, drop, length}
use Rattle.mote_devices.specs.declared.state.BoardState.{BoardState}
use Rattle.mote_devices.specs.declared.shown.Due.{Due}
use Rattle.mote_devices.specs.declared.shown.Shown.{Shown}
use Rattle.mote_devices.specs.declared.shown.Shown.TheVariants as shown
use Rattle.mote_devices.specs.Outside.{Outside, board_ports}
use Rattle.msp430_cpu.specs.declared.cpu.Stepped.{Stepped}
use Rattle.msp430_cpu.specs.Slots.{Running, slot, is_illegal}
use Rattle.mote_bus.specs.Laws.{entry_of}
use Rattle.mote_text.specs.declared.trace.End.{End}
use Rattle.mote_text.specs.TraceText.{trace_lines, end_text}
use Rattle.mote_bus.specs.Mote.{mote, events, Result}

-- the events of n slots, and how they ended
abbrev pub mote_text : (ℕ → ℕ) → BoardState → List Due → ℕ → List ℕ
mote_text image b rows n =
    let m = mote image b rows n in
    trace_lines (events image b rows n) ++ (end_text m.slots m.ran m.least m.off ++ 10 ∷ [])

-- how a run ended, in numbers
pub record EndsAs (end : End) (m : Result) : Type 0 where
  pub slots : end.slots ≡ m.slots
  pub ran : end.ran ≡ m.ran
  pub least : end.least ≡ m.least
  pub off : end.off ≡ m.off

-- what a step shows behind its accesses: an entry, or a word that is no instruction
abbrev pub shown_behind : Stepped → List Shown
shown_behind s = entry_of s ++ (if is_illegal s then shown.Fault 256 ∷ [] else [])

-- events with the number of their slot
abbrev pub in_slot : ℕ → List Shown → List (ℕ × Shown)
in_slot number events = map (λ e. (number, e)) events

-- the events of the slot that comes next, in which `due` happens
abbrev pub slot_events : ℕ → (Outside → Outside) → Running Outside → List (ℕ × Shown)
slot_events number due running =
    in_slot number (drop (length running.joined.bus.ports.shown) (slot board_ports due running).joined.bus.ports.shown)
