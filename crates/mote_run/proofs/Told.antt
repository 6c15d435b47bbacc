-- What a mote is told of a word that is no instruction.
use Rattle.std.proofs.Common.{◌≡◌, Bool, true, false, cond, refl, ap}
use Rattle.mote_devices.specs.Outside.{Outside, board_ports}
use Rattle.msp430_cpu.specs.declared.cpu.Stepped.{Stepped}
use Rattle.msp430_cpu.specs.declared.cpu.Stepped.TheVariants.{Ran, Idle, Entered, Stopped}
use Rattle.msp430_cpu.specs.Memory.{Memory}
use Rattle.msp430_cpu.specs.Exec.{Joined}
use Rattle.msp430_cpu.specs.Slots.{is_stopped, is_illegal, in_ports, told_of}

goes_on_legal : (s : Stepped) → is_stopped s ≡ false → is_illegal s ≡ false
goes_on_legal Ran h = refl
goes_on_legal Idle h = refl
goes_on_legal (Entered v) h = refl
goes_on_legal (Stopped code) h = absurd (apart h)
  where
    apart : true ≡ false → ⊥
    apart e = cc

-- what is told of a word that is no instruction changes neither memory nor board
abbrev pub told : Stepped → Joined (Memory Outside) → Joined (Memory Outside)
told s j = told_of board_ports s j

module _ (s : Stepped) (j : Joined (Memory Outside)) where
  pub told_cpu : (told s j).cpu ≡ j.cpu
  told_cpu = by_test (is_illegal s)
    where
      by_test : (t : Bool) → (cond t (in_ports board_ports.illegal j) j).cpu ≡ j.cpu
      by_test true = refl
      by_test false = refl

  pub told_ram : (told s j).bus.ram ≡ j.bus.ram
  told_ram = by_test (is_illegal s)
    where
      by_test : (t : Bool) → (cond t (in_ports board_ports.illegal j) j).bus.ram ≡ j.bus.ram
      by_test true = refl
      by_test false = refl

  pub told_code : (told s j).bus.code ≡ j.bus.code
  told_code = by_test (is_illegal s)
    where
      by_test : (t : Bool) → (cond t (in_ports board_ports.illegal j) j).bus.code ≡ j.bus.code
      by_test true = refl
      by_test false = refl

  pub told_board : (told s j).bus.ports.board ≡ j.bus.ports.board
  told_board = by_test (is_illegal s)
    where
      by_test : (t : Bool) → (cond t (in_ports board_ports.illegal j) j).bus.ports.board ≡ j.bus.ports.board
      by_test true = refl
      by_test false = refl

  pub told_stopped : is_stopped s ≡ false → (told s j).bus.ports.stopped ≡ j.bus.ports.stopped
  told_stopped h = ap (λ t. (cond t (in_ports board_ports.illegal j) j).bus.ports.stopped) (goes_on_legal s h)
