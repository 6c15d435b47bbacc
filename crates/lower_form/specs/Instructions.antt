-- What holds of each instruction of lowered code, wherever the machine is (own).
use Rattle.std.specs.Prelude.{◌≡◌, ℕ, ◌+◌, ◌*◌, ◌%◌, ◌^◌, ◌<◌, ◌≤◌, length}
use Rattle.std.specs.List.{All}
use Rattle.nm_base.specs.declared.memory_map.TheConstants.{RAM_BYTES}
use Rattle.nesc_core.specs.Plain.{Program}
use Rattle.nesc_core.specs.WellFormed.{IsWellFormed}
use Rattle.mid_code.specs.declared.instr.Mid.{Mid}
use Rattle.mid_code.specs.declared.instr.Mid.TheVariants.{Set, In, Out, Begin, Fault}
use Rattle.mid_code.specs.declared.code.MidCode.{MidCode}
use Rattle.mid_code.specs.declared.code.MidFn.{MidFn}
use Rattle.mid_code.specs.Reached.{IsPort}
use Rattle.lower_stmt.specs.Bodies.{lowered}
use Rattle.lower_form.specs.Short.{IsShort}

-- numbers are those of their words, ports are there, and a status is saved at an even place of the frame
abbrev pub IsSound : (frame : ℕ) → Mid → Type 0
IsSound frame (Set v n) = n < 2 ^ 16
IsSound frame (In v port) = IsPort port
IsSound frame (Out port v) = IsPort port
IsSound frame (Begin o) = (o + 2 ≤ frame) × (o % 2 ≡ 0)
IsSound frame (Fault code) = code < 2 ^ 8
IsSound frame _ = Unit {0}

abbrev pub InstructionsAreSound : Type 0
InstructionsAreSound = (p : Program) → IsWellFormed p → All (λ fn. All (IsSound fn.frame) fn.code) (lowered p).fns

-- frames of a size that can be addressed, and numbers for the functions, 48 operations and the checks
pub record IsSmallCode (c : MidCode) : Type 0 where
  pub frames : All (λ (fn : MidFn). fn.frame + 2 * fn.values ≤ RAM_BYTES) c.fns
  pub places : length c.fns + (48 + length c.checks) < 2 ^ 32

abbrev pub CodeIsSmall : Type 0
CodeIsSmall = (p : Program) → IsWellFormed p → IsShort p → IsSmallCode (lowered p)
