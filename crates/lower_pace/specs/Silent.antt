-- What the open machine runs between two actions (own).
use Rattle.std.specs.Prelude.{ℕ, zero, suc, ◌+◌, List, Option}
use Rattle.mid_code.specs.declared.instr.Mid.{Mid}
use Rattle.mid_code.specs.declared.code.MidCode.{MidCode}
use Rattle.mid_code.specs.Machine.{Activation, Next, Goes, Acts, Wants, Ends, Stops, step}
use Rattle.mid_code.specs.Reached.{innermost_instruction}

-- what is counted of the calls behind a step, where it does no action and is not the last
abbrev pub if_silent : Next → (List Activation → ℕ) → ℕ
if_silent (Goes s) count = count s
if_silent (Acts a s) count = 0
if_silent (Wants a s) count = 0
if_silent (Ends xs) count = 0
if_silent (Stops code) count = 0

module _ (code : MidCode) (size : Option Mid → ℕ) where
  -- The sizes of the instruction of these calls and of those behind it, up to the first that does an action or is the last, of so many
  -- at most
  abbrev pub silent_size : ℕ → List Activation → ℕ
  silent_size zero s = 0
  silent_size (suc n) s = size (innermost_instruction code s) + if_silent (step code s) (silent_size n)
