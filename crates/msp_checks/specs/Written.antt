-- How checks are written: how many runs they may have, and what stands in front of the runs and behind them (own).
use Rattle.std.specs.Prelude.{ℕ, ◌≤◌, List, [], ◌∷◌, length}
use Rattle.std.specs.List.{All}
use Rattle.msp_isa.specs.declared.code.Item.{Item}
use Rattle.msp_isa.specs.declared.code.Item.TheVariants as item
use Rattle.msp_isa.specs.declared.instr.Cond.TheVariants.{Jeq}
use Rattle.msp_isa.specs.declared.instr.Op2.TheVariants.{Cmp}
use Rattle.mid_code.specs.declared.code.Check.{Check}
use Rattle.open_law.specs.Homes.{literal}
use Rattle.msp_runtime.specs.Code.{Code, Keeping, operation_item, return}
use Rattle.msp_runtime.specs.Routines.{all, divide, set}
use Rattle.msp_checks.specs.Checks.{IsOfWords, found, raise}

-- more than the mote's memory has room for
abbrev pub most_runs : ℕ
most_runs = 0x1000000

abbrev pub HasFewRuns : Check → Type 0
HasFewRuns check = length check.runs ≤ most_runs

abbrev pub HaveFewRuns : List Check → Type 0
HaveFewRuns checks = All HasFewRuns checks

abbrev pub AreOfWords : List Check → Type 0
AreOfWords checks = All IsOfWords checks

-- the pointer is divided by the size
abbrev pub start_code : (size : ℕ) → Code
start_code size = all (set size 13 ∷ Keeping 12 divide ∷ [])

-- RET over the fault, where a run had the pointer
abbrev pub end_items : (label : ℕ) → List Item
end_items l = operation_item Cmp (literal found) 14 ∷ item.Jump Jeq l ∷ item.Is raise ∷ item.Label l ∷ return ∷ []
