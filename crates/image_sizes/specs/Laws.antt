-- What images take of the memory, beside the weights of their programs (own).
use Rattle.std.specs.Prelude.{◌<◌, ◌≤◌, ◌+◌, ℕ}
use Rattle.nm_base.specs.declared.memory_map.TheConstants.{RAM_BYTES}
use Rattle.nesc_core.specs.Plain.{Program}
use Rattle.nesc_core.specs.Weights.{code_weight, data_weight}
use Rattle.lower_stmt.specs.Bodies.{lowered}
use Rattle.msp_layout.specs.Bytes.{HasBytes}
use Rattle.msp_layout.specs.Depth.{IsStack}
use Rattle.msp_layout.specs.Laid.{PassesRam}
use Rattle.lean_pace.specs.Lean.{IsLean}
use Rattle.program_image.specs.Order.{lines_of, reset_place}
use Rattle.image_code.specs.Code.{code_of, data_bytes}
use Rattle.image_code.specs.Laws.{CanBeChecked, IsCompilable}
use Rattle.image_sizes.specs.StackWeight.{IsStackWeight}

abbrev pub CodeIsWithinWeight : Type 0
CodeIsWithinWeight = (p : Program) (bytes : ℕ) → IsCompilable p → IsLean p → HasBytes (code_of p) bytes → bytes ≤ code_weight p

abbrev pub StackIsWithinWeight : Type 0
StackIsWithinWeight =
    (p : Program) (stack weight : ℕ) → IsCompilable p → CanBeChecked (lowered p).checks → IsStack (code_of p) (lines_of p) (reset_place p) stack → IsStackWeight p weight → stack ≤ weight

abbrev pub DataIsWithinWeight : Type 0
DataIsWithinWeight = (p : Program) → data_bytes p ≤ data_weight p

-- what is needed where data and stack pass the memory: it is at most the weights, which pass it too
pub record IsNeedOfWeights (p : Program) (weight need : ℕ) : Type 0 where
  pub within : need ≤ data_weight p + weight
  pub pass : RAM_BYTES < data_weight p + weight

abbrev pub MemoryIsWithinWeights : Type 0
MemoryIsWithinWeights =
    (p : Program) (weight need : ℕ) → IsCompilable p → CanBeChecked (lowered p).checks → IsStackWeight p weight → PassesRam (code_of p) (lines_of p) (reset_place p) (data_bytes p) need → IsNeedOfWeights p weight need
