-- What images of programs with tasks take of the memory, beside the weights of their programs (own).
use Rattle.std.specs.Prelude.{◌≤◌, ℕ}
use Rattle.nesc_core.specs.Plain.{Program}
use Rattle.nesc_core.specs.Weights.{code_weight, data_weight}
use Rattle.task_queue.specs.Kernel.{kernel}
use Rattle.lower_stmt.specs.Bodies.{lowered}
use Rattle.msp_layout.specs.Bytes.{HasBytes}
use Rattle.msp_layout.specs.Depth.{IsStack}
use Rattle.msp_layout.specs.Laid.{PassesRam}
use Rattle.image_code.specs.Laws.{CanBeChecked}
use Rattle.image_sizes.specs.Laws.{IsNeedOfWeights}
use Rattle.image_sizes.specs.StackWeight.{IsStackWeight}
use Rattle.task_image.specs.Order.{lines_of, loop_place}
use Rattle.task_code.specs.Code.{code_of, data_bytes}
use Rattle.task_code.specs.Laws.{IsCompilable}

abbrev pub CodeIsWithinWeight : Type 0
CodeIsWithinWeight = (p : Program) (bytes : ℕ) → IsCompilable p → HasBytes (code_of p) bytes → bytes ≤ code_weight p

abbrev pub StackIsWithinWeight : Type 0
StackIsWithinWeight =
    (p : Program) (stack weight : ℕ) → IsCompilable p → CanBeChecked (lowered (kernel p).program).checks → IsStack (code_of p) (lines_of p) (loop_place p) stack → IsStackWeight p weight → stack ≤ weight

abbrev pub DataIsWithinWeight : Type 0
DataIsWithinWeight = (p : Program) → data_bytes p ≤ data_weight p

abbrev pub MemoryIsWithinWeights : Type 0
MemoryIsWithinWeights =
    (p : Program) (weight need : ℕ) → IsCompilable p → CanBeChecked (lowered (kernel p).program).checks → IsStackWeight p weight → PassesRam (code_of p) (lines_of p) (loop_place p) (data_bytes p) need → IsNeedOfWeights p weight need
