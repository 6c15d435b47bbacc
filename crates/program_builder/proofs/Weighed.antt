-- The laws of the sizes of images, by cases of a program's tasks.
use Rattle.std.proofs.Common.{ℕ, ◌≤◌, List, [], ◌∷◌}
use Rattle.nesc_core.specs.Weights.{code_weight}
use Rattle.task_queue.specs.Kernel.{kernel}
use Rattle.lower_stmt.specs.Bodies.{lowered}
use Rattle.msp_layout.specs.Bytes.{HasBytes}
use Rattle.msp_layout.specs.Depth.{IsStack}
use Rattle.msp_layout.specs.Laid.{PassesRam}
use Rattle.program_image.specs.Order as plain_order
use Rattle.image_code.specs.Code as plain
use Rattle.image_code.specs.Laws.{CanBeChecked}
use Rattle.image_sizes.specs.Laws as plain_laws
use Rattle.image_sizes.specs.Laws.{IsNeedOfWeights}
use Rattle.image_sizes.specs.StackWeight.{IsStackWeight}
use Rattle.task_image.specs.Order as task_order
use Rattle.task_code.specs.Code as task
use Rattle.task_sizes.specs.Laws as task_laws
use Rattle.program_builder.specs.Built.{CodeIsWithinWeight, IsCompilableWith, MemoryIsWithinWeights, StackIsWithinWeight, by_tasks}

pub code_within : plain_laws.CodeIsWithinWeight → task_laws.CodeIsWithinWeight → CodeIsWithinWeight
code_within plain_law task_law p bytes = by p.tasks
  where
    by : (ts : List ℕ) → IsCompilableWith ts p → HasBytes (by_tasks ts (plain.code_of p) (task.code_of p)) bytes → bytes ≤ code_weight p
    by [] h has = plain_law p bytes h.0 h.1 has
    by (f ∷ fs) h has = task_law p bytes h has

pub stack_within : plain_laws.StackIsWithinWeight → task_laws.StackIsWithinWeight → StackIsWithinWeight
stack_within plain_law task_law p stack weight = by p.tasks
  where
    by : (ts : List ℕ) → IsCompilableWith ts p → CanBeChecked (lowered (by_tasks ts p (kernel p).program)).checks
        → IsStack (by_tasks ts (plain.code_of p) (task.code_of p)) (by_tasks ts (plain_order.lines_of p) (task_order.lines_of p)) (by_tasks ts (plain_order.reset_place p) (task_order.loop_place p)) stack
        → IsStackWeight p weight → stack ≤ weight
    by [] h can is heavy = plain_law p stack weight h.0 can is heavy
    by (f ∷ fs) h can is heavy = task_law p stack weight h can is heavy

pub memory_within : plain_laws.MemoryIsWithinWeights → task_laws.MemoryIsWithinWeights → MemoryIsWithinWeights
memory_within plain_law task_law p weight need = by p.tasks
  where
    by : (ts : List ℕ) → IsCompilableWith ts p → CanBeChecked (lowered (by_tasks ts p (kernel p).program)).checks → IsStackWeight p weight
        → PassesRam (by_tasks ts (plain.code_of p) (task.code_of p)) (by_tasks ts (plain_order.lines_of p) (task_order.lines_of p)) (by_tasks ts (plain_order.reset_place p) (task_order.loop_place p)) (by_tasks ts (plain.data_bytes p) (task.data_bytes p)) need
        → IsNeedOfWeights p weight need
    by [] h can heavy pass = plain_law p weight need h.0 can heavy pass
    by (f ∷ fs) h can heavy pass = task_law p weight need h can heavy pass
