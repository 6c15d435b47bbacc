-- The kernel of a well-formed program is well formed (own).
use Rattle.std.specs.Prelude.{◌+◌, ◌≤◌}
use Rattle.std.specs.List.{All}
use Rattle.nesc_core.specs.Plain.{Program}
use Rattle.nesc_core.specs.Weights.{frame_weight}
use Rattle.nesc_core.specs.WellFormed.{IsWellFormed, greatest_frame}
use Rattle.task_queue.specs.Kernel.{Fits, kernel_program}

-- each frame may take what a post adds as a call, in bytes
abbrev pub HasFrameRoom : Program → Type 0
HasFrameRoom p = All (λ b. frame_weight p b + 4 ≤ greatest_frame) p.bodies

abbrev pub KernelIsWellFormed : Type 0
KernelIsWellFormed = (p : Program) → IsWellFormed p → Fits p → HasFrameRoom p → IsWellFormed (kernel_program p)
