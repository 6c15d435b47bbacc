-- What the kernel's program is where the program is well formed (own).
use Rattle.std.specs.Prelude.{◌≡◌, ℕ, ◌+◌, ◌≤◌, [], Some, slice_get}
use Rattle.nesc_core.specs.Plain.{Body, Program}
use Rattle.nesc_core.specs.WellFormed.{IsWellFormed}
use Rattle.nesc_core.specs.Calls.{HasNoCycle}
use Rattle.nesc_core.specs.Weights.{frame_weight}
use Rattle.task_queue.specs.Kernel.{kernel, kernel_program}

-- calls have no cycle where the program's have none
abbrev pub KernelHasNoCycle : Type 0
KernelHasNoCycle = (p : Program) → HasNoCycle p → HasNoCycle (kernel_program p)

-- what a frame of the program takes more in the kernel, in bytes, and what those of the two new bodies take
pub record FramesGrow (p : Program) : Type 0 where
  pub bodies : (f : ℕ) (b c : Body) → slice_get p.bodies f ≡ Some b → slice_get (kernel_program p).bodies f ≡ Some c
      → frame_weight (kernel_program p) c ≤ frame_weight p b + 4
  pub queue : (c : Body) → slice_get (kernel_program p).bodies (kernel p).queue ≡ Some c → frame_weight (kernel_program p) c ≤ 100
  pub pop : (c : Body) → slice_get (kernel_program p).bodies (kernel p).pop ≡ Some c → frame_weight (kernel_program p) c ≤ 100

abbrev pub EachFrameGrowsLittle : Type 0
EachFrameGrowsLittle = (p : Program) → FramesGrow p

-- where there are no tasks, bodies stay as they are
abbrev pub TasklessBodiesStay : Type 0
TasklessBodiesStay = (p : Program) → IsWellFormed p → p.tasks ≡ []
    → (f : ℕ) (b c : Body) → slice_get p.bodies f ≡ Some b → slice_get (kernel_program p).bodies f ≡ Some c → c ≡ b
