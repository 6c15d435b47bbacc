-- What making a kernel gives, and why a program has none (own).
use Rattle.std.specs.Prelude.{⊤, ◌+◌, ◌<◌, ◌≤◌, ◌^◌, length}
use Rattle.nesc_core.specs.Plain.{Program}
use Rattle.nesc_core.specs.View.{program_of}
use Rattle.nesc_core.specs.Weights.{objects_end, objects_start}
use Rattle.task_queue.specs.Kernel.{Kernel}
use Rattle.kernel_code.specs.declared.queued.NoKernel.{NoKernel}
use Rattle.kernel_code.specs.declared.queued.NoKernel.TheVariants.{Memory, Tasks, Objects, Bodies, Room}
use Rattle.kernel_code.specs.declared.queued.Queued.{Queued}

abbrev pub kernel_of : Queued → Kernel
kernel_of k = record { program = program_of k.program; queue = k.queue; pop = k.pop }

-- the program is past the limit; memory may always be wanting
abbrev pub IsDue : NoKernel → Program → Type 0
IsDue Memory p = ⊤
IsDue Tasks p = 254 < length p.tasks
IsDue Objects p = 2 ^ 32 ≤ length p.objects
IsDue Bodies p = 2 ^ 32 ≤ length p.bodies + 1
IsDue Room p = objects_start + 60000 < objects_end p
