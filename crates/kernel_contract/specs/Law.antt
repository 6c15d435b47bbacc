-- That the kernel of a program keeps the contract (own).
use Rattle.std.specs.Prelude.{slice_get}
use Rattle.nesc_core.specs.Plain.{Program}
use Rattle.nesc_core.specs.WellFormed.{IsWellFormed}
use Rattle.nesc_core.specs.Calls.{HasNoCycle}
use Rattle.core_meaning.specs.Act.{root}
use Rattle.core_meaning.specs.SourceOf.{handler_in, put_last}
use Rattle.task_queue.specs.Kernel.{Fits, kernel}
use Rattle.loop_runs.specs.Bodies.{Bodies}
use Rattle.loop_runs.specs.Kernel.{IsKernel}
use Rattle.kernel_contract.specs.Bytes.{queue_of}

-- what a wired program's bodies do
abbrev pub bodies_of : Program → Bodies
bodies_of p = record { does = root p; boot = p.boot; task = slice_get p.tasks; handler = handler_in p.handlers; insert = put_last }

abbrev pub EachKernelKeeps : Type 0
EachKernelKeeps = (p : Program) → IsWellFormed p → HasNoCycle p → Fits p → IsKernel (bodies_of p) (bodies_of (kernel p).program) (kernel p).pop (queue_of p)
