-- Programs whose lowered code posts nothing (own).
use Rattle.std.specs.Prelude.{◌≡◌, ℕ, Some, slice_get}
use Rattle.nesc_core.specs.Plain.{Program}
use Rattle.mid_code.specs.declared.instr.Mid.TheVariants.{Post}
use Rattle.mid_code.specs.Machine.{fn_of}
use Rattle.lower_stmt.specs.Bodies.{lowered}
use Rattle.task_queue.specs.Kernel.{kernel_program}

-- the function of no body has a Post
abbrev pub PostsNothing : Program → Type 0
PostsNothing p = (f at k v : ℕ) → slice_get (fn_of (lowered p) f).code at ≡ Some (Post k v) → ⊥

-- in a kernel's program all posts are calls
abbrev pub KernelsPostNothing : Type 0
KernelsPostNothing = (p : Program) → PostsNothing (kernel_program p)
