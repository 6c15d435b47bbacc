-- Worked examples: what silent steps run, and their bounds, counted by hand.
use Rattle.std.specs.Prelude.{◌≡◌, ℕ}
use Rattle.nesc_core.specs.Nodes.{stmt_nodes_of}
use Rattle.nesc_core.specs.Plain.{Program}
use Rattle.mid_code.specs.Reached.{state_at}
use Rattle.msp_select.specs.Weight.{size_of}
use Rattle.lower_stmt.specs.Bodies.{lowered}
use Rattle.lower_pace.specs.Pace.{own_of}
use Rattle.lower_pace.specs.Rows.{cleared}
use Rattle.lower_pace.specs.Silent.{silent_size}
use Rattle.task_queue.specs.Kernel.{kernel_program, pop_code, queue_code}
use Rattle.task_queue.specs.Rows.{three}
use Rattle.lean_pace.specs.Pace.{gap_of, longest_gap, most_of_bodies}

-- the kernel's program of three tasks, whose functions 5 and 6 are `queue` and `pop`
abbrev pub three_kernel : Program
three_kernel = kernel_program three

-- the instructions of silent steps after so many steps of a function, where each answer is 0
abbrev pub size_from : Program → (root n : ℕ) → ℕ
size_from p root n = silent_size (lowered p) (size_of (lowered p) (own_of p) 0) 200 (state_at (lowered p) root (λ i. 0) n)

pub record WorkedRows : Type 0 where
  pub queue_nodes : stmt_nodes_of (queue_code 0) ≡ 74
  pub pop_nodes : stmt_nodes_of (pop_code 0) ≡ 65
  -- behind the Begin: 11 for the first assignment, and 12 up to the load of the last task
  pub queue_begins : size_from three_kernel 5 1 ≡ 23
  pub pop_begins : size_from three_kernel 6 1 ≡ 12
  -- a post, behind its first Tick: a value is pushed, the call, 91 of the entry, and the Begin
  pub post_called : size_from three_kernel 0 3 ≡ 96
  -- six nodes, and three bytes that are cleared
  pub clearing_body : most_of_bodies cleared ≡ 7365
  -- the 74 nodes of `queue`
  pub three_bodies : most_of_bodies three_kernel ≡ 90280
  -- beside them 62, twice 476 for a call and its entry, 618 for a piece of code, and 40 for the entry of a function of 26 bytes
  pub boot_gap : gap_of three_kernel 0 ≡ 91952
  pub three_gap : longest_gap three_kernel ≡ 92388
