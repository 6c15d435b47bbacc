-- How many instructions selected code of a lean program runs between two actions: so many for each node of one body, and nothing is summed
-- over bodies (own).
use Rattle.std.specs.Prelude.{ℕ, ◌+◌, ◌*◌, ◌≤◌, List, fold, length, max}
use Rattle.nm_base.specs.declared.action.Action.{Action}
use Rattle.nesc_core.specs.Plain.{Stmt, block, branch, loop, switch, atomic, clear, here, Stmts, no_stmts, more_stmts, Body, Program}
use Rattle.nesc_core.specs.Derefs.{ranges_of}
use Rattle.nesc_core.specs.Nodes.{body_nodes_of}
use Rattle.nesc_core.specs.Weights.{local_bytes, pace_of_program}
use Rattle.nesc_core.specs.WellFormed.{IsWellFormed}
use Rattle.mid_code.specs.Machine.{Activation, fn_of}
use Rattle.lower_stmt.specs.Bodies.{lowered}
use Rattle.open_law.specs.Body.{IsOpenFunction}
use Rattle.msp_select.specs.Frames.{frame_home}
use Rattle.msp_select.specs.Sound.{IsSelected, body_of}
use Rattle.msp_select.specs.Weight.{IsWeighed, entry_size}
use Rattle.msp_select.specs.Weight as weight
use Rattle.lower_pace.specs.Pace.{IsMeasured, own_of}
use Rattle.lower_pace.specs.Silent.{silent_size}
use Rattle.task_queue.specs.Kernel.{kernel_program}
use Rattle.lean_pace.specs.Lean.{IsLean}

-- ---- numbers

-- the statements that clear a local
abbrev mutual
  pub clears_in : Stmt → ℕ
  clears_in (block list) = clears_in_all list
  clears_in (branch test a b) = clears_in a + clears_in b
  clears_in (loop first test step body) = clears_in body
  clears_in (switch e cases list) = clears_in_all list
  clears_in (atomic s) = clears_in s
  clears_in (clear x) = 1
  clears_in (here arguments first count body) = clears_in body
  clears_in _ = 0

  pub clears_in_all : Stmts → ℕ
  clears_in_all no_stmts = 0
  clears_in_all (more_stmts s rest) = clears_in s + clears_in_all rest

-- the instructions of a routine
abbrev pub help_limit : Program → ℕ
help_limit p = 608 + 8 * ranges_of p

-- what silent steps of a body take, in a row: so many for each node, and for each local that is cleared 15 for each byte
abbrev pub most_of_body : Program → Body → ℕ
most_of_body p b = body_nodes_of b * (1220 + 8 * ranges_of p) + clears_in b.code * (15 * local_bytes p)

-- the greatest of them
abbrev pub most_of_bodies : Program → ℕ
most_of_bodies p = fold (λ most b. max most (most_of_body p b)) 0 p.bodies

-- the nodes of the largest body
abbrev pub most_nodes : Program → ℕ
most_nodes p = fold (λ most b. max most (body_nodes_of b)) 0 p.bodies

-- the instructions of a call and of the entry behind it: three for each word of the frame
abbrev pub most_entry : Program → ℕ
most_entry p = 3 * local_bytes p + 6 * most_nodes p + 26

-- what silent steps take, in a row: those of a body, and a call and its entry in front of them
abbrev pub most_silent : Program → ℕ
most_silent p = most_of_bodies p + most_entry p + 60

-- the instructions of one piece of code
abbrev pub most_piece : Program → ℕ
most_piece p = most_entry p + help_limit p + 10

-- the bound of instructions between two actions of a function, and of any
abbrev pub gap_of : Program → ℕ → ℕ
gap_of p root = most_silent p + entry_size (own_of p) root + most_piece p + 2

abbrev pub longest_gap : Program → ℕ
longest_gap p = most_silent p + most_entry p + most_piece p + 2

-- what stands around bodies: registers are saved and restored around a handler, and the loop calls a task
abbrev pub around : ℕ
around = 68

-- a turn of the loop, with three instructions for each task
abbrev pub turn_of : Program → ℕ
turn_of p = 3 * length p.tasks + 20

-- ---- laws

-- Lean programs have the premise of the larger bound, by which the steps come to an end
abbrev pub LeanIsMeasured : Type 0
LeanIsMeasured = (p : Program) → IsLean p → IsMeasured p

-- The instructions of silent steps are a weight of lowered code
abbrev pub LeanCodeIsWeighed : Type 0
LeanCodeIsWeighed =
    (p : Program) → IsWellFormed p → IsLean p → (root help : ℕ) → help ≤ help_limit p →
    IsWeighed (lowered p) (own_of p) help root (silent_size (lowered p) (weight.size_of (lowered p) (own_of p) help) (most_silent p)) (most_silent p)

-- The open law of selected code with this bound, for routines of as many instructions
abbrev pub LeanCodeKeepsPace : Type 0
LeanCodeKeepsPace =
    (p : Program) → IsWellFormed p → IsLean p →
    (deep : ℕ → ℕ) (left : List Activation → ℕ) (most long root gives data_end : ℕ) (image : ℕ → ℕ) (marks : ℕ → List Action) (entries : ℕ → ℕ) (places : ℕ → ℕ → ℕ) →
    (selected : IsSelected (lowered p) (λ f. frame_home (fn_of (lowered p) f)) (own_of p) deep left most long root gives data_end image marks entries places) →
    selected.most_help ≤ help_limit p →
    IsOpenFunction image data_end marks gives (body_of (lowered p) root) (entries root) (deep root) (gap_of p root) × (gap_of p root ≤ longest_gap p)

-- The kernel's program is lean where the program is
abbrev pub KernelIsLean : Type 0
KernelIsLean = (p : Program) → IsLean p → IsLean (kernel_program p)

-- Eleven bounds of the kernel's program, each with the code around its bodies and a turn of the loop, and one turn more keep to the pace of the
-- program
abbrev pub KernelKeepsPace : Type 0
KernelKeepsPace = (p : Program) → length p.tasks ≤ 254 → 11 * (longest_gap (kernel_program p) + around + turn_of p) + turn_of p + 1 ≤ pace_of_program p
