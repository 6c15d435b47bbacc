-- That selected code of a lowered program keeps to half of the program's pace (own).
use Rattle.std.specs.Prelude.{⊤, ℕ, ◌+◌, ◌-◌, ◌*◌, ◌/◌, ◌<◌, ◌≤◌, List, length, slice_index_or}
use Rattle.std.specs.List.{All}
use Rattle.nm_base.specs.declared.action.Action.{Action}
use Rattle.nesc_core.specs.Plain.{Ty, void, Stmt, eval, block, branch, loop, switch, break, continue, return, atomic, clear, here, Stmts, no_stmts, more_stmts, Program}
use Rattle.nesc_core.specs.Nodes.{nodes_of}
use Rattle.nesc_core.specs.Derefs.{ranges_of}
use Rattle.nesc_core.specs.Weights.{local_bytes, pace_of_program}
use Rattle.nesc_core.specs.WellFormed.{IsWellFormed, count_exprs, count_stmts}
use Rattle.core_meaning.specs.Layout.{size_of}
use Rattle.mid_code.specs.Machine.{Activation, fn_of}
use Rattle.lower_stmt.specs.Bodies.{lowered}
use Rattle.open_law.specs.Body.{IsOpenFunction}
use Rattle.msp_select.specs.Frames.{frame_home, own_bytes}
use Rattle.msp_select.specs.Sound.{IsPaced, IsSelected, body_of}
use Rattle.msp_select.specs.Weight.{IsWeighed, entry_size}
use Rattle.msp_select.specs.Weight as weight
use Rattle.lower_pace.specs.Silent.{silent_size}

-- ---- programs

-- n locals from x on take a byte at least, where locals have these types
abbrev pub TakeBytes : Program → List Ty → (n x : ℕ) → Type 0
TakeBytes p types n x = (k : ℕ) → x ≤ k → k < x + n → 1 ≤ size_of p (slice_index_or types k void)

-- a switch has no more cases than statements, and the locals that an inlined call clears take a byte at least
module _ (p : Program) (types : List Ty) where
  abbrev mutual
    pub IsMeasuredStmt : Stmt → Type 0
    IsMeasuredStmt (eval e) = ⊤
    IsMeasuredStmt (block list) = AreMeasuredStmts list
    IsMeasuredStmt (branch test a b) = IsMeasuredStmt a × IsMeasuredStmt b
    IsMeasuredStmt (loop first test step body) = IsMeasuredStmt body
    IsMeasuredStmt (switch e cases list) = (length cases ≤ count_stmts list) × AreMeasuredStmts list
    IsMeasuredStmt break = ⊤
    IsMeasuredStmt continue = ⊤
    IsMeasuredStmt (return e) = ⊤
    IsMeasuredStmt (atomic s) = IsMeasuredStmt s
    IsMeasuredStmt (clear x) = ⊤
    IsMeasuredStmt (here arguments first count body) = TakeBytes p types (count - count_exprs arguments) (first + count_exprs arguments) × IsMeasuredStmt body

    pub AreMeasuredStmts : Stmts → Type 0
    AreMeasuredStmts no_stmts = ⊤
    AreMeasuredStmts (more_stmts s rest) = IsMeasuredStmt s × AreMeasuredStmts rest

-- Nodes and bytes measure its code: each case begins at a statement of its own, and what is cleared without a node of its own takes a byte
pub record IsMeasured (p : Program) : Type 0 where
  pub bodies : All (λ b. IsMeasuredStmt p b.locals b.code) p.bodies

-- ---- numbers

-- the instructions of a routine that the pace affords
abbrev pub help_bound : Program → ℕ
help_bound p = 12000 + 140 * ranges_of p

-- what silent steps take, in a row
abbrev pub heaviest_of : Program → ℕ
heaviest_of p = nodes_of p * (14000 + 140 * ranges_of p + 60 * local_bytes p) + 40000

-- the instructions of one piece of code
abbrev pub longest_of : Program → ℕ
longest_of p = 20000 + help_bound p

-- what the pace leaves for the code around a body's
abbrev pub room : ℕ
room = 400000

-- ---- laws

abbrev pub own_of : Program → ℕ → ℕ
own_of p f = own_bytes (fn_of (lowered p) f)

-- The instructions of silent steps are a weight of lowered code
abbrev pub LoweredCodeIsWeighed : Type 0
LoweredCodeIsWeighed =
    (p : Program) → IsWellFormed p → IsMeasured p → (root most_help : ℕ) → most_help ≤ help_bound p →
    IsWeighed (lowered p) (own_of p) most_help root (silent_size (lowered p) (weight.size_of (lowered p) (own_of p) most_help) (heaviest_of p)) (heaviest_of p)

-- and their number falls
abbrev pub LoweredCodeIsPaced : Type 0
LoweredCodeIsPaced =
    (p : Program) → IsWellFormed p → IsMeasured p → (root : ℕ) → IsPaced (lowered p) root (silent_size (lowered p) (λ i. 1) (heaviest_of p)) (heaviest_of p)

-- the bound of instructions between two actions
abbrev pub between_actions : Program → ℕ → ℕ
between_actions p root = heaviest_of p + entry_size (own_of p) root + longest_of p + 2

-- the open law of selected code with this bound, which leaves room in half of the pace
abbrev pub SelectedCodeKeepsPace : Type 0
SelectedCodeKeepsPace =
    (p : Program) → IsWellFormed p → IsMeasured p →
    (deep : ℕ → ℕ) (left : List Activation → ℕ) (most long root gives data_end : ℕ) (image : ℕ → ℕ) (marks : ℕ → List Action) (entries : ℕ → ℕ) (places : ℕ → ℕ → ℕ) →
    (selected : IsSelected (lowered p) (λ f. frame_home (fn_of (lowered p) f)) (own_of p) deep left most long root gives data_end image marks entries places) →
    selected.most_help ≤ help_bound p →
    IsOpenFunction image data_end marks gives (body_of (lowered p) root) (entries root) (deep root) (between_actions p root)
    × (between_actions p root + room ≤ pace_of_program p / 2)
