-- What is promised of an image with the loop of tasks (own).
use Rattle.std.specs.Prelude.{◌≡◌, ℕ, ◌+◌, ◌≤◌, true, List, take, length, Some, None}
use Rattle.nm_base.specs.declared.memory_map.TheConstants.{RAM_END}
use Rattle.nm_base.specs.declared.action.Action.{Action}
use Rattle.mote_devices.specs.declared.state.BoardState.{BoardState}
use Rattle.mote_devices.specs.WordBoards.{AreWordRows, IsWordBoard, IsWordGiven}
use Rattle.mote_devices.specs.declared.shown.Due.{Due}
use Rattle.mote_devices.specs.Board.{line_of}
use Rattle.mote_bus.specs.Mote.{Result, mote}
use Rattle.loop_runs.specs.Bodies.{Bodies}
use Rattle.loop_runs.specs.Loop.{LoopMove, IsFree, IsLoopRun, after_loop_all, loop_start, shown_by_loop}
use Rattle.preempt_tasks.specs.Bodies.{Sizes, IsTaskImage, stack_of}

-- Some loop run r, of which the first c s moves stand for the first s slots. m s is what s slots gave
pub record IsLoopOf (K : Bodies) (pop : ℕ) (b : BoardState) (m : ℕ → Result) (n : ℕ) : Type 0 where
  pub r : List LoopMove
  pub c : ℕ → ℕ
  pub run : IsLoopRun K pop b r
  pub from_none : c 0 ≡ 0
  pub rises : (s t : ℕ) → s ≤ t → t ≤ n → c s ≤ c t
  pub to_all : c n ≡ length r
  -- What the first moves show is what the first slots showed.
  pub events : (s : ℕ) → s ≤ n → shown_by_loop K pop (loop_start K pop b) (take (c s) r) ≡ (m s).shown
  -- It sleeps only where `pop` gave 255 and no handler came since.
  pub rest : (s : ℕ) → s ≤ n → (m s).off ≡ true → IsFree (after_loop_all K pop (loop_start K pop b) (take (c s) r)) × ((after_loop_all K pop (loop_start K pop b) (take (c s) r)).gave ≡ Some 255)
  -- It is idle only where no line is requested.
  pub wake : (s : ℕ) → s ≤ n → (m s).idle ≡ true → line_of (after_loop_all K pop (loop_start K pop b) (take (c s) r)).run.board ≡ None

-- What a mote does that has such an image is a loop run of the kernel's program, on every such board, with every schedule of words, after every number of slots; and
-- its stack stays within the sum of the depths
abbrev pub RunsAsLoop : Type 0
RunsAsLoop =
    (K : Bodies) (pop : ℕ) (image : ℕ → ℕ) (marks : ℕ → List Action) (z : Sizes) (b : BoardState) (rows : List Due) (n : ℕ) →
    IsWordBoard b → AreWordRows IsWordGiven rows → IsTaskImage K pop image marks z →
    IsLoopOf K pop b (mote image b rows) n × (RAM_END ≤ (mote image b rows n).least + stack_of z)
