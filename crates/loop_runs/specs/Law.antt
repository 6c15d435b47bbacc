-- That each loop run of a kernel's program is a run of the source (own).
use Rattle.std.specs.Prelude.{◌≡◌, ℕ, false, List, [], Some, IsNone}
use Rattle.mote_devices.specs.declared.state.BoardState.{BoardState}
use Rattle.run_meaning.specs.declared.Move.{Move}
use Rattle.run_meaning.specs.State.{State, start, is_inside}
use Rattle.run_meaning.specs.Runs.{IsRun, after_all, shown_by}
use Rattle.loop_runs.specs.Bodies.{Bodies, source}
use Rattle.loop_runs.specs.Kernel.{Queue, Stands, IsKernel}
use Rattle.loop_runs.specs.Loop.{LoopState, LoopMove, IsFree, IsLoopRun, loop_start, after_loop_all, shown_by_loop}

-- the state of a loop run, and that of the source's run
pub record StandsFor (Q : Queue) (s : LoopState) (r : State) : Type 0 where
  pub board : s.run.board ≡ r.board
  pub stopped : s.run.stopped ≡ r.stopped
  -- of bytes other than the queue's
  pub store : (a : ℕ) → Q.is_byte a ≡ false → s.run.store a ≡ r.store a
  -- where no atomic statement is open
  pub queue : is_inside s.run.base ≡ false → is_inside s.run.handler ≡ false → Stands Q s.run.store r.tasks
  -- where pop found no task and no handler came since, the source has nothing to do
  pub rest : IsFree s → s.gave ≡ Some 255 → (r.tasks ≡ []) × IsNone r.base × IsNone r.handler

pub record IsRunOf (P K : Bodies) (pop : ℕ) (Q : Queue) (b : BoardState) (moves : List LoopMove) : Type 0 where
  pub r : List Move
  pub run : IsRun (source P) b r
  pub shown : shown_by (source P) (start (source P) b) r ≡ shown_by_loop K pop (loop_start K pop b) moves
  pub state : StandsFor Q (after_loop_all K pop (loop_start K pop b) moves) (after_all (source P) (start (source P) b) r)

abbrev pub LoopRuns : Type 0
LoopRuns = (P K : Bodies) (pop : ℕ) (Q : Queue) → IsKernel P K pop Q → (b : BoardState) (moves : List LoopMove) → IsLoopRun K pop b moves → IsRunOf P K pop Q b moves
