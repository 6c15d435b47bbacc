-- Loop runs: runs of a kernel's program in which a loop starts the tasks, in place of the move Start (own; after TEP 106: the loop of the scheduler takes one task after another, and sleeps where there is none).
use Rattle.std.specs.Prelude.{⊤, ◌≡◌, ◌≢◌, ℕ, ◌<◌, nat_lt, if◌then◌else◌, false, List, [], ◌∷◌, ◌++◌, Option, Some, None, IsNone, IsSomeAnd}
use Rattle.mote_devices.specs.declared.state.BoardState.{BoardState}
use Rattle.mote_devices.specs.declared.shown.Shown.{Shown}
use Rattle.nm_base.specs.Behaviour.{Returned, play}
use Rattle.run_meaning.specs.declared.Move.{Move}
use Rattle.run_meaning.specs.declared.Move.TheVariants.{Enter, Start, Finish}
use Rattle.run_meaning.specs.State.{Context, State, start, new_context}
use Rattle.run_meaning.specs.Runs.{Legal, after, shown_of, body_at}
use Rattle.loop_runs.specs.Bodies.{Bodies, source}

-- a run's state, and what the last base gave, where it was pop
pub record LoopState : Type 0 where
  pub run : State
  pub gave : Option ℕ

-- a move as in every run, or one of the loop: it calls pop, pop ends and gives k, or the task at place k starts
pub data LoopMove : Type 0 where
  Plain : Move → LoopMove
  Calls : LoopMove
  Pops : (k : ℕ) → LoopMove
  Takes : (k : ℕ) → LoopMove

-- behind a handler, which may post, it counts no more that none was found
abbrev pub woken : Option ℕ → Option ℕ
woken None = None
woken (Some k) = if nat_lt k 255 then Some k else None

abbrev pub gave_after : Move → Option ℕ → Option ℕ
gave_after (Enter line) gave = woken gave
gave_after _ gave = gave

-- the loop goes on where there is no base and no handler
pub record IsFree (s : LoopState) : Type 0 where
  pub going : s.run.stopped ≡ false
  pub no_base : IsNone s.run.base
  pub no_handler : IsNone s.run.handler

module _ (K : Bodies) (pop : ℕ) where
  abbrev pub IsNotPop : Option Context → Type 0
  IsNotPop None = ⊤
  IsNotPop (Some c) = c.body ≢ Some pop

  -- Start is the loop's, and so is the end of pop; the loop calls pop with interrupts off
  abbrev pub IsNoneOfLoop : LoopState → Move → Type 0
  IsNoneOfLoop s (Start k) = ⊥
  IsNoneOfLoop s Finish = IsNotPop s.run.base
  IsNoneOfLoop s (Enter line) = IsNotPop s.run.base
  IsNoneOfLoop s _ = ⊤

  -- pop has ended and gives k
  pub record GivesPlace (k : ℕ) (c : Context) : Type 0 where
    pub is_pop : c.body ≡ Some pop
    pub turns : ℕ
    pub ended : play (K.does pop turns) c.answers ≡ record { actions = c.made; why = Returned k }

  abbrev pub LegalLoop : LoopState → LoopMove → Type 0
  LegalLoop s (Plain m) = Legal (source K) s.run m × IsNoneOfLoop s m
  LegalLoop s Calls = IsFree s × IsNone s.gave
  LegalLoop s (Pops k) = (s.run.stopped ≡ false) × IsNone s.run.handler × IsSomeAnd s.run.base (GivesPlace k)
  LegalLoop s (Takes k) = IsFree s × (s.gave ≡ Some k) × k < 255

  abbrev pub after_loop : LoopState → LoopMove → LoopState
  after_loop s (Plain m) = record { run = after (source K) s.run m; gave = gave_after m s.gave }
  after_loop s Calls = record { run = record s.run { base = Some (new_context (Some pop)) }; gave = None }
  after_loop s (Pops k) = record { run = record s.run { base = None }; gave = Some k }
  after_loop s (Takes k) = record { run = record s.run { base = body_at (K.task k) }; gave = None }

  abbrev pub shown_of_loop : LoopState → LoopMove → List Shown
  shown_of_loop s (Plain m) = shown_of s.run m
  shown_of_loop s _ = []

  -- over a list of moves
  abbrev pub after_loop_all : LoopState → List LoopMove → LoopState
  after_loop_all s [] = s
  after_loop_all s (m ∷ moves) = after_loop_all (after_loop s m) moves

  abbrev pub shown_by_loop : LoopState → List LoopMove → List Shown
  shown_by_loop s [] = []
  shown_by_loop s (m ∷ moves) = shown_of_loop s m ++ shown_by_loop (after_loop s m) moves

  abbrev pub AreLegalLoop : LoopState → List LoopMove → Type 0
  AreLegalLoop s [] = ⊤
  AreLegalLoop s (m ∷ moves) = LegalLoop s m × AreLegalLoop (after_loop s m) moves

  abbrev pub loop_start : BoardState → LoopState
  loop_start b = record { run = start (source K) b; gave = None }

  -- a loop run from this board
  abbrev pub IsLoopRun : BoardState → List LoopMove → Type 0
  IsLoopRun b moves = AreLegalLoop (loop_start b) moves
