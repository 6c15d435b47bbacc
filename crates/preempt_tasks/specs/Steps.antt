-- A relation between a loop run's state and a mote's result, kept slot by slot with three numbers (own).
use Rattle.std.specs.Prelude.{◌≡◌, ◌≢◌, ℕ, suc, ◌+◌, ◌*◌, ◌≤◌, true, false, if◌then◌else◌, List, [], ◌∷◌, ◌++◌, length, Option, Some, None, IsNone}
use Rattle.nm_base.specs.declared.memory_map.TheConstants.{RAM_END}
use Rattle.nm_base.specs.declared.action.Action.TheVariants.{Begin, End}
use Rattle.mote_devices.specs.declared.state.BoardState.{BoardState}
use Rattle.mote_devices.specs.Board.{IsRequested, line_of}
use Rattle.run_meaning.specs.declared.Move.TheVariants.{Arrive, Do, Finish}
use Rattle.run_meaning.specs.State.{Context, is_inside}
use Rattle.run_meaning.specs.Steps.{IsEnter}
use Rattle.mote_bus.specs.Mote.{Result}
use Rattle.preempt_core.specs.Law.{Bounds, is_waiting, one_effect}
use Rattle.loop_runs.specs.Bodies.{Bodies, source}
use Rattle.loop_runs.specs.Loop.{LoopState, LoopMove, Plain, Pops, Takes, IsFree, IsNotPop, AreLegalLoop, after_loop, after_loop_all, loop_start, shown_by_loop}
use Rattle.loop_runs.specs.Steps.{IsAside}
use Rattle.preempt_tasks.specs.Bodies.{Sizes, stack_of}

-- the instructions of one gap between moves, and those of the loop from what `pop` gave to the task's start
abbrev pub gap : Sizes → ℕ
gap z = z.bound + 40

abbrev pub turn : Sizes → ℕ
turn z = 3 * length z.tasks + 20

-- the instructions that moves pay for: arrivals are none of the mote's
abbrev pub cost_of : Sizes → LoopMove → ℕ
cost_of z (Pops k) = turn z
cost_of z (Plain (Arrive g)) = 0
cost_of z _ = gap z

abbrev pub cost : Sizes → List LoopMove → ℕ
cost z [] = 0
cost z (m ∷ moves) = cost_of z m + cost z moves

-- the moves of the loop among these
abbrev pub loop_moves : List LoopMove → ℕ
loop_moves [] = 0
loop_moves (Plain m ∷ moves) = loop_moves moves
loop_moves (m ∷ moves) = suc (loop_moves moves)

-- the beginnings and ends of atomic statements among them
abbrev pub mark_of : LoopMove → ℕ
mark_of (Plain (Do Begin)) = 1
mark_of (Plain (Do End)) = 1
mark_of _ = 0

abbrev pub marks_of : List LoopMove → ℕ
marks_of [] = 0
marks_of (m ∷ moves) = mark_of m + marks_of moves

-- the ends of bodies and the starts of tasks
abbrev pub turn_of : LoopMove → ℕ
turn_of (Plain Finish) = 1
turn_of (Takes k) = 1
turn_of _ = 0

abbrev pub turns_of : List LoopMove → ℕ
turns_of [] = 0
turns_of (m ∷ moves) = turn_of m + turns_of moves

-- the base is a body of the source
abbrev pub IsSourceBody : (pop : ℕ) → Option Context → Type 0
IsSourceBody pop None = ⊥
IsSourceBody pop (Some c) = c.body ≢ Some pop

abbrev pub IsEntry : LoopMove → Type 0
IsEntry (Plain m) = IsEnter m
IsEntry _ = ⊥

module _ (K : Bodies) (pop : ℕ) where
  -- line v stays requested, from before these moves to after them, with no Enter and no handler context
  abbrev pub WaitsThrough : ℕ → LoopState → List LoopMove → Type 0
  WaitsThrough v s [] = IsRequested s.run.board v × IsNone s.run.handler
  WaitsThrough v s (m ∷ moves) = IsRequested s.run.board v × IsNone s.run.handler × (IsEntry m → ⊥) × WaitsThrough v (after_loop K pop s m) moves

  -- no move is a Begin or an End of the base, or lies between them
  abbrev pub StaysOut : LoopState → List LoopMove → Type 0
  StaysOut s [] = is_inside s.run.base ≡ false
  StaysOut s (m ∷ moves) = (is_inside s.run.base ≡ false) × StaysOut (after_loop K pop s m) moves

  -- the effects of the base that a move completes while a line waits
  abbrev pub effect_of : LoopState → LoopMove → ℕ
  effect_of s (Plain m) = if is_waiting s.run then one_effect (source K) s.run m else 0
  effect_of s _ = 0

  abbrev pub effects_of : LoopState → List LoopMove → ℕ
  effects_of s [] = 0
  effects_of s (m ∷ moves) = effect_of s m + effects_of (after_loop K pop s m) moves

  -- what one slot owes for promptness: three facts on one number
  pub record IsPromptSlot (s : LoopState) (moves : List LoopMove) (before later : ℕ) : Type 0 where
    pub low : effects_of s moves + later ≤ 7
    pub counted : effects_of s moves ≤ before
    pub falls : (v : ℕ) → WaitsThrough v s moves → effects_of s moves + later ≤ before

  -- One slot: its moves, from the loop state and the mote's result before it to the mote's result after it
  pub record IsLoopSlot (z : Sizes) (s : LoopState) (moves : List LoopMove) (m m' : Result) (q q' : Bounds) : Type 0 where
    pub legal : AreLegalLoop K pop s moves
    pub shown : m'.shown ≡ m.shown ++ shown_by_loop K pop s moves
    pub single : loop_moves moves ≤ 1
    pub one : m'.ran ≤ m.ran + 1
    pub spent : m'.ran + q'.left ≤ m.ran + q.left + cost z moves
    -- in `pop`, which runs with the gate closed, nothing is owed
    pub few : IsNotPop K pop s.run.base → IsPromptSlot s moves q.effects q'.effects
    pub prompt : IsNotPop K pop s.run.base → (v : ℕ) → WaitsThrough v s moves → StaysOut s moves → m'.ran + q'.closed ≤ m.ran + q.closed
    -- where the gate is open no line waits, unless the mote has stopped
    pub no_line : (v : ℕ) → WaitsThrough v s moves → q.closed ≡ 0 → (m'.ran ≡ m.ran) × (q'.closed ≡ 0)
    pub marks : marks_of moves ≤ 1
    -- the gate is open where a body has ended or a task has started,
    pub turns : 1 ≤ turns_of moves → q'.closed ≡ 0
    -- one instruction behind an atomic statement,
    pub soon : IsSourceBody pop s.run.base → IsNone s.run.handler → q.closed ≡ 1 → q'.closed ≡ 0
    -- and outside of them one instruction later at most, once the body has moved
    pub settles : IsSourceBody pop s.run.base → IsNone s.run.handler → 1 ≤ cost z moves → is_inside (after_loop_all K pop s moves).run.base ≡ false → q'.closed ≤ 1
    -- in pop no task starts, and no effect is left
    pub apart : (IsNotPop K pop s.run.base → ⊥) → (q'.effects ≡ 0) × (turns_of moves ≡ 0)

  pub record AreLowIn (z : Sizes) (s : LoopState) (q : Bounds) : Type 0 where
    pub left : s.gave ≡ None → q.left ≤ gap z
    pub rear : s.gave ≢ None → q.left ≤ turn z
    pub effects : q.effects ≤ 3
    pub aside : IsAside pop s.run.base → q.effects ≡ 0
    pub closed : q.closed ≤ turn z

  -- the relation: what holds of the loop state and the slots' result after n slots
  pub record KeepsPace (z : Sizes) (b : BoardState) (m : ℕ → Result) (Rel : ℕ → LoopState → Bounds → Type 0) : Type 0 where
    pub none : (m 0).shown ≡ []
    pub from : Bounds
    pub first : Rel 0 (loop_start K pop b) from
    pub low : (n : ℕ) (s : LoopState) (q : Bounds) → Rel n s q → AreLowIn z s q
    pub rest : (n : ℕ) (s : LoopState) (q : Bounds) → Rel n s q → (m n).off ≡ true → IsFree s × (s.gave ≡ Some 255) × (q.left ≡ 0)
    pub wake : (n : ℕ) (s : LoopState) (q : Bounds) → Rel n s q → (m n).idle ≡ true → line_of s.run.board ≡ None
    pub deep : (n : ℕ) (s : LoopState) (q : Bounds) → Rel n s q → RAM_END ≤ (m n).least + stack_of z
    pub step : (n : ℕ) (s : LoopState) (q : Bounds) → Rel n s q → (moves : List LoopMove) × (q' : Bounds) × Rel (suc n) (after_loop_all K pop s moves) q' × IsLoopSlot z s moves (m n) (m (suc n)) q q'
