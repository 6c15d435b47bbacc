-- Loop runs move by move: which move of the source each one is, and how many in a row are none (own).
use Rattle.std.specs.Prelude.{⊤, ◌≡◌, ◌≢◌, ◌↔◌, ◌⊎◌, ℕ, zero, suc, ◌+◌, ◌*◌, ◌≤◌, max, Bool, true, false, not, ◌||◌, if◌then◌else◌, List, [], ◌∷◌, length, Option, Some, None, is_some, IsNone}
use Rattle.nm_base.specs.Lists.{number_of}
use Rattle.nm_base.specs.declared.action.Action.TheVariants.{End}
use Rattle.mote_devices.specs.declared.state.BoardState.{BoardState}
use Rattle.mote_devices.specs.declared.shown.Given.{Given}
use Rattle.core_meaning.specs.Source.{Source}
use Rattle.run_meaning.specs.declared.Move.{Move}
use Rattle.run_meaning.specs.declared.Move.TheVariants.{Arrive, Do, Enter, Finish}
use Rattle.run_meaning.specs.State.{Context, State, start, is_inside}
use Rattle.run_meaning.specs.Runs.{AreLegal, after, after_all, shown_by}
use Rattle.run_meaning.specs.Steps.{is_access}
use Rattle.loop_runs.specs.Bodies.{Bodies, source}
use Rattle.loop_runs.specs.Kernel.{Queue, IsKernel}
use Rattle.loop_runs.specs.Loop.{LoopState, LoopMove, Plain, Calls, Pops, LegalLoop, loop_start, after_loop, shown_of_loop}
use Rattle.loop_runs.specs.Law.{StandsFor}

-- so many moves in a row may be none of the source's
abbrev pub most : Queue → ℕ
most Q = max (Q.posting + 1) Q.taking + 4

-- arrivals do not count
abbrev pub hidden_of : LoopMove → ℕ
hidden_of (Plain (Arrive g)) = 0
hidden_of _ = 1

-- and not in the source
abbrev pub own_moves : List Move → ℕ
own_moves [] = 0
own_moves (Arrive g ∷ ms) = own_moves ms
own_moves (m ∷ ms) = suc (own_moves ms)

abbrev pub IsArrival : LoopMove → Type 0
IsArrival (Plain (Arrive g)) = ⊤
IsArrival _ = ⊥

abbrev pub IsPop : LoopMove → Type 0
IsPop (Pops k) = ⊤
IsPop _ = ⊥

abbrev pub is_empty : {A : Type 0} → List A → Bool
is_empty [] = true
is_empty (x ∷ xs) = false

-- no base, or pop
abbrev pub IsAside : (pop : ℕ) → Option Context → Type 0
IsAside pop None = ⊤
IsAside pop (Some c) = c.body ≡ Some pop

abbrev pub IsPopping : (pop : ℕ) → Option Context → Type 0
IsPopping pop None = ⊥
IsPopping pop (Some c) = c.body ≡ Some pop

-- the moves until pop has ended: behind its statement one, though the source has started a task there
abbrev pub shut_of : Option Context → (hidden : ℕ) → ℕ
shut_of None hidden = 0
shut_of (Some c) hidden = if is_inside (Some c) || is_empty c.made then hidden else 1

-- pop, behind its statement
abbrev pub HasPopped : (pop : ℕ) → Option Context → Type 0
HasPopped pop None = ⊥
HasPopped pop (Some c) = (c.body ≡ Some pop) × (c.made ≢ []) × (is_inside (Some c) ≡ false)

-- no base, or one that has done nothing
abbrev pub IsFresh : Option Context → Type 0
IsFresh None = ⊤
IsFresh (Some c) = c.made ≡ []

-- whether a move completes an effect of the base: an access outside atomic statements, or the end of one
abbrev pub completes : Source → State → Move → ℕ
completes P s m = if is_inside s.base then number_of (not (is_inside (after P s m).base)) else number_of (is_access m)

abbrev pub completed : Source → State → List Move → ℕ
completed P s [] = 0
completed P s (m ∷ ms) = completes P s m + completed P (after P s m) ms

abbrev pub loop_completes : Bodies → LoopState → LoopMove → ℕ
loop_completes K s (Plain m) = completes (source K) s.run m
loop_completes K s _ = 0

module _ (P K : Bodies) (pop : ℕ) (Q : Queue) where
  -- a loop run has come to s, the source's run to r, and at most so many moves are none of the source's until one is
  pub record IsBeside (s : LoopState) (r : State) (hidden : ℕ) : Type 0 where
    pub low : hidden ≤ most Q
    pub stands : StandsFor Q s r
    pub handlers : is_some s.run.handler ≡ is_some r.handler
    -- a task starts in the source where pop has taken it
    pub aside : IsAside pop s.run.base → IsFresh r.base
    pub inside : is_inside r.base ≡ true → is_inside s.run.base ≡ true
    pub gave : s.gave ≢ None → IsNone s.run.base
    -- in a statement of the queue that the source is not in
    pub under : IsNone s.run.handler → is_inside s.run.base ≡ true → is_inside r.base ≡ false → 1 ≤ hidden
    pub popped : HasPopped pop s.run.base → (m : LoopMove) → LegalLoop K pop s m → IsArrival m ⊎ IsPop m

  -- the loop's move m is the moves ms of the source, which is at most one
  pub record IsFollowed (s : LoopState) (m : LoopMove) (r : State) (ms : List Move) (hidden hidden' : ℕ) : Type 0 where
    pub legal : AreLegal (source P) r ms
    pub shown : shown_by (source P) r ms ≡ shown_of_loop K pop s m
    pub few : length ms ≤ 1
    pub counted : hidden' + hidden_of m ≤ hidden + (most Q + 1) * own_moves ms
    -- in pop, whatever the source does
    pub shuts : IsPopping pop s.run.base → shut_of (after_loop K pop s m).run.base hidden' + hidden_of m ≤ shut_of s.run.base hidden
    pub arrives : (g : Given) → m ≡ Plain (Arrive g) → (ms ≡ Arrive g ∷ []) × (hidden' ≡ hidden)
    pub enters : (v : ℕ) → (ms ≡ Enter v ∷ []) ↔ (m ≡ Plain (Enter v))
    pub finishes : ms ≡ Finish ∷ [] → m ≡ Plain Finish
    pub calls : m ≡ Calls → ms ≡ []
    -- where no handler runs, the source completes no more than the kernel, and beside pop nothing
    pub effects : IsNone r.handler → completed (source P) r ms ≤ loop_completes K s m
    pub aside : IsNone r.handler → IsAside pop s.run.base → completed (source P) r ms ≡ 0
    -- what a statement of the queue does comes in the source with its End
    pub closes : IsNone s.run.handler → is_inside s.run.base ≡ true → is_inside r.base ≡ false
        → (ms ≡ []) ⊎ (IsArrival m ⊎ ((m ≡ Plain (Do End)) × (is_inside (after_loop K pop s m).run.base ≡ false)))

  -- a relation of both runs that each move keeps
  pub record Follows (Rel : LoopState → State → ℕ → Type 0) : Type 0 where
    pub first : (b : BoardState) → (hidden : ℕ) × Rel (loop_start K pop b) (start (source P) b) hidden
    pub beside : (s : LoopState) (r : State) (hidden : ℕ) → Rel s r hidden → IsBeside s r hidden
    pub step : (s : LoopState) (r : State) (hidden : ℕ) (m : LoopMove) → Rel s r hidden → LegalLoop K pop s m
        → (ms : List Move) × (hidden' : ℕ) × IsFollowed s m r ms hidden hidden' × Rel (after_loop K pop s m) (after_all (source P) r ms) hidden'

  -- whatever the next so many moves are
  abbrev pub CanFollow : (moves : ℕ) → LoopState → State → (hidden : ℕ) → Type 0
  CanFollow zero s r hidden = IsBeside s r hidden
  CanFollow (suc n) s r hidden =
      IsBeside s r hidden × ((m : LoopMove) → LegalLoop K pop s m
      → (ms : List Move) × (hidden' : ℕ) × IsFollowed s m r ms hidden hidden' × CanFollow n (after_loop K pop s m) (after_all (source P) r ms) hidden')

abbrev pub LoopsAreFollowed : Type 0
LoopsAreFollowed = (P K : Bodies) (pop : ℕ) (Q : Queue) → IsKernel P K pop Q → (b : BoardState) (n : ℕ) → (hidden : ℕ) × CanFollow P K pop Q n (loop_start K pop b) (start (source P) b) hidden
