-- Where `pop` gives bytes whatever its answers are, it does so in each loop run.
use Rattle.std.proofs.Common.{◌≡◌, ℕ, ◌≤◌, List, [], ◌∷◌, ◌++◌, Option, Some, None, ap}
use Rattle.std.specs.Prelude.{IsSomeAnd}
use Rattle.nm_base.specs.Behaviour.{Trace, Returned, play}
use Rattle.mote_devices.specs.declared.state.BoardState.{BoardState}
use Rattle.run_meaning.specs.State.{Context}
use Rattle.loop_runs.specs.Bodies.{Bodies}
use Rattle.loop_runs.specs.Loop.{LoopState, LoopMove, Pops, GivesPlace, LegalLoop, AreLegalLoop, IsLoopRun, after_loop, after_loop_all, loop_start}

module _ (K : Bodies) (pop : ℕ) where
  -- what is legal behind some moves
  legal_at : (s : LoopState) (front back : List LoopMove) (m : LoopMove) → AreLegalLoop K pop s (front ++ m ∷ back) → LegalLoop K pop (after_loop_all K pop s front) m
  legal_at s [] back m h = h.0
  legal_at s (x ∷ front) back m h = legal_at (after_loop K pop s x) front back m h.1

  module _ (gives : (turns value : ℕ) (answers : List ℕ) → (play (K.does pop turns) answers).why ≡ Returned value → value ≤ 255) where
    given : (c : Option Context) (k : ℕ) → IsSomeAnd c (GivesPlace K pop k) → k ≤ 255
    given None k h = absurd h
    given (Some c) k h = gives h.turns k c.answers (ap (λ (t : Trace). t.why) h.ended)

    pub bytes_given : (b : BoardState) (moves : List LoopMove) (k : ℕ) → IsLoopRun K pop b (moves ++ Pops k ∷ []) → k ≤ 255
    bytes_given b moves k run = given (after_loop_all K pop (loop_start K pop b) moves).run.base k (legal_at (loop_start K pop b) moves [] (Pops k) run).2
