-- Why moves are refused: the first of them that is not legal after those before it (own).
use Rattle.std.specs.Prelude.{⊤, ◌≡◌, ℕ, zero, suc, List, [], ◌∷◌, ◌++◌}
use Rattle.mote_devices.specs.declared.shown.Shown.{Shown}
use Rattle.mote_devices.specs.declared.state.BoardState.{BoardState}
use Rattle.nesc_core.specs.Plain.{Program}
use Rattle.core_meaning.specs.Source.{Source}
use Rattle.core_meaning.specs.SourceOf.{source_of}
use Rattle.run_meaning.specs.declared.Move.{Move}
use Rattle.run_meaning.specs.State.{State, start}
use Rattle.run_meaning.specs.Runs.{Legal, after, shown_of}
use Rattle.run_checker.specs.declared.run_fault.RunFault.{RunFault}
use Rattle.run_checker.specs.declared.run_fault.RunFault.TheVariants.{BadMove, NoMemory}

-- move k is not legal after those before it, and each of these is
abbrev pub IsFirstBad : Source → State → List Move → (k : ℕ) → Type 0
IsFirstBad P s [] k = ⊥
IsFirstBad P s (m ∷ ms) zero = Legal P s m → ⊥
IsFirstBad P s (m ∷ ms) (suc k) = Legal P s m × IsFirstBad P (after P s m) ms k

abbrev pub IsWhy : Program → BoardState → List Move → RunFault → Type 0
IsWhy p b moves (BadMove k) = IsFirstBad (source_of p) (start (source_of p) b) moves k
IsWhy p b moves NoMemory = ⊤

-- ---- one move

-- a legal move leads from s to t, and with what it shows the events are ys
pub record IsTaken (P : Source) (m : Move) (s t : State) (xs ys : List Shown) : Type 0 where
  pub legal : Legal P s m
  pub state : t ≡ after P s m
  pub shown : ys ≡ xs ++ shown_of s m

-- move k is not legal
abbrev pub IsNoMove : Source → State → Move → (k : ℕ) → RunFault → Type 0
IsNoMove P s m k (BadMove j) = (j ≡ k) × (Legal P s m → ⊥)
IsNoMove P s m k NoMemory = ⊤
