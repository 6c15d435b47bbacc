-- A source by what its bodies do (own).
use Rattle.std.specs.Prelude.{ℕ, List, Option}
use Rattle.nm_base.specs.Behaviour.{Behaviour, performed}
use Rattle.core_meaning.specs.Source.{Source}

pub record Bodies : Type 0 where
  -- what a body does, where each loop makes at most n turns
  pub does : (body n : ℕ) → Behaviour
  pub boot : ℕ
  -- the body of each task, by the task's place
  pub task : ℕ → Option ℕ
  -- the body of each line's handler
  pub handler : ℕ → Option ℕ
  -- where a posted task goes in the list
  pub insert : List ℕ → ℕ → List ℕ

abbrev pub source : Bodies → Source
source P = record { act = λ body answers n. performed (P.does body n) answers; boot = P.boot; task = P.task; handler = P.handler; insert = P.insert }
