-- The items so far are widened, the others are as they were, and the sum tells whether one was.
use Rattle.std.proofs.Common.{◌≡◌, ℕ, ◌<◌, ◌≤◌, Bool, true, false, List, length, sum, get_or}
use Rattle.msp_isa.specs.declared.code.Item.{Item}
use Rattle.msp_isa.specs.Stands.{item_at}
use Rattle.msp_layout.specs.Rounds.{widened}
use Rattle.msp_layout.proofs.sizes.widen.Given as goal

pub record AreSoFar (items : List Item) (targets places old : List ℕ) (k : ℕ) (sizes : List ℕ) (grown : Bool) : Type 0 where
  pub len : length sizes ≡ length old
  pub before : (j : ℕ) → j < k → get_or sizes j 0 ≡ widened (item_at items j) (get_or old j 0) (get_or places j 0) (get_or places (get_or targets j 0) 0)
  pub after : (j : ℕ) → k ≤ j → get_or sizes j 0 ≡ get_or old j 0
  pub same : grown ≡ false → sizes ≡ old
  pub more : grown ≡ true → sum old < sum sizes

abbrev pub invariant-loop-k : goal.invariant-loop-k
invariant-loop-k l = AreSoFar l.items l.targets l.places l.initial.sizes l.k l.sizes l.grown
