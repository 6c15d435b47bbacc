-- The targets so far.
use Rattle.std.proofs.Common.{◌≡◌, ℕ, ◌<◌, List, length, get_or}
use Rattle.msp_isa.specs.declared.code.Item.{Item}
use Rattle.msp_isa.specs.Stands.{item_at, LeadsTo}
use Rattle.msp_layout.specs.Labels.{HasLabels}
use Rattle.msp_layout.proofs.labels.targets_of.Given as goal

pub record AreSoFar (items : List Item) (k : ℕ) (targets : List ℕ) : Type 0 where
  pub len : length targets ≡ k
  pub within : (j : ℕ) → j < k → get_or targets j 0 < length items
  pub lead : (j : ℕ) → j < k → LeadsTo items (item_at items j) (get_or targets j 0)

abbrev pub invariant-loop-k : goal.invariant-loop-k
invariant-loop-k l = HasLabels l.items (length l.items) l.labels × AreSoFar l.items l.k l.targets.items
