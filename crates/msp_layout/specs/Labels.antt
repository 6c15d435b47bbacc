-- The places of labels, by a map (own).
use Rattle.std.specs.Prelude.{◌≡◌, ℕ, ◌<◌, List, Some}
use Rattle.std.specs.Ordering.{nat_cmp}
use Rattle.std.specs.BTreeMap.{BTreeMap, get}
use Rattle.msp_isa.specs.declared.code.Item.{Item}
use Rattle.msp_isa.specs.declared.code.Item.TheVariants.{Label}
use Rattle.msp_isa.specs.Stands.{item_at}

-- each label of the first items has a place, at which it stands
pub record HasLabels (items : List Item) (upto : ℕ) (labels : BTreeMap ℕ ℕ) : Type 0 where
  pub found : (l i : ℕ) → get nat_cmp labels l ≡ Some i → item_at items i ≡ Label l
  pub all : (i l : ℕ) → i < upto → item_at items i ≡ Label l → (j : ℕ) × (get nat_cmp labels l ≡ Some j)
