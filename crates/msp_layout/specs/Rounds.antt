-- How sizes grow, round by round, until no jump of one word misses its label (own).
use Rattle.std.specs.Prelude.{◌≡◌, ℕ, ◌+◌, ◌*◌, ◌<◌, ◌≤◌, nat_le, ◌==◌, ◌&&◌, not, if◌then◌else◌, Bool, List, length, slice_index}
use Rattle.msp_isa.specs.declared.code.Item.{Item}
use Rattle.msp_isa.specs.declared.code.Item.TheVariants as item
use Rattle.msp_isa.specs.Encode.{encoded, IsWritten}
use Rattle.msp_isa.specs.Stands.{item_at, LeadsTo}
use Rattle.msp_layout.specs.Sizes.{long_bytes, place, HasSize, IsCorrect}

-- the instructions among the items have words
abbrev pub IsWrittenItem : Item → Type 0
IsWrittenItem (item.Is i) = IsWritten i
IsWrittenItem _ = Unit {0}

-- the least size of an item
abbrev pub short_bytes : Item → ℕ
short_bytes (item.Is i) = 2 * length (encoded i)
short_bytes (item.Label l) = 0
short_bytes (item.Jump c l) = 2
short_bytes (item.CallFn f) = 4
short_bytes (item.AddrOf f r) = 4

abbrev pub reaches : (from to : ℕ) → Bool
reaches from to = nat_le (from + 2) (to + 1024) && nat_le to (from + 1024)

-- a jump of one word that misses its label takes the longer form
abbrev pub widened : Item → (size from to : ℕ) → ℕ
widened (item.Jump c l) size from to = if (size == 2) && not (reaches from to) then long_bytes c else size
widened _ size from to = size

-- the places of the labels of jumps
pub record AreTargets (items : List Item) (targets : List ℕ) : Type 0 where
  pub len : length targets ≡ length items
  pub within : (k : ℕ) → k < length items → slice_index targets k < length items
  pub lead : (k : ℕ) → k < length items → LeadsTo items (item_at items k) (slice_index targets k)

-- the bytes before each item, and those of all
pub record ArePlaces (sizes places : List ℕ) : Type 0 where
  pub len : length places ≡ length sizes + 1
  pub each : (k : ℕ) → k ≤ length sizes → slice_index places k ≡ place sizes k

-- sizes that no correct choice is below
pub record AreLow (items : List Item) (sizes : List ℕ) : Type 0 where
  pub len : length sizes ≡ length items
  pub each : (k : ℕ) → k < length items → HasSize (item_at items k) (slice_index sizes k)
  pub low : (other : List ℕ) → IsCorrect items other → (k : ℕ) → slice_index sizes k ≤ slice_index other k

-- one round
abbrev pub AreWidened : List Item → (targets places old new : List ℕ) → Type 0
AreWidened items targets places old new = (k : ℕ) → k < length items →
    slice_index new k ≡ widened (item_at items k) (slice_index old k) (slice_index places k) (slice_index places (slice_index targets k))
