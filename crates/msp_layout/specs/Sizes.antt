-- How many bytes each item of a function takes: jumps are as short as all of them can be (own).
use Rattle.std.specs.Prelude.{◌≡◌, ℕ, ◌+◌, ◌*◌, ◌<◌, ◌≤◌, ◌⊎◌, List, length, slice_index, sum, take}
use Rattle.msp_isa.specs.declared.code.Item.{Item}
use Rattle.msp_isa.specs.declared.code.Item.TheVariants as item
use Rattle.msp_isa.specs.declared.instr.Cond.{Cond}
use Rattle.msp_isa.specs.declared.instr.Cond.TheVariants.{Jmp, Jn}
use Rattle.msp_isa.specs.Encode.{encoded}
use Rattle.msp_isa.specs.Stands.{item_at}

-- the bytes of the longer form of a jump
abbrev pub long_bytes : Cond → ℕ
long_bytes Jmp = 4
long_bytes Jn = 8
long_bytes _ = 6

-- the sizes that an item may have
abbrev pub HasSize : Item → ℕ → Type 0
HasSize (item.Is i) n = n ≡ 2 * length (encoded i)
HasSize (item.Label l) n = n ≡ 0
HasSize (item.Jump c l) n = (n ≡ 2) ⊎ (n ≡ long_bytes c)
HasSize (item.CallFn f) n = n ≡ 4
HasSize (item.AddrOf f r) n = n ≡ 4

-- the bytes before an item
abbrev pub place : List ℕ → ℕ → ℕ
place sizes k = sum (take k sizes)

-- a jump of one word leads at most 512 words back from behind it, or 511 forth
pub record Reaches (from to : ℕ) : Type 0 where
  pub back : from + 2 ≤ to + 2 * 512
  pub forth : to ≤ from + 2 + 2 * 511

-- a choice of sizes with which each jump of one word reaches its label
pub record IsCorrect (items : List Item) (sizes : List ℕ) : Type 0 where
  pub len : length sizes ≡ length items
  pub each : (k : ℕ) → k < length items → HasSize (item_at items k) (slice_index sizes k)
  pub reaches : (k t l : ℕ) (c : Cond) → item_at items k ≡ item.Jump c l → item_at items t ≡ item.Label l → slice_index sizes k ≡ 2 →
      Reaches (place sizes k) (place sizes t)

-- and no other such choice makes any item shorter
pub record IsShortest (items : List Item) (sizes : List ℕ) : Type 0 where
  pub correct : IsCorrect items sizes
  pub least : (other : List ℕ) → IsCorrect items other → (k : ℕ) → slice_index sizes k ≤ slice_index other k
