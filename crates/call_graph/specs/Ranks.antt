-- Ranks of bodies, and how one more body gets one (own; a body goes behind those that it calls, as in a topological order).
use Rattle.std.specs.Prelude.{◌≡◌, ℕ, ◌+◌, ◌<◌, Bool, true, false, ◌&&◌, if◌then◌else◌, List, [], ◌∷◌, length, Option, Some, None, slice_index_or}
use Rattle.std.specs.List.{list_all}
use Rattle.call_graph.specs.Paths.{IsIn}
use Rattle.call_graph.specs.Graph.{row_at}

-- the rank of a body that has one
abbrev pub rank_of : List (Option ℕ) → ℕ → Option ℕ
rank_of ranks f = slice_index_or ranks f None

abbrev pub is_some : Option ℕ → Bool
is_some None = false
is_some (Some r) = true

abbrev pub is_none : Option ℕ → Bool
is_none None = true
is_none (Some r) = false

abbrev pub is_ranked : List (Option ℕ) → ℕ → Bool
is_ranked ranks f = is_some (rank_of ranks f)

-- there is such a body, and it has no rank
abbrev pub is_free : List (Option ℕ) → ℕ → Bool
is_free ranks f = is_none (slice_index_or ranks f (Some 0))

-- a body without a rank, of which all callees have one
abbrev pub can_settle : List (List ℕ) → List (Option ℕ) → ℕ → Bool
can_settle table ranks f = is_free ranks f && list_all (is_ranked ranks) (row_at table f)

abbrev pub count_ranked : List (Option ℕ) → ℕ
count_ranked [] = 0
count_ranked (r ∷ ranks) = if is_some r then 1 + count_ranked ranks else count_ranked ranks

-- each body with a rank has a lower one than `count`, and its callees have lower ones
pub record AreSettled (table : List (List ℕ)) (ranks : List (Option ℕ)) (count : ℕ) : Type 0 where
  pub size : length ranks ≡ length table
  pub counted : count_ranked ranks ≡ count
  pub low : (f r : ℕ) → rank_of ranks f ≡ Some r → r < count
  pub falls : (f g r : ℕ) → rank_of ranks f ≡ Some r → IsIn g (row_at table f) → (s : ℕ) × (rank_of ranks g ≡ Some s) × (s < r)

-- no body can get one
abbrev pub AreStuck : List (List ℕ) → List (Option ℕ) → Type 0
AreStuck table ranks = (f : ℕ) → f < length table → can_settle table ranks f ≡ false

-- what ranks are: below the number of bodies, and above those of all callees; a body without one calls a body without one
pub record AreRanks (table : List (List ℕ)) (ranks : List (Option ℕ)) : Type 0 where
  pub size : length ranks ≡ length table
  pub low : (f r : ℕ) → rank_of ranks f ≡ Some r → r < length table
  pub falls : (f g r : ℕ) → rank_of ranks f ≡ Some r → IsIn g (row_at table f) → (s : ℕ) × (rank_of ranks g ≡ Some s) × (s < r)
  pub stuck : (f : ℕ) → f < length table → rank_of ranks f ≡ None → (g : ℕ) × IsIn g (row_at table f) × (rank_of ranks g ≡ None)
