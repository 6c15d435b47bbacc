-- How far bodies are from an end of a search, in calls, and one round of finding it (own).
use Rattle.std.specs.Prelude.{◌≡◌, ℕ, suc, ◌+◌, ◌==◌, Bool, true, false, if◌then◌else◌, List, length, map, Option, Some, None, slice_index_or}
use Rattle.std.specs.List.{list_any}
use Rattle.call_graph.specs.Paths.{below}
use Rattle.call_graph.specs.Least.{can, first_from}
use Rattle.call_graph.specs.Graph.{row_at}
use Rattle.call_graph.specs.Ranks.{rank_of}

abbrev pub is_end_in : List Bool → ℕ → Bool
is_end_in ends f = slice_index_or ends f false

-- it is so far away
abbrev pub is_at : ℕ → Option ℕ → Bool
is_at k None = false
is_at k (Some d) = d == k

-- an end is no call away
abbrev pub at_end : Bool → Option ℕ
at_end true = Some 0
at_end false = None

-- a body not yet found that calls one which is k calls away is k + 1 away
abbrev pub further : List (List ℕ) → List (Option ℕ) → (k : ℕ) → (f : ℕ) → Option ℕ → Option ℕ
further table far k f (Some d) = Some d
further table far k f None = if list_any (λ g. is_at k (rank_of far g)) (row_at table f) then Some (k + 1) else None

abbrev pub far_next : List (List ℕ) → List (Option ℕ) → (k : ℕ) → List (Option ℕ)
far_next table far k = map (λ f. further table far k f (rank_of far f)) (below (length table))

-- where they are at most k calls away
pub record AreFar (table : List (List ℕ)) (ends : List Bool) (far : List (Option ℕ)) (k : ℕ) : Type 0 where
  pub size : length far ≡ length table
  pub each : (f : ℕ) → rank_of far f ≡ first_from (λ n. can (row_at table) (is_end_in ends) n f) 0 (suc k)
