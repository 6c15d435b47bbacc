-- The least of chains that begin with different bodies (own).
use Rattle.std.specs.Prelude.{ℕ, zero, suc, nat_lt, Bool, true, false, if◌then◌else◌, List, ◌∷◌, length, Option, Some, None, option_map}
use Rattle.call_graph.specs.Least.{least_path}
use Rattle.call_graph.specs.Graph.{row_at}

-- of chains as long as each other the first
abbrev pub shorter_of : Option (List ℕ) → Option (List ℕ) → Option (List ℕ)
shorter_of None other = other
shorter_of (Some best) None = Some best
shorter_of (Some best) (Some other) = if nat_lt (length other) (length best) then Some other else Some best

-- over the chains from the bodies below n
abbrev pub best_of : (chain : ℕ → Option (List ℕ)) → ℕ → Option (List ℕ)
best_of chain zero = None
best_of chain (suc n) = shorter_of (best_of chain n) (chain n)

-- the least chain of at least one call from body f to an end
abbrev pub chain_from : List (List ℕ) → (is_end : ℕ → Bool) → (f : ℕ) → Option (List ℕ)
chain_from table is_end f = option_map (λ rest. f ∷ rest) (least_path (row_at table) is_end (row_at table f) (length table))

-- the same where f is one to begin with
abbrev pub chain_if : (starts : Bool) → Option (List ℕ) → Option (List ℕ)
chain_if true chain = chain
chain_if false chain = None
