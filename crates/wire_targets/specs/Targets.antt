-- The targets of an item: the ends that implement it and that paths of wires reach, in the order of the wires along the paths.
use Rattle.std.specs.Prelude.{◌≡◌, ℕ, ◌+◌, ◌-◌, ◌*◌, ◌≤◌, Bool, false, List, [], ◌∷◌, ◌++◌, length, filter, Some, slice_index_or}
use Rattle.std.specs.List.{Contains, All, AllPairs, filter_map}
use Rattle.wire_targets.specs.declared.end.End.{End}
use Rattle.wire_targets.specs.declared.end.Wire.{Wire}
use Rattle.wire_targets.specs.declared.walk.Walk.{Walk}
use Rattle.nm_base.specs.declared.limit.TheConstants.{MAX_WIRES}
use Rattle.wire_targets.specs.Next.{first_from}
use Rattle.wire_targets.specs.Paths.{follow, IsPath, Closes, Before, ends_met}

-- the paths with the property, each once, in order
pub record AreAll (P : List ℕ → Type 0) (paths : List (List ℕ)) : Type 0 where
  pub ordered : AllPairs Before paths
  pub only : All P paths
  pub every : (p : List ℕ) → P p → Contains paths p

-- the end is a sink, where calls of the item are implemented: told for each element of each instance
abbrev pub implements : List (List Bool) → End → Bool
implements sinks e = slice_index_or (slice_index_or sinks e.instance []) e.element false

abbrev pub targets_of : List Wire → List (List Bool) → End → List (List ℕ) → List End
targets_of wires sinks start paths = filter (implements sinks) (filter_map (follow wires start) paths)

abbrev pub NoneClosesBefore : List Wire → End → List ℕ → Type 0
NoneClosesBefore wires start q = (p : List ℕ) (k : ℕ) → Before (p ++ k ∷ []) q → Closes wires start p k → ⊥

pub record AreTargets (wires : List Wire) (sinks : List (List Bool)) (start : End) (targets : List End) : Type 0 where
  pub paths : List (List ℕ)
  pub all : AreAll (IsPath wires start) paths
  pub none_closes : (p : List ℕ) (k : ℕ) → Closes wires start p k → ⊥
  pub few : length paths ≤ MAX_WIRES
  pub targets_are : targets ≡ targets_of wires sinks start paths

-- the first path that meets an end twice does so by wire k, and no more than `MAX_WIRES` paths are before it
pub record IsFirstLoop (wires : List Wire) (start : End) (k : ℕ) : Type 0 where
  pub path : List ℕ
  pub closes : Closes wires start path k
  pub none_before : NoneClosesBefore wires start (path ++ k ∷ [])
  pub paths : List (List ℕ)
  pub before : AreAll (λ p. IsPath wires start p × Before p (path ++ k ∷ [])) paths
  pub few : length paths ≤ MAX_WIRES

-- there is a path with `MAX_WIRES` paths before it, and up to it none meets an end twice
pub record AreTooMany (wires : List Wire) (start : End) : Type 0 where
  pub path : List ℕ
  pub is_path : IsPath wires start path
  pub none_before : NoneClosesBefore wires start (path ++ 0 ∷ [])
  pub paths : List (List ℕ)
  pub before : AreAll (λ p. IsPath wires start p × Before p path) paths
  pub many : length paths ≡ MAX_WIRES

-- a walk stands behind `path` at `here`, at wire `from`: it has met the paths before that
pub record Walks (wires : List Wire) (sinks : List (List Bool)) (start here : End) (path : List ℕ) (ends : List End) (from met : ℕ) (found : List End) : Type 0 where
  pub leads : follow wires start path ≡ Some here
  pub ends_are : ends ≡ ends_met wires start path
  pub none_closes : NoneClosesBefore wires start (path ++ from ∷ [])
  pub paths : List (List ℕ)
  pub before : AreAll (λ p. IsPath wires start p × Before p (path ++ from ∷ [])) paths
  pub count : met ≡ length paths
  pub few : met ≤ MAX_WIRES
  pub found_are : found ≡ targets_of wires sinks start paths

-- the same of the code's walk, whose next wire is the next of its element
pub record WalksAs (wires : List Wire) (sinks : List (List Bool)) (start : End) (w : Walk) : Type 0 where
  pub here : End
  pub from : ℕ
  pub walks : Walks wires sinks start here w.path.items w.ends.items from w.met w.found.items
  pub next : w.next ≡ first_from wires here from

-- what a turn of the walk makes smaller
abbrev pub weight : Walk → ℕ
weight w = 2 * (MAX_WIRES - w.met) + length w.path.items
