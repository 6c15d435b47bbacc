-- Why a program is refused for its calls: a cycle of them, or a command or event without `async` behind a handler (own; that
-- asynchronous code calls asynchronous code alone after Gay et al. 2003).
use Rattle.std.specs.Prelude.{⊤, ◌≡◌, ℕ, ◌==◌, Bool, true, false, ◌&&◌, not, if◌then◌else◌, List, [], ◌∷◌, Option, Some, None, slice_get}
use Rattle.std.specs.List.{list_all}
use Rattle.nm_base.specs.declared.pos.Pos.{Pos}
use Rattle.nm_base.specs.declared.fault.Fault.{Fault}
use Rattle.nm_base.specs.declared.fault.Fault.TheVariants as fault
use Rattle.nm_base.specs.declared.refusal.Refusal.{Refusal}
use Rattle.nm_base.specs.declared.refusal.Refusal.TheVariants as refusal
use Rattle.nesc_core.specs.Plain.{Body, Program}
use Rattle.nesc_core.specs.Calls.{HasNoCycle}
use Rattle.call_graph.specs.Graph.{row_at}
use Rattle.call_graph.specs.Ranks.{is_some, AreRanks}
use Rattle.call_graph.specs.Uses.{Use, Access, Calls, uses}
use Rattle.call_graph.specs.Paths.{IsIn, callees, handler_roots, IsPath, IsLeast}

-- the place of the first call of g
abbrev pub call_place : List Use → (g : ℕ) → Option Pos
call_place [] g = None
call_place (Access n i place pos ∷ us) g = call_place us g
call_place (Calls n i h pos ∷ us) g = if h == g then Some pos else call_place us g

-- the place of a chain's last call; of several the first in the order of nodes
abbrev pub last_place : Program → List ℕ → Option Pos
last_place p [] = None
last_place p (f ∷ []) = None
last_place p (f ∷ g ∷ []) = call_place (uses p f) g
last_place p (f ∷ g ∷ h ∷ rest) = last_place p (g ∷ h ∷ rest)

-- a chain of calls from a body back to it
abbrev pub IsCycleBy : (steps : ℕ → List ℕ) → List ℕ → Type 0
IsCycleBy steps [] = ⊥
IsCycleBy steps (f ∷ rest) = IsPath (steps f) steps rest f

abbrev pub IsCycle : Program → List ℕ → Type 0
IsCycle p = IsCycleBy (callees p)

-- ranks for all bodies, or the least cycle
abbrev pub IsCycleOf : (table : List (List ℕ)) → Option (List ℕ) → Type 0
IsCycleOf table None = (ranks : List (Option ℕ)) × AreRanks table ranks × (list_all is_some ranks ≡ true)
IsCycleOf table (Some path) = IsLeast (IsCycleBy (row_at table)) path

-- a command or event without `async`
abbrev pub is_sync_body : Body → Bool
is_sync_body b = b.is_item && not b.is_async

abbrev pub is_sync : Option Body → Bool
is_sync None = false
is_sync (Some b) = is_sync_body b

-- a chain of calls from a handler to one
abbrev pub IsSyncPath : Program → List ℕ → Type 0
IsSyncPath p [] = ⊥
IsSyncPath p (f ∷ rest) = IsIn f (handler_roots p) × (g : ℕ) × IsPath (callees p f) (callees p) rest g × (is_sync (slice_get p.bodies g) ≡ true)

-- no handler reaches one
abbrev pub HasNoSyncPath : Program → Type 0
HasNoSyncPath p = (path : List ℕ) → IsSyncPath p path → ⊥

-- the shortest cycle, and of these the least by body numbers, so that it begins with its least body
pub record IsRecursion (p : Program) (pos : Pos) (path : List ℕ) : Type 0 where
  pub cycle : IsLeast (IsCycle p) path
  pub place : last_place p path ≡ Some pos

pub record IsNotAsync (p : Program) (pos : Pos) (path : List ℕ) : Type 0 where
  pub no_cycle : HasNoCycle p
  pub chain : IsLeast (IsSyncPath p) path
  pub place : last_place p path ≡ Some pos

abbrev pub IsWhy : Program → Refusal → Type 0
IsWhy p (refusal.Recursion pos path) = IsRecursion p pos path
IsWhy p (refusal.NotAsync pos path) = IsNotAsync p pos path
IsWhy p _ = ⊥

-- why there is no graph
abbrev pub IsDue : Program → Fault → Type 0
IsDue p (fault.Refused why) = IsWhy p why
IsDue p fault.NoMemory = ⊤
IsDue p _ = ⊥
