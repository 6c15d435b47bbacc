-- How far a search of calls is, and what it knows (own).
use Rattle.std.specs.Prelude.{◌≡◌, ℕ, ◌+◌, ◌-◌, ◌<◌, ◌≤◌, List, [], ◌∷◌, length, slice_index, slice_index_or}
use Rattle.msp_isa.specs.declared.code.CodeFn.{CodeFn}
use Rattle.msp_layout.specs.declared.depth.Visit.{Visit}
use Rattle.msp_layout.specs.declared.depth.Visit.TheVariants.{New, Open, Done}
use Rattle.msp_layout.specs.Depth.{IsDeepest, IsPath, path_bytes, frame_of, calls_of, IsRank}
use Rattle.msp_layout.specs.Laid.{told}

abbrev pub visit_at : List Visit → ℕ → Visit
visit_at visits f = slice_index_or visits f New

abbrev pub depth_of : Visit → ℕ
depth_of (Done n) = n
depth_of _ = 0

abbrev pub IsBegun : Visit → Type 0
IsBegun New = ⊥
IsBegun _ = Unit {0}

abbrev pub IsNew : Visit → Type 0
IsNew New = Unit {0}
IsNew _ = ⊥

abbrev pub IsDone : Visit → Type 0
IsDone (Done n) = Unit {0}
IsDone _ = ⊥

-- the depth of some functions, as 32 bits tell it
abbrev pub HasDepth : List CodeFn → (ℕ → Type 0) → ℕ → Type 0
HasDepth code Root n = (depth : ℕ) × IsDeepest code Root depth × (n ≡ told depth)

-- the depth over the first calls of a function
pub record IsDeepestSoFar (code : List CodeFn) (f upto depth : ℕ) : Type 0 where
  pub here : frame_of code f ≤ depth
  pub bound : (i : ℕ) (path : List ℕ) → i < upto → IsPath code (slice_index (calls_of code f) i) path → frame_of code f + 2 + path_bytes code (slice_index (calls_of code f) i) path ≤ depth
  pub path : List ℕ
  pub is_path : IsPath code f path
  pub met : path_bytes code f path ≡ depth

abbrev pub call_at : List CodeFn → ℕ → ℕ → ℕ
call_at code f i = slice_index (calls_of code f) i

-- functions that are done have their depths; those that are begun are behind some of their calls, and each is called by the
-- one before it
pub record IsSearch (code : List CodeFn) (visits : List Visit) (trail : List ℕ) : Type 0 where
  pub len : length visits ≡ length code
  pub done : (f : ℕ) → IsDone (visit_at visits f) → HasDepth code (λ g. g ≡ f) (depth_of (visit_at visits f))
  pub looked : (f next : ℕ) → visit_at visits f ≡ Open next → (next ≤ length (calls_of code f)) × ((i : ℕ) → i < next → IsDone (visit_at visits (call_at code f i)))
  pub begun : (j : ℕ) → j < length trail → (slice_index trail j < length code) × ((next : ℕ) × (visit_at visits (slice_index trail j) ≡ Open next))
  pub stacked : (f next : ℕ) → visit_at visits f ≡ Open next → (j : ℕ) × (j < length trail) × (slice_index trail j ≡ f)
  pub falls : (rank : ℕ → ℕ) → IsRank code rank → (i j : ℕ) → i < j → j < length trail → rank (slice_index trail j) < rank (slice_index trail i)

-- the steps that a function still takes, and all of them
abbrev pub steps_of : CodeFn → Visit → ℕ
steps_of function New = length function.calls + 2
steps_of function (Open next) = length function.calls + 1 - next
steps_of function (Done depth) = 0

abbrev pub steps_left : List CodeFn → List Visit → ℕ
steps_left [] visits = 0
steps_left (function ∷ code) [] = 0
steps_left (function ∷ code) (visit ∷ visits) = steps_of function visit + steps_left code visits

abbrev pub StayBegun : List Visit → List Visit → Type 0
StayBegun old new = (f : ℕ) → IsBegun (visit_at old f) → IsBegun (visit_at new f)
