-- The greatest number of bytes on the stack along calls (own).
use Rattle.std.specs.Prelude.{◌≡◌, ℕ, ◌+◌, ◌<◌, ◌≤◌, List, [], ◌∷◌, length, slice_index, slice_index_or}
use Rattle.msp_isa.specs.declared.code.CodeFn.{CodeFn}
use Rattle.msp_isa.specs.Stands.{no_code}

abbrev pub frame_of : List CodeFn → ℕ → ℕ
frame_of code f = (slice_index_or code f no_code).frame

abbrev pub calls_of : List CodeFn → ℕ → List ℕ
calls_of code f = (slice_index_or code f no_code).calls

-- a number stands in a list
abbrev pub Names : List ℕ → ℕ → Type 0
Names xs x = (i : ℕ) × (i < length xs) × (slice_index xs i ≡ x)

-- a path of calls: each function is called by the one before it
abbrev pub IsPath : List CodeFn → ℕ → List ℕ → Type 0
IsPath code f [] = Unit {0}
IsPath code f (g ∷ path) = Names (calls_of code f) g × IsPath code g path

-- the frames along it, and two bytes for each call
abbrev pub path_bytes : List CodeFn → ℕ → List ℕ → ℕ
path_bytes code f [] = frame_of code f
path_bytes code f (g ∷ path) = frame_of code f + 2 + path_bytes code g path

-- a bound for every path from one of some functions, and met by one
pub record IsDeepest (code : List CodeFn) (Root : ℕ → Type 0) (depth : ℕ) : Type 0 where
  pub bound : (f : ℕ) (path : List ℕ) → Root f → IsPath code f path → path_bytes code f path ≤ depth
  pub root : ℕ
  pub is_root : Root root
  pub path : List ℕ
  pub is_path : IsPath code root path
  pub met : path_bytes code root path ≡ depth

-- the stack of a program: the longest path from reset, and on top of it the longest one from a line
pub record IsStack (code : List CodeFn) (lines : List ℕ) (reset : ℕ) (stack : ℕ) : Type 0 where
  pub base : ℕ
  pub handlers : ℕ
  pub from_reset : IsDeepest code (λ f. f ≡ reset) base
  pub from_lines : IsDeepest code (Names lines) handlers
  pub both : stack ≡ base + handlers

-- calls have no cycle: functions have ranks that fall along calls
abbrev pub IsRank : List CodeFn → (ℕ → ℕ) → Type 0
IsRank code rank = (f g : ℕ) → f < length code → Names (calls_of code f) g → rank g < rank f

abbrev pub HasNoCycle : List CodeFn → Type 0
HasNoCycle code = (rank : ℕ → ℕ) × IsRank code rank
