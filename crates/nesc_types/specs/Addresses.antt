-- Addresses of objects in the order of their declarations (own: from the start of RAM upwards, each even).
use Rattle.std.specs.Prelude.{◌≡◌, ◌≤◌, ℕ, ◌+◌, ◌%◌, List, [], ◌∷◌}

-- the next even number
abbrev pub evened : ℕ → ℕ
evened n = n + n % 2

-- the bytes that objects of these sizes take
abbrev pub taken : List ℕ → ℕ
taken [] = 0
taken (n ∷ sizes) = evened n + taken sizes

-- their addresses from this one on
abbrev pub addresses : ℕ → List ℕ → List ℕ
addresses start [] = []
addresses start (n ∷ sizes) = start ∷ addresses (start + evened n) sizes

-- an even address in the room of all objects
pub record LiesEven (address : ℕ) : Type 0 where
  pub even : address % 2 ≡ 0
  pub low : 4352 ≤ address
  pub high : address ≤ 64352
