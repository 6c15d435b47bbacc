-- Chains of calls from their last body back to a root, and their order: the shorter first, and of the same length by body
-- numbers from the root on (own).
use Rattle.std.specs.Prelude.{⊤, ◌≡◌, ℕ, ◌<◌, ◌⊎◌, List, [], ◌∷◌}
use Rattle.call_graph.specs.Paths.{IsIn}

-- where a chain goes on: at the roots, or at the bodies that its last one calls
abbrev pub next : (roots : List ℕ) (steps : ℕ → List ℕ) → List ℕ → List ℕ
next roots steps [] = roots
next roots steps (f ∷ rest) = steps f

abbrev pub IsBack : (roots : List ℕ) (steps : ℕ → List ℕ) → List ℕ → Type 0
IsBack roots steps [] = ⊤
IsBack roots steps (f ∷ rest) = IsIn f (next roots steps rest) × IsBack roots steps rest

abbrev pub EndsAt : ℕ → List ℕ → Type 0
EndsAt f [] = ⊥
EndsAt f (g ∷ rest) = g ≡ f

-- the chain from its root on, before what comes behind
abbrev pub turned : List ℕ → (behind : List ℕ) → List ℕ
turned [] behind = behind
turned (f ∷ rest) behind = turned rest (f ∷ behind)

abbrev pub IsUnder : List ℕ → List ℕ → Type 0
IsUnder [] [] = ⊥
IsUnder [] (y ∷ ys) = ⊤
IsUnder (x ∷ xs) [] = ⊥
IsUnder (x ∷ xs) (y ∷ ys) = IsUnder xs ys ⊎ ((xs ≡ ys) × (x < y))

-- each is under those behind it
abbrev pub AreRising : List (List ℕ) → Type 0
AreRising [] = ⊤
AreRising (p ∷ ps) = ((q : List ℕ) → IsIn q ps → IsUnder p q) × AreRising ps

-- the last bodies of chains
abbrev pub ends : List (List ℕ) → List ℕ
ends [] = []
ends ([] ∷ ps) = ends ps
ends ((f ∷ rest) ∷ ps) = f ∷ ends ps
