-- Places in lists of statements, and lists of types.
use Rattle.std.specs.Prelude.{⊤, ℕ, ◌<◌, List, [], ◌∷◌, Option, Some, None}
use Rattle.nesc_core.specs.Plain.{Ty, Field, Case}
use Rattle.nesc_core.specs.Size.{IsSized}

-- where there is one
abbrev pub IsBelow : ℕ → Option ℕ → Type 0
IsBelow n None = ⊤
IsBelow n (Some k) = k < n

-- each case begins at one of the first n statements
abbrev pub StartBelow : ℕ → List Case → Type 0
StartBelow n [] = ⊤
StartBelow n (c ∷ cases) = (c.start < n) × StartBelow n cases

abbrev pub AreAllSized : List (List Field) → List Ty → Type 0
AreAllSized structs [] = ⊤
AreAllSized structs (t ∷ ts) = IsSized structs t × AreAllSized structs ts
