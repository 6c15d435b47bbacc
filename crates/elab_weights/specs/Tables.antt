-- Layouts of structs in the order of their numbers (own): each struct's fields name structs of lower numbers.
use Rattle.std.specs.Prelude.{⊤, ◌≡◌, ℕ, ◌+◌, List, [], ◌∷◌, ◌++◌, map}
use Rattle.nesc_core.specs.declared.layout.Layout.{Layout}
use Rattle.nesc_core.specs.Layouts.{at, first_layouts, made_of}
use Rattle.nesc_core.specs.Plain.{Ty, Field}
use Rattle.nesc_core.specs.Size.{NamesBelow, layout_of}
use Rattle.nesc_core.specs.Weights.{even}

abbrev pub NameBelow : ℕ → List Field → Type 0
NameBelow n [] = ⊤
NameBelow n (f ∷ fs) = NamesBelow n f.ty × NameBelow n fs

abbrev pub NameLower : (number : ℕ) → List (List Field) → Type 0
NameLower n [] = ⊤
NameLower n (fs ∷ rest) = NameBelow n fs × NameLower (n + 1) rest

-- the layouts that there are, and those of the structs behind them
abbrev pub laid : List Layout → List (List Field) → List Layout
laid done [] = done
laid done (fs ∷ rest) = laid (done ++ (made_of done fs ∷ [])) rest

-- the layouts of the first structs
pub record AreFirst (structs : List (List Field)) (layouts : List Layout) : Type 0 where
  pub count : ℕ
  pub are : layouts ≡ first_layouts structs count

-- the bytes that a local takes in a frame
abbrev pub bytes_of : List (List Field) → Ty → ℕ
bytes_of structs t = even (layout_of structs t).size
