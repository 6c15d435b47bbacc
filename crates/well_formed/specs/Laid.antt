-- Layouts of structs in the order of their numbers (own): the fields of each name structs of lower numbers, and no type is too large.
use Rattle.std.specs.Prelude.{⊤, ◌≡◌, ℕ, ◌≤◌, List, [], ◌∷◌, ◌++◌, length}
use Rattle.nesc_core.specs.declared.layout.Layout.{Layout}
use Rattle.nesc_core.specs.Layouts.{at, layouts_of, made_of}
use Rattle.nesc_core.specs.Plain.{Field}
use Rattle.nesc_core.specs.Size.{AreSized, IsSmall, NamesBelow}

abbrev pub NameBelow : ℕ → List Field → Type 0
NameBelow n [] = ⊤
NameBelow n (f ∷ fs) = NamesBelow n f.ty × NameBelow n fs

-- where structs have these layouts
abbrev pub AreSmall : List Layout → List Field → Type 0
AreSmall layouts [] = ⊤
AreSmall layouts (f ∷ fs) = IsSmall (at layouts) f.ty × AreSmall layouts fs

-- a struct behind those with these layouts
abbrev pub IsGood : List Layout → List Field → Type 0
IsGood done fields = NameBelow (length done) fields × AreSmall done fields × ((made_of done fields).size ≤ 32767)

abbrev pub AreGood : List Layout → List (List Field) → Type 0
AreGood done [] = ⊤
AreGood done (fields ∷ rest) = IsGood done fields × AreGood (done ++ (made_of done fields ∷ [])) rest

-- the layouts that there are, and those of the structs behind them
abbrev pub laid : List Layout → List (List Field) → List Layout
laid done [] = done
laid done (fields ∷ rest) = laid (done ++ (made_of done fields ∷ [])) rest

-- structs, with the layouts of all
pub record AreLaid (structs : List (List Field)) (layouts : List Layout) : Type 0 where
  pub sized : AreSized structs
  pub are : layouts ≡ layouts_of structs
