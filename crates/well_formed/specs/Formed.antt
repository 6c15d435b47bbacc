-- What programs are made of, by recursion over their lists (own).
use Rattle.std.specs.Prelude.{⊤, ℕ, ◌≢◌, List, [], ◌∷◌}
use Rattle.nesc_core.specs.Plain.{Field}
use Rattle.nesc_core.specs.Typing.{PointsWell}

-- of each element
abbrev pub Each : {X : Type 0} → (X → Type 0) → List X → Type 0
Each P [] = ⊤
Each P (x ∷ xs) = P x × Each P xs

-- lines of their own
abbrev pub HaveOwnLines : List (ℕ × ℕ) → Type 0
HaveOwnLines [] = ⊤
HaveOwnLines (h ∷ hs) = Each (λ k. h.0 ≢ k.0) hs × HaveOwnLines hs

-- fields of types that there are
abbrev pub FieldsPoint : (structs : List (List Field)) → List Field → Type 0
FieldsPoint structs fields = Each (λ f. PointsWell structs f.ty) fields
