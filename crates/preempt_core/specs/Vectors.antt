-- The sixteen vectors of an image.
use Rattle.std.specs.Prelude.{ℕ, List, [], ◌∷◌}

-- those of lines 0 to 7, and all others
abbrev pub vectors_at : ℕ → ℕ → List ℕ
vectors_at line reset =
    line ∷ line ∷ line ∷ line ∷ line ∷ line ∷ line ∷ line ∷ reset ∷ reset ∷ reset ∷ reset ∷ reset ∷ reset ∷ reset ∷ reset ∷ []
