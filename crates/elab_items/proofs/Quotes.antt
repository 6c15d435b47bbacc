-- A text without its quotes.
use Rattle.std.proofs.Common.{◌≡◌, ℕ, List, [], ◌∷◌, ◌++◌, ap, refl}
use Rattle.program_meaning.specs.Items.{without_last}

pub last_off : (xs : List ℕ) (x : ℕ) → without_last (xs ++ (x ∷ [])) ≡ xs
last_off [] x = refl
last_off (y ∷ []) x = refl
last_off (y ∷ z ∷ zs) x = ap (λ l. y ∷ l) (last_off (z ∷ zs) x)

pub ruleset quotes = (last_off)
