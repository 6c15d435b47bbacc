-- Scopes as ends of lists.
use Rattle.std.proofs.Common.{◌≡◌, ℕ, List, [], ◌∷◌, length, map, drop, ◌≤◌, zero, suc, ◌-◌, ap, ◌∙◌, sym, refl, arith}
use Rattle.std.specs.List.{slice_range}
use Rattle.std.proofs.lemmas.List.{drop-map, length-drop, take_all}

-- nothing is behind the end
pub drop-past : {A : Type 0} (xs : List A) (n : ℕ) → length xs ≤ n → drop n xs ≡ []
drop-past [] zero h = refl
drop-past [] (suc n) h = refl
drop-past (x ∷ xs) zero h = absurd (omega arith)
drop-past (x ∷ xs) (suc n) h = drop-past xs n (omega arith)

le-from : (a b : ℕ) → a ≡ b → a ≤ b
le-from a b h = omega arith

-- a scope of views is the view of a scope
pub scope-view : {A B : Type 0} (f : A → B) (n : ℕ) (xs ys : List A) → ys ≡ slice_range xs n (length xs) → map f ys ≡ drop n (map f xs)
scope-view f n xs ys h =
    ap (map f) (h ∙ take_all (length xs - n) (drop n xs) (le-from (length (drop n xs)) (length xs - n) (length-drop n xs))) ∙ sym (drop-map f n xs)

pub ruleset scopes = (drop-past)
