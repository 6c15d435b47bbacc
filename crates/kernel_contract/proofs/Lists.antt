-- Lists that go on behind the end of others: what is read in the front.
use Rattle.std.proofs.Common.{◌≡◌, ℕ, zero, suc, ◌<◌, Bool, true, false, List, [], ◌∷◌, ◌++◌, length, refl, ap, arith, if◌then◌else◌}
use Rattle.std.specs.Prelude.{slice_get}
use Rattle.std.specs.List.{filter}

module _ {A : Type 0} where
  pub get_front : (xs ys : List A) (k : ℕ) → k < length xs → slice_get (xs ++ ys) k ≡ slice_get xs k
  get_front [] ys k lt = absurd (omega (arith, lt))
  get_front (x ∷ xs) ys zero lt = refl
  get_front (x ∷ xs) ys (suc k) lt = get_front xs ys k (omega (arith, lt))

  pub filter_front : (test : A → Bool) (xs : List A) (y : A) → test y ≡ false → filter test (xs ++ y ∷ []) ≡ filter test xs
  filter_front test [] y out = ap (λ (t : Bool). if t then y ∷ [] else []) out
  filter_front test (x ∷ xs) y out = by_test (test x) (filter_front test xs y out)
    where
      by_test : (t : Bool) → filter test (xs ++ y ∷ []) ≡ filter test xs → (if t then x ∷ filter test (xs ++ y ∷ []) else filter test (xs ++ y ∷ [])) ≡ (if t then x ∷ filter test xs else filter test xs)
      by_test true rest = ap (λ l. x ∷ l) rest
      by_test false rest = rest
