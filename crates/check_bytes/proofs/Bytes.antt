-- The bytes of items whose jumps are all short: of all of them, and before each.
use Rattle.std.proofs.Common.{◌≡◌, ℕ, zero, suc, ◌+◌, ◌≤◌, List, [], ◌∷◌, ◌++◌, length, sum, take, map, get_or, refl, ap, ◌∙◌, arith}
use Rattle.msp_isa.specs.declared.code.Item.{Item}
use Rattle.msp_layout.specs.Rounds.{short_bytes}
use Rattle.msp_layout.specs.Sizes.{place}
use Rattle.msp_layout.proofs.Growing.{sum-cons}

abbrev pub bytes : List Item → ℕ
bytes [] = 0
bytes (x ∷ xs) = short_bytes x + bytes xs

abbrev pub bytes_before : List Item → ℕ → ℕ
bytes_before [] k = 0
bytes_before (x ∷ xs) zero = 0
bytes_before (x ∷ xs) (suc k) = short_bytes x + bytes_before xs k

pub bytes-append : (xs ys : List Item) → bytes (xs ++ ys) ≡ bytes xs + bytes ys
bytes-append [] ys = omega arith
bytes-append (x ∷ xs) ys = let e = bytes-append xs ys in omega (arith, e)

pub bytes_are : (xs : List Item) → sum (map short_bytes xs) ≡ bytes xs
bytes_are [] = refl
bytes_are (x ∷ xs) = sum-cons (short_bytes x) (map short_bytes xs) ∙ ap (λ n. short_bytes x + n) (bytes_are xs)

pub place_is : (xs : List Item) (k : ℕ) → place (map short_bytes xs) k ≡ bytes_before xs k
place_is [] zero = refl
place_is [] (suc k) = refl
place_is (x ∷ xs) zero = refl
place_is (x ∷ xs) (suc k) = sum-cons (short_bytes x) (take k (map short_bytes xs)) ∙ ap (λ n. short_bytes x + n) (place_is xs k)

pub before_within : (xs : List Item) (k : ℕ) → bytes_before xs k ≤ bytes xs
before_within [] k = omega arith
before_within (x ∷ xs) zero = omega arith
before_within (x ∷ xs) (suc k) = let e = before_within xs k in omega (arith, e)

both_less : (x y p q : ℕ) → x ≤ y → p ≤ q → x + p ≤ y + q
both_less x y p q a b = omega (arith, a, b)

pub sum_below : (s o : List ℕ) → length s ≡ length o → ((k : ℕ) → get_or s k 0 ≤ get_or o k 0) → sum s ≤ sum o
sum_below [] [] e le = omega arith
sum_below [] (y ∷ o) e le = absurd (omega (arith, e))
sum_below (x ∷ s) [] e le = absurd (omega (arith, e))
sum_below (x ∷ s) (y ∷ o) e le = rw (sum-cons x s, sum-cons y o) (both_less x y (sum s) (sum o) (le 0) (sum_below s o (omega (arith, e)) (λ k. le (suc k))))
