-- Sums and greatest ones over bodies.
use Rattle.std.proofs.Common.{◌≡◌, ℕ, zero, suc, ◌≤◌, List, [], ◌∷◌, Some, refl, subst, arith}
use Rattle.std.specs.Prelude.{fold, max, slice_get}
use Rattle.nesc_core.specs.Plain.{Body}

most_from : (g : Body → ℕ) (bs : List Body) (most : ℕ) → most ≤ fold (λ m b. max m (g b)) most bs
most_from g [] most = omega arith
most_from g (b ∷ bs) most = let h = most_from g bs (max most (g b)) in omega (arith, h)

-- each is at most the greatest
pub most_at : (g : Body → ℕ) (bs : List Body) (most f : ℕ) (b : Body) → slice_get bs f ≡ Some b → g b ≤ fold (λ m b. max m (g b)) most bs
most_at g [] most f b e = absurd (cc)
most_at g (a ∷ bs) most zero b e = let same : a ≡ b = cc in subst (λ c. g c ≤ fold (λ m b. max m (g b)) most (a ∷ bs)) same (let h = most_from g bs (max most (g a)) in omega (arith, h))
most_at g (a ∷ bs) most (suc f) b e = most_at g bs (max most (g a)) f b e

-- and the greatest at most what each is at most
pub most_within : (g : Body → ℕ) (bs : List Body) (most bound : ℕ) → most ≤ bound → ((f : ℕ) (b : Body) → slice_get bs f ≡ Some b → g b ≤ bound) → fold (λ m b. max m (g b)) most bs ≤ bound
most_within g [] most bound le each = le
most_within g (b ∷ bs) most bound le each = let one = each zero b refl in most_within g bs (max most (g b)) bound (omega (arith, le, one)) (λ f c e. each (suc f) c e)
