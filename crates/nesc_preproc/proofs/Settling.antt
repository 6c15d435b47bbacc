-- What functions of a number of steps settle to.
use Rattle.std.specs.Prelude.{◌≡◌, ℕ, ◌+◌, Option, Some, Ok, Err}
use Rattle.std.proofs.Common.{refl, ap, ◌∙◌, arith}
use Rattle.nm_base.specs.declared.fault.Fault.{Fault}
use Rattle.nesc_macros.specs.Expansion.{Answer, Settles, and_then}

pub at_once : {A : Type 0} (x : A) → Settles (λ _. Some x) x
at_once x = (0, λ m h. refl)

-- the first part gives x, and what follows gives b
pub then_settles : {A B : Type 0} (f : ℕ → Option (Answer A)) (g : ℕ → A → ℕ → Option (Answer B)) (x : A) (count : ℕ) (b : Answer B)
    → Settles f (record { value = Ok x; count = count }) → Settles (λ n. g n x count) b → Settles (λ n. and_then (f n) (g n)) b
then_settles f g x count b p q =
    (p.0 + q.0, λ m h. ap (λ a. and_then a (g m)) (p.1 m (omega (arith, h))) ∙ q.1 m (omega (arith, h)))

-- the first part refuses
pub refusal_settles : {A B : Type 0} (f : ℕ → Option (Answer A)) (g : ℕ → A → ℕ → Option (Answer B)) (e : Fault) (count : ℕ)
    → Settles f (record { value = Err e; count = count }) → Settles (λ n. and_then (f n) (g n)) (record { value = Err e; count = count })
refusal_settles f g e count p = (p.0, λ m h. ap (λ a. and_then a (g m)) (p.1 m h))

-- what is computed from what settles
pub map_settles : {A B : Type 0} (f : ℕ → Option A) (g : Option A → Option B) (x : A) (y : B) → g (Some x) ≡ Some y → Settles f x → Settles (λ n. g (f n)) y
map_settles f g x y e p = (p.0, λ m h. ap g (p.1 m h) ∙ e)

pub same_settles : {A : Type 0} (f g : ℕ → Option A) (x : A) → ((n : ℕ) → g n ≡ f n) → Settles f x → Settles g x
same_settles f g x e p = (p.0, λ m h. e m ∙ p.1 m h)
