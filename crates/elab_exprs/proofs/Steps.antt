-- Work in steps: lists that are gone through by an index, and work behind work.
use Rattle.std.proofs.Common.{◌≡◌, ℕ, ◌+◌, ◌<◌, ◌≤◌, zero, suc, List, [], ◌∷◌, length, drop, get_or, Ok, Err, ap, sym, ◌∙◌, refl, arith}
use Rattle.nesc_types.specs.Rule.{Rule}
use Rattle.elab_meaning.specs.Elab.{State, after}

pub drop-past : {A : Type 0} (xs : List A) (i : ℕ) → length xs ≤ i → drop i xs ≡ []
drop-past [] zero h = refl
drop-past [] (suc i) h = refl
drop-past (x ∷ xs) zero h = absurd (omega arith)
drop-past (x ∷ xs) (suc i) h = drop-past xs i (omega arith)

pub after-after : {A B C : Type 0} (r : Rule (A × State)) (f : A → State → Rule (B × State)) (g : B → State → Rule (C × State))
    → after r (λ x. λ s. after (f x s) g) ≡ after (after r f) g
after-after (Ok x) f g = refl
after-after (Err e) f g = refl

-- where what is behind the first work does the same, both do
pub after-same : {A B : Type 0} (r : Rule (A × State)) (f g : A → State → Rule (B × State)) → ((x : A) (s : State) → f x s ≡ g x s) → after r f ≡ after r g
after-same (Ok x) f g h = h x.0 x.1
after-same (Err e) f g h = refl
