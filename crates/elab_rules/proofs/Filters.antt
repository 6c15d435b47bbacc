-- The first of a list that passes, one element after the other.
use Rattle.std.proofs.Common.{◌≡◌, ℕ, ◌+◌, ◌<◌, Bool, true, false, suc, List, ◌∷◌, drop, length, get_or, map, ap, sym, ◌∙◌, arith, rules}
use Rattle.std.specs.List.{filter}
use Rattle.std.proofs.Math.Seq.{drop-cons}
use Rattle.std.proofs.Math.ListN.{drop_of_length-le}

-- element k stands at the front of what is left
pub next_of : {A : Type 0} (xs : List A) (k : ℕ) (x : A) → k < length xs → x ≡ get_or xs k x → drop k xs ≡ x ∷ drop (k + 1) xs
next_of xs k x below is = let more : suc k ≡ k + 1 = omega arith in
    drop-cons xs k x below ∙ ap (λ y. y ∷ drop (suc k) xs) (sym is) ∙ ap (λ j. x ∷ drop j xs) more

dropped : {A : Type 0} (p : A → Bool) (y : A) (ys : List A) → p y ≡ false → filter p (y ∷ ys) ≡ filter p ys
dropped p y ys miss = search (rules, miss)

kept : {A : Type 0} (p : A → Bool) (y : A) (ys : List A) → p y ≡ true → filter p (y ∷ ys) ≡ y ∷ filter p ys
kept p y ys hit = search (rules, hit)

module _ {X A : Type 0} (view : X → A) (p : A → Bool) (xs : List X) (k : ℕ) (x : X) (below : k < length xs) (at : x ≡ get_or xs k x) where
  begins : filter p (map view (drop k xs)) ≡ filter p (view x ∷ map view (drop (k + 1) xs))
  begins = ap (λ ys. filter p (map view ys)) (next_of xs k x below at)

  pub dropped_next : p (view x) ≡ false → filter p (map view (drop k xs)) ≡ filter p (map view (drop (k + 1) xs))
  dropped_next miss = begins ∙ dropped p (view x) (map view (drop (k + 1) xs)) miss

  pub kept_next : p (view x) ≡ true → filter p (map view (drop k xs)) ≡ view x ∷ filter p (map view (drop (k + 1) xs))
  kept_next hit = begins ∙ kept p (view x) (map view (drop (k + 1) xs)) hit

pub ruleset filters = (dropped_next, kept_next, drop_of_length-le)
