-- What is so of each element.
use Rattle.std.proofs.Common.{zero, suc, List, [], ◌∷◌, All, arith}
use Rattle.well_formed.specs.Formed.{Each}

pub each_is : {X : Type 0} (P : X → Type 0) (xs : List X) → Each P xs → All P xs
each_is P [] h i d below = absurd (omega arith)
each_is P (x ∷ xs) h zero d below = h.0
each_is P (x ∷ xs) h (suc i) d below = each_is P xs h.1 i d (omega arith)

pub each_each_is : {X : Type 0} (P : X → Type 0) (xs : List (List X)) → Each (Each P) xs → All (All P) xs
each_each_is P [] h i d below = absurd (omega arith)
each_each_is P (xs ∷ rest) h zero d below = each_is P xs h.0
each_each_is P (xs ∷ rest) h (suc i) d below = each_each_is P rest h.1 i d (omega arith)
