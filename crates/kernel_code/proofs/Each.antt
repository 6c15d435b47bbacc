-- What holds of each element of a list that is seen through a function, one element on.
use Rattle.std.proofs.Common.{◌≡◌, ℕ, ◌+◌, ◌<◌, ◌≤◌, List, ◌∷◌, length, map, drop, get_or, sym, ap, subst, ◌∙◌}
use Rattle.std.specs.List.{AllByRecursion}
use Rattle.std.proofs.lemmas.List.{drop_all, drop_more}

first_left : {X : Type 0} (xs : List X) (i : ℕ) (x : X) → i < length xs → x ≡ get_or xs i x → drop i xs ≡ x ∷ drop (i + 1) xs
first_left {X} xs i x below is = drop_more xs i x below ∙ ap (λ (y : X). y ∷ drop (i + 1) xs) (sym is)

pub one_less : {X Y : Type 0} (f : X → Y) (P : Y → Type 0) (xs : List X) (i : ℕ) (x : X) → i < length xs → x ≡ get_or xs i x
    → P (f x) → AllByRecursion P (map f (drop (i + 1) xs)) → AllByRecursion P (map f (drop i xs))
one_less {X} f P xs i x below is here rest =
    subst (λ (ys : List X). AllByRecursion P (map f ys)) (sym (first_left xs i x below is)) (here, rest)

pub none_left : {X Y : Type 0} (f : X → Y) (P : Y → Type 0) (xs : List X) (i : ℕ) → length xs ≤ i → AllByRecursion P (map f (drop i xs))
none_left {X} f P xs i over = subst (λ (ys : List X). AllByRecursion P (map f ys)) (sym (drop_all i xs over)) tt
