-- The newest declaration, one more looked at.
use Rattle.std.proofs.Common.{◌≡◌, ℕ, ◌+◌, ◌<◌, List, [], ◌∷◌, ◌++◌, None, length, map, take, fold, get_or, ap, ◌∙◌, refl}
use Rattle.std.proofs.lemmas.List.{map_more}
use Rattle.body_meaning.specs.Tree.{Head}
use Rattle.elab_facts.specs.declared.declared.Declared as rust
use Rattle.elab_facts.specs.View.{declared_of}
use Rattle.program_meaning.specs.Walk.{earlier, newer}

fold-end : {A B : Type 0} (f : B → A → B) (b : B) (xs : List A) (x : A) → fold f b (xs ++ (x ∷ [])) ≡ f (fold f b xs) x
fold-end f b [] x = refl
fold-end f b (y ∷ ys) x = fold-end f (f b y) ys x

pub earlier-more : (h : Head) (xs : List rust.Declared) (i : ℕ) (d : rust.Declared) → i < length xs
    → earlier (map declared_of (take (i + 1) xs)) h ≡ newer h (earlier (map declared_of (take i xs)) h) (declared_of (get_or xs i d))
earlier-more h xs i d below =
    ap (λ es. earlier es h) (map_more declared_of xs i d below)
    ∙ fold-end (newer h) None (map declared_of (take i xs)) (declared_of (get_or xs i d))

pub ruleset newest_ones = (earlier-more)
