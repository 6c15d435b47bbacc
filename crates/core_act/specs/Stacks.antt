-- The top of a stack, and what lies below it.
use Rattle.std.specs.Prelude.{List, [], ◌∷◌}

abbrev pub top : {A : Type 0} → A → List A → A
top otherwise [] = otherwise
top otherwise (x ∷ xs) = x

abbrev pub below : {A : Type 0} → List A → List A
below [] = []
below (x ∷ xs) = xs
