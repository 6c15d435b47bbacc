-- What is made of what was found.
use Rattle.std.specs.Prelude.{◌≡◌, Ok, Err}
use Rattle.nesc_parse_types.specs.Gives.{Found}

abbrev pub MadeBy : {A B : Type 0} → (A → B) → Found A → Found B → Type 0
MadeBy f (Ok x) r = r ≡ Ok (f x.0, x.1)
MadeBy f (Err e) r = r ≡ Err e
