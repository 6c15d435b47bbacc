-- Reading once more, with a token behind what was read, tells whether this token could stand there (own).
use Rattle.std.specs.Prelude.{◌≡◌, Bool, true, false, List, [], ◌∷◌, Option, Some, None, Ok, Err}
use Rattle.nm_base.specs.declared.token.Token.{Token}
use Rattle.nm_base.specs.declared.refusal.Left.{Left}
use Rattle.nesc_tree.specs.Sorts.{Names}
use Rattle.nesc_tree.specs.Phrase.{Phrase}
use Rattle.nesc_tree.specs.Reading.{Syntax, Deep, Answer}
use Rattle.nesc_left_out.specs.declared.left.Place.{Place}
use Rattle.nesc_left_out.specs.Left.{Row, IsListed, IsMeant}

abbrev pub is_empty : List Token → Bool
is_empty [] = true
is_empty (t ∷ ts) = false

-- whether reading came to the last token, which alone may be too deep
abbrev pub is_ended : {A : Type 0} → Answer A → Bool
is_ended (Ok x) = is_empty x.1.rest
is_ended (Err (Syntax ts)) = is_empty ts
is_ended (Err (Deep ts)) = true

-- whether it is so
abbrev pub Tells : Type 0 → Bool → Type 0
Tells X true = X
Tells X false = X → ⊥

-- which form of this row is meant behind the tokens
abbrev pub TellsRow : (k : Phrase) → Names → List Token → Row → Option Left → Type 0
TellsRow k names before row (Some word) = (place : Place) × (row ≡ Some (word, place)) × IsMeant k names before place
TellsRow k names before row None = (word : Left) (place : Place) → row ≡ Some (word, place) → IsMeant k names before place → ⊥

-- which form that is left out the token begins behind the others
abbrev pub TellsForm : (k : Phrase) → Names → List Token → Token → Option Left → Type 0
TellsForm k names before t (Some word) = (place : Place) × IsListed t word place × IsMeant k names before place
TellsForm k names before t None = (word : Left) (place : Place) → IsListed t word place → IsMeant k names before place → ⊥
