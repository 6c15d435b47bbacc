-- What a function answers, seen as the form has it, is what reading by the form gives.
use Rattle.std.specs.Prelude.{◌≡◌, Option, Some, None, Ok, Err}
use denote.Ref.{Bor}
use Rattle.nm_base.specs.declared.token.Token.{Token}
use Rattle.nesc_tree.specs.Sorts.{Names}
use Rattle.nesc_tree.specs.Reading.{Answer}
use Rattle.nesc_parse_types.specs.Gives.{Fails, Found}

abbrev pub GivesAs : {X Y : Type 0} → (X → Y) → Names → Found X → Answer Y → Type 0
GivesAs shown names (Ok x) y = y ≡ Ok (shown x.0, record { names = names; rest = x.1.now })
GivesAs shown names (Err e) y = Fails e y

abbrev pub token_in : Option (Bor Token) → Option Token
token_in None = None
token_in (Some t) = Some t.now
