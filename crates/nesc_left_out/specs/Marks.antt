-- A word that is left out behind a sign alone (own).
use Rattle.std.specs.Prelude.{Bool, false, ◌&&◌, if◌then◌else◌, List, [], ◌∷◌, codes}
use Rattle.nm_base.specs.declared.token.Token.{Token}
use Rattle.nm_base.specs.declared.token.Kind.TheVariants as k
use Rattle.nesc_grammar.specs.Grammar.{spelled}

-- a sign of this spelling stands in no form
abbrev pub as_sign : Token → Token
as_sign t = record t { kind = k.Sign }

-- behind `@` the word `hwevent` is none
abbrev pub marked_one : Bool → Token → Token
marked_one behind_at t = if behind_at && spelled t (codes "hwevent") then as_sign t else t

abbrev pub marked_behind : Bool → List Token → List Token
marked_behind behind_at [] = []
marked_behind behind_at (t ∷ ts) = marked_one behind_at t ∷ marked_behind (spelled t (codes "@")) ts

abbrev pub marked : List Token → List Token
marked ts = marked_behind false ts
