-- Laws of the command line.
use Rattle.std.specs.Prelude.{◌≡◌, List}
use Rattle.clap.specs.Words.{Text}
use Rattle.nm_words.specs.Asked.{Asked, AreInUse, AreWords, IsRefused}

abbrev pub AsksOneThing : Type 0
AsksOneThing = (words : List Text) (a b : Asked) → AreWords words a → AreWords words b → a ≡ b

abbrev pub RefusesOthersAlone : Type 0
RefusesOthersAlone = (words : List Text) → IsRefused words → AreInUse words → ⊥
