-- How far some text of a phrase goes on with the tokens.
use Rattle.std.specs.Prelude.{◌≡◌, ℕ, List, [], ◌∷◌, ◌++◌}
use Rattle.nm_base.specs.declared.token.Token.{Token}
use Rattle.nesc_tree.specs.Sorts.{Names}
use Rattle.nesc_tree.specs.Phrase.{Phrase, Of}
use Rattle.nesc_tree.specs.Form.{SpellsIn}
use Rattle.nesc_grammar.specs.Production.{production}

-- the tokens spell the tree, with at most so many levels
pub record SpelledIn (levels : ℕ) (k : Phrase) (names : Names) (tree : Of k) (ts : List Token) : Type 0 where
  pub after : Names
  pub spells : SpellsIn production levels k (record { names = names; rest = ts }) tree (record { names = after; rest = [] })

-- however many levels it has
pub record Spelled (k : Phrase) (names : Names) (tree : Of k) (ts : List Token) : Type 0 where
  pub levels : ℕ
  pub spelled : SpelledIn levels k names tree ts

-- some text of at most so many levels begins with the tokens
pub record BeginsIn (levels : ℕ) (k : Phrase) (names : Names) (ts : List Token) : Type 0 where
  pub more : List Token
  pub tree : Of k
  pub spelled : SpelledIn levels k names tree (ts ++ more)

pub record Begins (k : Phrase) (names : Names) (ts : List Token) : Type 0 where
  pub levels : ℕ
  pub begins : BeginsIn levels k names ts

-- the tokens before rest are the longest run with which some text begins
pub record IsReach (k : Phrase) (names : Names) (before rest : List Token) : Type 0 where
  pub begins : Begins k names before
  pub longest : (t : Token) (ts : List Token) → rest ≡ t ∷ ts → Begins k names (before ++ (t ∷ [])) → ⊥

-- the first of the tokens in rest is one with which a text begins, but none of at most so many levels; one of those begins with the tokens before
pub record IsTooDeep (levels : ℕ) (k : Phrase) (names : Names) (before rest : List Token) : Type 0 where
  pub begins : BeginsIn levels k names before
  pub first : Token
  pub others : List Token
  pub is : rest ≡ first ∷ others
  pub goes_on : Begins k names (before ++ (first ∷ []))
  pub too_deep : BeginsIn levels k names (before ++ (first ∷ [])) → ⊥
