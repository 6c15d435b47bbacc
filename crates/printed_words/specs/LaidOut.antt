-- Texts of words with white space between them, whose tokens are these words (C99 6.4: a token is as long as it can be).
use Rattle.std.specs.Prelude.{◌≡◌, ℕ, Bool, true, not, ◌||◌, if◌then◌else◌, List, [], ◌∷◌, ◌++◌, map, codes, nat_eq, ◌==◌}
use Rattle.std.specs.List.{list_all, list_any}
use Rattle.nm_base.specs.declared.token.Kind.{Kind}
use Rattle.nm_base.specs.declared.token.Token.{Token}
use Rattle.nesc_tokens.specs.CodePoints.{space, line_feed, apostrophe, quotation_mark, is_word_byte}
use Rattle.nesc_tokens.specs.Spelling.{spells}
use Rattle.nesc_tokens.specs.Lexes.{Lexes}

-- a token without its place
pub record Lexeme : Type 0 where
  pub kind : Kind
  pub text : List ℕ

abbrev pub lexeme_of : Token → Lexeme
lexeme_of t = record { kind = t.kind; text = t.text }

-- a spelling of its kind
abbrev pub is_whole : Lexeme → Bool
is_whole w = spells w.kind w.text

-- ---- where white space may be left out

abbrev pub is_among : List ℕ → ℕ → Bool
is_among bytes b = list_any (λ c. nat_eq c b) bytes

-- the bytes that stand in a sign behind its first, and those that make a comment of a slash
abbrev pub goes_on : ℕ → Bool
goes_on b = is_among (codes "-+<>=&|./*") b

-- the signs of one byte with which no other sign begins
abbrev pub is_closed : ℕ → Bool
is_closed b = is_among (codes "(){}[];,~?:@") b

-- white space that is printed
abbrev pub is_layout : ℕ → Bool
is_layout b = b == space || b == line_feed

abbrev pub ends_itself : ℕ → Bool
ends_itself a = is_layout a || a == apostrophe || a == quotation_mark || is_closed a

-- whether a token that ends with the first byte does not go on with the second
abbrev pub is_apart : ℕ → ℕ → Bool
is_apart a b = if is_word_byte a then not (is_word_byte b) else (ends_itself a || not (goes_on b))

-- whether the byte may stand directly behind the text
abbrev pub may_follow : List ℕ → ℕ → Bool
may_follow [] b = true
may_follow (a ∷ []) b = is_apart a b
may_follow (a ∷ c ∷ bytes) b = may_follow (c ∷ bytes) b

abbrev pub may_stand_behind : List ℕ → List ℕ → Bool
may_stand_behind text [] = true
may_stand_behind text (b ∷ bytes) = may_follow text b

-- ---- texts of words

-- the text is these words, one behind the other, and white space
pub data Laid : List ℕ → List Lexeme → Type 0 where
  nothing : {text : List ℕ} {words : List Lexeme} → text ≡ [] → words ≡ [] → Laid text words
  white : {text before : List ℕ} {words : List Lexeme} (b : ℕ) → is_layout b ≡ true → text ≡ before ++ b ∷ [] → Laid before words
      → Laid text words
  word : {text before : List ℕ} {words others : List Lexeme} (w : Lexeme) → may_stand_behind before w.text ≡ true
      → text ≡ before ++ w.text → words ≡ others ++ w ∷ [] → Laid before others → Laid text words

-- the text has tokens, and they are these words
pub record LexesTo (file : ℕ) (text : List ℕ) (words : List Lexeme) : Type 0 where
  pub tokens : List Token
  pub lexes : Lexes file text tokens
  pub are_words : map lexeme_of tokens ≡ words

-- words that are whole by themselves are the tokens of a text of them
abbrev pub LaidWordsLex : Type 0
LaidWordsLex = (file : ℕ) (text : List ℕ) (words : List Lexeme) → Laid text words → list_all is_whole words ≡ true
    → LexesTo file text words
