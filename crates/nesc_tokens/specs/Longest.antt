-- The longest spelling of one kind at the front of some bytes: what the parts of the lexer find (own).
use Rattle.std.specs.Prelude.{◌≡◌, ℕ, zero, suc, ◌+◌, ◌<◌, ◌≤◌, Bool, true, false, ◌&&◌, ◌==◌, nat_eq, nat_le, codes, cond, Option, Some, None, List, length, take, drop, slice_index}
use Rattle.std.specs.List.{list_any}
use Rattle.std.specs.Char.{is_ascii_digit, is_ascii_hexdigit}
use Rattle.nm_base.specs.declared.token.Kind.{Kind}
use Rattle.nm_base.specs.declared.token.Kind.TheVariants.{Word, Number, Char, Text, Sign}
use Rattle.nesc_tokens.specs.CodePoints.{apostrophe, quotation_mark, digit_0, letter_x, is_letter}
use Rattle.nesc_tokens.specs.Spelling.{spells, is_one_of, signs, suffixes, is_digits_and_suffix, is_text_body}

-- the only kind of which a spelling can begin with the byte
abbrev pub kind_at : ℕ → Kind
kind_at b =
    cond (is_letter b) Word
    (cond (is_ascii_digit b) Number
    (cond (b == apostrophe) Char
    (cond (b == quotation_mark) Text Sign)))

-- the first n bytes are the longest spelling of this kind
pub record IsLongestOf (kind : Kind) (n : ℕ) (bytes : List ℕ) : Type 0 where
  pub some : 0 < n
  pub within : n ≤ length bytes
  pub spelled : spells kind (take n bytes) ≡ true
  pub longest : (m : ℕ) → n < m → m ≤ length bytes → spells kind (take m bytes) ≡ false

-- no front of the bytes is a spelling of this kind
abbrev pub NoneOf : Kind → List ℕ → Type 0
NoneOf kind bytes = (m : ℕ) → m ≤ length bytes → spells kind (take m bytes) ≡ false

-- the longest spelling of this kind at the front, or none
abbrev pub LongestOf : Kind → Option ℕ → List ℕ → Type 0
LongestOf kind None bytes = NoneOf kind bytes
LongestOf kind (Some n) bytes = IsLongestOf kind n bytes

-- the first n bytes are the longest suffix of a number
pub record IsSuffix (n : ℕ) (bytes : List ℕ) : Type 0 where
  pub within : n ≤ length bytes
  pub spelled : is_one_of suffixes (take n bytes) ≡ true
  pub longest : (m : ℕ) → n < m → m ≤ length bytes → is_one_of suffixes (take m bytes) ≡ false

-- the first n bytes are the longest run of digits with a suffix
pub record IsDigits (digit : ℕ → Bool) (n : ℕ) (bytes : List ℕ) : Type 0 where
  pub within : n ≤ length bytes
  pub spelled : is_digits_and_suffix digit (take n bytes) ≡ true
  pub longest : (m : ℕ) → n < m → m ≤ length bytes → is_digits_and_suffix digit (take m bytes) ≡ false

-- the first n bytes of a text literal's body are a byte or an escape: the body goes on behind them, and the literal ends at
-- none of them
pub record IsTextItem (n : ℕ) (bytes : List ℕ) : Type 0 where
  pub within : n ≤ length bytes
  pub neutral : (k : ℕ) → is_text_body (take (n + k) bytes) ≡ is_text_body (take k (drop n bytes))
  pub unclosed : (k : ℕ) → k < n → (slice_index bytes k == quotation_mark && is_text_body (take k bytes)) ≡ false

-- no byte of a text literal's body and no escape stands at the front
abbrev pub NoTextItem : List ℕ → Type 0
NoTextItem bytes = (k : ℕ) → 0 < k → k ≤ length bytes → is_text_body (take k bytes) ≡ false

-- how many bytes the byte or the escape at the front has, and 0 where there is none
abbrev pub TextItem : ℕ → List ℕ → Type 0
TextItem zero bytes = NoTextItem bytes
TextItem (suc n) bytes = IsTextItem (suc n) bytes

-- `0x` and a hexadecimal digit stand at the front
abbrev pub begins_hexadecimal : List ℕ → Bool
begins_hexadecimal bytes =
    nat_le 3 (length bytes) && slice_index bytes 0 == digit_0 && slice_index bytes 1 == letter_x
    && is_ascii_hexdigit (slice_index bytes 2)

-- the longest run of bytes and escapes of a text literal's body at the front
abbrev pub IsTextRun : ℕ → List ℕ → Type 0
IsTextRun n bytes = IsTextItem n bytes × NoTextItem (drop n bytes)

-- ---- signs

-- the first m bytes are no sign
abbrev pub IsNoSign : ℕ → List ℕ → Type 0
IsNoSign m bytes = (nat_le m (length bytes) && is_one_of signs (take m bytes)) ≡ false

-- the bytes that stand second in a sign
abbrev pub is_second : ℕ → Bool
is_second b = list_any (λ c. nat_eq c b) (codes "-+<>=&|.")

-- the signs of one byte
abbrev pub is_single : ℕ → Bool
is_single b = list_any (λ c. nat_eq c b) (codes "{}()[];,.<>=+-*/%&|^~!?:@#")
