-- The token grammar: which bytes spell a token of which kind (C99 6.4; nesC 1.3 Reference for `<-` and `@`).
use Rattle.std.specs.Prelude.{ℕ, Bool, true, false, ◌&&◌, ◌||◌, ◌-◌, List, [], ◌∷◌, nat_eq, nat_le, nat_lt, ◌==◌, codes, length, take, drop, slice_index}
use Rattle.std.specs.List.{list_all, list_any, prefix_len}
use Rattle.std.specs.Cmp.Lexicographic.{pointwise}
use Rattle.std.specs.Char.{is_ascii_digit, is_ascii_hexdigit}
use Rattle.nm_base.specs.declared.token.Kind.{Kind}
use Rattle.nm_base.specs.declared.token.Kind.TheVariants.{Word, Number, Char, Text, Sign}
use Rattle.nesc_tokens.specs.CodePoints.{quotation_mark, apostrophe, digit_0, backslash, letter_x, is_letter, is_word_byte, is_octal_digit, is_nonzero_digit, is_plain}

abbrev pub same_bytes : List ℕ → List ℕ → Bool
same_bytes = pointwise nat_eq

-- the bytes are one of the texts
abbrev pub is_one_of : List (List ℕ) → List ℕ → Bool
is_one_of texts bytes = list_any (same_bytes bytes) texts

-- ---- words (C99 6.4.2.1)

abbrev pub is_word : List ℕ → Bool
is_word [] = false
is_word (b ∷ bs) = is_letter b && list_all is_word_byte bs

-- ---- numbers (C99 6.4.4.1; own: no `0X`, and no `LL`)

-- U and L in any case and order, each at most once
unfoldable pub suffixes : List (List ℕ)
suffixes =
    [] ∷ codes "u" ∷ codes "U" ∷ codes "l" ∷ codes "L" ∷ codes "ul" ∷ codes "uL" ∷ codes "Ul" ∷ codes "UL" ∷ codes "lu"
    ∷ codes "lU" ∷ codes "Lu" ∷ codes "LU" ∷ []

-- digits, and then a suffix
abbrev pub is_digits_and_suffix : (ℕ → Bool) → List ℕ → Bool
is_digits_and_suffix digit bytes = is_one_of suffixes (drop (prefix_len digit bytes) bytes)

abbrev pub is_decimal : List ℕ → Bool
is_decimal [] = false
is_decimal (b ∷ bs) = is_nonzero_digit b && is_digits_and_suffix is_ascii_digit bs

abbrev pub is_octal : List ℕ → Bool
is_octal [] = false
is_octal (b ∷ bs) = b == digit_0 && is_digits_and_suffix is_octal_digit bs

abbrev pub is_hexadecimal : List ℕ → Bool
is_hexadecimal (z ∷ x ∷ d ∷ bs) =
    z == digit_0 && x == letter_x && is_ascii_hexdigit d && is_digits_and_suffix is_ascii_hexdigit bs
is_hexadecimal _ = false

abbrev pub is_number : List ℕ → Bool
is_number bytes = is_decimal bytes || is_octal bytes || is_hexadecimal bytes

-- ---- literals (C99 6.4.4.4, 6.4.5; own: fewer escapes, at most two hexadecimal digits, one byte or escape in a character,
-- bytes above 127 in texts only)

-- the escapes of one byte behind the backslash, but for digits
unfoldable pub simple_escapes : List (List ℕ)
simple_escapes = codes "n" ∷ codes "t" ∷ codes "r" ∷ codes "\\" ∷ codes "'" ∷ codes "\"" ∷ []

-- what stands behind the backslash of an escape
abbrev pub is_escape : List ℕ → Bool
is_escape (a ∷ []) = is_one_of simple_escapes (a ∷ []) || is_octal_digit a
is_escape (a ∷ b ∷ []) = (is_octal_digit a && is_octal_digit b) || (a == letter_x && is_ascii_hexdigit b)
is_escape (a ∷ b ∷ c ∷ []) =
    (is_octal_digit a && is_octal_digit b && is_octal_digit c) || (a == letter_x && is_ascii_hexdigit b && is_ascii_hexdigit c)
is_escape _ = false

-- between two quotes stands what passes the test
abbrev pub is_quoted : ℕ → (List ℕ → Bool) → List ℕ → Bool
is_quoted quote test bytes =
    nat_le 2 (length bytes) && slice_index bytes 0 == quote && slice_index bytes (length bytes - 1) == quote
    && test (take (length bytes - 2) (drop 1 bytes))

abbrev pub is_char_body : List ℕ → Bool
is_char_body [] = false
is_char_body (a ∷ []) = is_plain apostrophe a && nat_lt a 128
is_char_body (a ∷ b ∷ bs) = a == backslash && is_escape (b ∷ bs)

-- plain bytes and escapes; a second or third digit of an escape is a plain byte too
abbrev pub is_text_body : List ℕ → Bool
is_text_body [] = true
is_text_body (a ∷ []) = is_plain quotation_mark a
is_text_body (a ∷ b ∷ []) =
    elim (is_plain quotation_mark a) [
      | true ↦ is_text_body (b ∷ [])
      | false ↦ a == backslash && is_escape (b ∷ [])
    ]
is_text_body (a ∷ b ∷ c ∷ bs) =
    elim (is_plain quotation_mark a) [
      | true ↦ is_text_body (b ∷ c ∷ bs)
      | false ↦ elim (a == backslash && is_escape (b ∷ [])) [
        | true ↦ is_text_body (c ∷ bs)
        | false ↦ a == backslash && b == letter_x && is_ascii_hexdigit c && is_text_body bs
      ]
    ]

-- ---- signs

unfoldable pub signs : List (List ℕ)
signs =
    codes "->" ∷ codes "<-" ∷ codes "++" ∷ codes "--" ∷ codes "<<" ∷ codes ">>" ∷ codes "<=" ∷ codes ">=" ∷ codes "=="
    ∷ codes "!=" ∷ codes "&&" ∷ codes "||" ∷ codes "+=" ∷ codes "-=" ∷ codes "*=" ∷ codes "/=" ∷ codes "%=" ∷ codes "&="
    ∷ codes "|=" ∷ codes "^=" ∷ codes "<<=" ∷ codes ">>=" ∷ codes "..."
    ∷ codes "{" ∷ codes "}" ∷ codes "(" ∷ codes ")" ∷ codes "[" ∷ codes "]" ∷ codes ";" ∷ codes "," ∷ codes "." ∷ codes "<"
    ∷ codes ">" ∷ codes "=" ∷ codes "+" ∷ codes "-" ∷ codes "*" ∷ codes "/" ∷ codes "%" ∷ codes "&" ∷ codes "|" ∷ codes "^"
    ∷ codes "~" ∷ codes "!" ∷ codes "?" ∷ codes ":" ∷ codes "@" ∷ codes "#" ∷ []

-- ---- all of them

abbrev pub spells : Kind → List ℕ → Bool
spells Word = is_word
spells Number = is_number
spells Char = is_quoted apostrophe is_char_body
spells Text = is_quoted quotation_mark is_text_body
spells Sign = is_one_of signs
