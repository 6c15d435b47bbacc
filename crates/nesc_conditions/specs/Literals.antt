-- The values of integer and character literals (C99 6.4.4; own: signed numbers of 64 bits that wrap, no literal from 2^128 on).
use Rattle.std.specs.Prelude.{ℕ, ◌+◌, ◌-◌, ◌*◌, ◌^◌, ℤ, pos, Bool, true, false, not, cond, ◌&&◌, List, [], ◌∷◌, nat_eq, nat_lt, nat_le, codes, length, take, drop, Option, Some, None}
use Rattle.std.specs.Int.{int_wrap, w8, w64}
use Rattle.std.specs.List.{list_all}
use Rattle.std.specs.Option.{option_map}
use Rattle.std.specs.Char.{digit_value, is_digit}
use Rattle.nesc_conditions.specs.Signs.{lookup}

abbrev pub digit_0 : ℕ
digit_0 = 48

abbrev pub backslash : ℕ
backslash = 92

abbrev pub letter_x : ℕ
letter_x = 120

-- ---- digits

-- the number that the digits at the front write, behind those of n; what follows them is a suffix
abbrev pub digits_onto : ℕ → ℕ → List ℕ → ℕ
digits_onto radix n [] = n
digits_onto radix n (b ∷ bs) = elim (is_digit b radix) [ true ↦ digits_onto radix (n * radix + digit_value b) bs | false ↦ n ]

abbrev pub bounded : ℕ → Option ℕ
bounded n = cond (nat_lt n (2 ^ 128)) (Some n) None

abbrev pub digits_of : ℕ → List ℕ → Option ℕ
digits_of radix bytes = bounded (digits_onto radix 0 bytes)

-- ---- integers

abbrev pub behind_0 : List ℕ → ℕ × List ℕ
behind_0 [] = (8, [])
behind_0 (b ∷ bs) = cond (nat_eq b letter_x) (16, bs) (8, b ∷ bs)

-- the radix, and what stands behind the letters that show it
abbrev pub radix_of : List ℕ → ℕ × List ℕ
radix_of [] = (10, [])
radix_of (b ∷ bs) = cond (nat_eq b digit_0) (behind_0 bs) (10, b ∷ bs)

abbrev pub integer_value : List ℕ → Option ℤ
integer_value text = option_map (λ n. int_wrap w64 (pos n)) (digits_of (radix_of text).0 (radix_of text).1)

-- ---- characters

-- the escapes of one letter
unfoldable pub simple_escapes : List (List ℕ × ℕ)
simple_escapes = (codes "n", 10) ∷ (codes "t", 9) ∷ (codes "r", 13) ∷ (codes "\\", 92) ∷ (codes "'", 39) ∷ (codes "\"", 34) ∷ []

-- one digit or more, and nothing else
abbrev pub are_digits : ℕ → List ℕ → Bool
are_digits radix bytes = not (nat_eq (length bytes) 0) && list_all (λ b. is_digit b radix) bytes

abbrev pub all_digits : ℕ → List ℕ → Option ℕ
all_digits radix bytes = cond (are_digits radix bytes) (digits_of radix bytes) None

-- one to three octal digits, or `x` and one or two hexadecimal digits
abbrev pub numeric_escape : List ℕ → Option ℕ
numeric_escape [] = None
numeric_escape (b ∷ bs) = cond (nat_eq b letter_x) (all_digits 16 bs) (all_digits 8 (b ∷ bs))

abbrev pub short_escape : Bool → List ℕ → Option ℕ
short_escape true bytes = numeric_escape bytes
short_escape false bytes = None

abbrev pub escape_else : Option ℕ → List ℕ → Option ℕ
escape_else (Some n) bytes = Some n
escape_else None bytes = short_escape (nat_le (length bytes) 3) bytes

-- what stands behind a backslash
abbrev pub escape_value : List ℕ → Option ℕ
escape_value bytes = escape_else (lookup bytes simple_escapes) bytes

-- what stands between the quotes
abbrev pub quoted_value : List ℕ → Option ℕ
quoted_value [] = None
quoted_value (b ∷ []) = Some b
quoted_value (b ∷ a ∷ bs) = cond (nat_eq b backslash) (escape_value (a ∷ bs)) None

abbrev pub between_quotes : List ℕ → List ℕ
between_quotes text = take (length text - 2) (drop 1 text)

-- a character is a signed number of 8 bits
abbrev pub character_value : List ℕ → Option ℤ
character_value text = option_map (λ n. int_wrap w8 (pos n)) (quoted_value (between_quotes text))
