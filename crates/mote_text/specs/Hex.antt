-- Hexadecimal numbers of a fixed width (own).
use Rattle.std.specs.Prelude.{ℕ, ◌+◌, ◌/◌, ◌%◌, nat_lt, if◌then◌else◌, List, [], ◌∷◌}
use Rattle.std.specs.Char.{digit_char}

-- a digit below 16: 0 to 9, and then A to F
abbrev pub hex_upper : ℕ → ℕ
hex_upper d = if nat_lt d 10 then 48 + d else 55 + d

-- a byte as two upper-case digits
abbrev pub hex_byte : ℕ → List ℕ
hex_byte b = hex_upper (b / 16) ∷ hex_upper (b % 16) ∷ []

-- a word as four lower-case digits
abbrev pub hex_word : ℕ → List ℕ
hex_word w = digit_char (w / 0x1000) ∷ digit_char (w / 0x100 % 16) ∷ digit_char (w / 0x10 % 16) ∷ digit_char (w % 16) ∷ []
