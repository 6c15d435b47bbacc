-- The code points of ASCII that the lexical grammar names, and its classes of bytes.
use Rattle.std.specs.Prelude.{ℕ, Bool, not, ◌&&◌, ◌||◌, nat_le, ◌==◌}
use Rattle.std.specs.Char.{is_ascii_digit, is_ascii_alphabetic}

abbrev pub tab : ℕ
tab = 9

abbrev pub line_feed : ℕ
line_feed = 10

abbrev pub form_feed : ℕ
form_feed = 12

abbrev pub carriage_return : ℕ
carriage_return = 13

abbrev pub space : ℕ
space = 32

abbrev pub quotation_mark : ℕ
quotation_mark = 34

abbrev pub apostrophe : ℕ
apostrophe = 39

abbrev pub asterisk : ℕ
asterisk = 42

abbrev pub slash : ℕ
slash = 47

abbrev pub digit_0 : ℕ
digit_0 = 48

abbrev pub digit_1 : ℕ
digit_1 = 49

abbrev pub digit_7 : ℕ
digit_7 = 55

abbrev pub digit_9 : ℕ
digit_9 = 57

abbrev pub backslash : ℕ
backslash = 92

abbrev pub underscore : ℕ
underscore = 95

abbrev pub letter_x : ℕ
letter_x = 120

-- C99 6.4, without the vertical tab (own); a line feed ends a line
abbrev pub is_white_space : ℕ → Bool
is_white_space b = b == space || b == tab || b == carriage_return || b == line_feed || b == form_feed

abbrev pub ends_line : ℕ → Bool
ends_line b = b == line_feed

-- C99 6.4.2.1
abbrev pub is_letter : ℕ → Bool
is_letter b = is_ascii_alphabetic b || b == underscore

abbrev pub is_word_byte : ℕ → Bool
is_word_byte b = is_letter b || is_ascii_digit b

-- C99 6.4.4.1
abbrev pub is_octal_digit : ℕ → Bool
is_octal_digit b = nat_le digit_0 b && nat_le b digit_7

abbrev pub is_nonzero_digit : ℕ → Bool
is_nonzero_digit b = nat_le digit_1 b && nat_le b digit_9

-- a byte that stands for itself between quotes of this sort (C99 6.4.4.4, 6.4.5)
abbrev pub is_plain : ℕ → ℕ → Bool
is_plain quote b = not (b == quote || b == backslash || b == line_feed)
