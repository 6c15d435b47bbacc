-- Levels of precedence, from C99 6.5: an expression of a level is one of every lower level too.
use Rattle.std.specs.Prelude.{ℕ}

abbrev pub comma : ℕ
comma = 0

abbrev pub assignment : ℕ
assignment = 1

abbrev pub conditional : ℕ
conditional = 2

abbrev pub logical_or : ℕ
logical_or = 3

abbrev pub logical_and : ℕ
logical_and = 4

abbrev pub bit_or : ℕ
bit_or = 5

abbrev pub bit_xor : ℕ
bit_xor = 6

abbrev pub bit_and : ℕ
bit_and = 7

abbrev pub equality : ℕ
equality = 8

abbrev pub relational : ℕ
relational = 9

abbrev pub shift : ℕ
shift = 10

abbrev pub additive : ℕ
additive = 11

abbrev pub multiplicative : ℕ
multiplicative = 12

abbrev pub cast : ℕ
cast = 13

abbrev pub unary : ℕ
unary = 14

abbrev pub postfix : ℕ
postfix = 15
