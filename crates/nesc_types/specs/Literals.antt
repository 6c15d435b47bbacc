-- The types and numbers of literals (C99, 6.4.4.1 and 6.4.4.4, where int has 16 bits and long 32, and no type is longer).
use Rattle.std.specs.Prelude.{ℕ, pos, Bool, true, false, ◌||◌, nat_eq, nat_le, int_le, if◌then◌else◌, List, [], ◌∷◌, Option, Some, None}
use Rattle.std.specs.List.{list_any}
use Rattle.std.specs.Option.{option_map}
use Rattle.nm_base.specs.declared.int_type.IntType.{IntType}
use Rattle.nm_base.specs.declared.int_type.IntType.TheVariants.{I16, U16, I32, U32}
use Rattle.nm_base.specs.IntType.{greatest}
use Rattle.nesc_conditions.specs.Literals.{radix_of, digits_of, character_value}
use Rattle.nesc_types.specs.Values.{Constant}

-- the types that a literal may have, the first that holds its number being its type: by whether it is decimal, and whether it
-- has a suffix U and a suffix L
abbrev pub candidates : (decimal unsigned long : Bool) → List IntType
candidates true false false = I16 ∷ I32 ∷ []
candidates true false true = I32 ∷ []
candidates false false false = I16 ∷ U16 ∷ I32 ∷ U32 ∷ []
candidates false false true = I32 ∷ U32 ∷ []
candidates true true false = U16 ∷ U32 ∷ []
candidates false true false = U16 ∷ U32 ∷ []
candidates true true true = U32 ∷ []
candidates false true true = U32 ∷ []

abbrev pub first_holding : ℕ → List IntType → Option IntType
first_holding n [] = None
first_holding n (t ∷ ts) = if int_le (pos n) (greatest t) then Some t else first_holding n ts

-- neither letter is a digit of any radix
abbrev pub is_unsigned : List ℕ → Bool
is_unsigned text = list_any (λ b. nat_eq b 117) text || list_any (λ b. nat_eq b 85) text

abbrev pub is_long : List ℕ → Bool
is_long text = list_any (λ b. nat_eq b 108) text || list_any (λ b. nat_eq b 76) text

abbrev pub typed : ℕ → Option IntType → Option Constant
typed n None = None
typed n (Some t) = Some (t, pos n)

abbrev pub within_32_bits : ℕ → Option ℕ
within_32_bits n = if nat_le n 4294967295 then Some n else None

-- None where the number has more than 32 bits
abbrev pub short : Option ℕ → Option ℕ
short None = None
short (Some n) = within_32_bits n

abbrev pub of_types : Option ℕ → List IntType → Option Constant
of_types None ts = None
of_types (Some n) ts = typed n (first_holding n ts)

-- a number's literal; None where no type holds it
abbrev pub number : List ℕ → Option Constant
number text =
    of_types (short (digits_of (radix_of text).0 (radix_of text).1))
    (candidates (nat_eq (radix_of text).0 10) (is_unsigned text) (is_long text))

-- a character's literal: an int, of the value of a char
abbrev pub character : List ℕ → Option Constant
character text = option_map (λ x. (I16, x)) (character_value text)
