-- Worked rows of conditions (C99 6.5, 6.6, 6.10.1; own: 64 bits that wrap).
use Rattle.std.specs.Prelude.{◌≡◌, ◌-◌, ◌^◌, ℤ, pos, negsuc, false, List, [], ◌∷◌, codes, map, Option, Some, None}
use Rattle.nm_base.specs.declared.token.Kind.{Kind}
use Rattle.nm_base.specs.declared.token.Kind.TheVariants.{Word, Number, Char, Sign}
use Rattle.nm_base.specs.declared.token.Token.{Token}
use Rattle.nesc_macros.specs.Invocation.{Name}
use Rattle.std.specs.Option.{option_map}
use Rattle.nesc_macros.specs.declared.definition.Macro.{Macro}
use Rattle.nesc_conditions.specs.Conditions.{condition}
use Rattle.nesc_conditions.specs.Resolved.{resolved}

abbrev pub token : Kind → Name → Token
token kind text = record { kind = kind; text = text; pos = record { file = 0; line = 1; col = 1 }; first = false }

abbrev pub n : Name → Token
n = token Number

abbrev pub s : Name → Token
s = token Sign

abbrev pub w : Name → Token
w = token Word

abbrev pub Line : Type 0
Line = List Token

-- 1+2*3==7
abbrev pub levels : Line
levels = n (codes "1") ∷ s (codes "+") ∷ n (codes "2") ∷ s (codes "*") ∷ n (codes "3") ∷ s (codes "==") ∷ n (codes "7") ∷ []

-- 1/0
abbrev pub zero_divisor : Line
zero_divisor = n (codes "1") ∷ s (codes "/") ∷ n (codes "0") ∷ []

-- 1 ? 2 : 0 ? 3 : 4
abbrev pub conditionals : Line
conditionals =
    n (codes "1") ∷ s (codes "?") ∷ n (codes "2") ∷ s (codes ":") ∷ n (codes "0") ∷ s (codes "?") ∷ n (codes "3")
    ∷ s (codes ":") ∷ n (codes "4") ∷ []

-- 10 - 2 - 3
abbrev pub differences : Line
differences = n (codes "10") ∷ s (codes "-") ∷ n (codes "2") ∷ s (codes "-") ∷ n (codes "3") ∷ []

-- -1 >> 70
abbrev pub far_shift : Line
far_shift = s (codes "-") ∷ n (codes "1") ∷ s (codes ">>") ∷ n (codes "70") ∷ []

-- 0x7fffffffffffffff + 1
abbrev pub greatest_and_one : Line
greatest_and_one = n (codes "0x7fffffffffffffff") ∷ s (codes "+") ∷ n (codes "1") ∷ []

-- -2^63
abbrev pub least : ℤ
least = negsuc (2 ^ 63 - 1)

-- (1 << 63) / -1
abbrev pub least_quotient : Line
least_quotient =
    s (codes "(") ∷ n (codes "1") ∷ s (codes "<<") ∷ n (codes "63") ∷ s (codes ")") ∷ s (codes "/") ∷ s (codes "-") ∷ n (codes "1") ∷ []

-- (1/0, 2)
abbrev pub comma : Line
comma = s (codes "(") ∷ n (codes "1") ∷ s (codes "/") ∷ n (codes "0") ∷ s (codes ",") ∷ n (codes "2") ∷ s (codes ")") ∷ []

-- defined a && defined ( b )
abbrev pub two_defined : Line
two_defined = w (codes "defined") ∷ w (codes "a") ∷ s (codes "&&") ∷ w (codes "defined") ∷ s (codes "(") ∷ w (codes "b") ∷ s (codes ")") ∷ []

-- #define a
abbrev pub only_a : List Macro
only_a = record { name = codes "a"; parameters = None; replacement = [] } ∷ []

abbrev pub spellings : Option (List Token) → Option (List Name)
spellings = option_map (map (λ (t : Token). t.text))

pub record WorkedRows : Type 0 where
  pub by_levels : condition 40 levels ≡ Some (Some (pos 1))
  pub not_evaluated : condition 40 (n (codes "0") ∷ s (codes "&&") ∷ zero_divisor) ≡ Some (Some (pos 0))
  pub evaluated : condition 40 zero_divisor ≡ Some None
  pub shift_of_all_bits : condition 40 far_shift ≡ Some (Some (negsuc 0))
  pub shift_to_the_sign : condition 40 (n (codes "1") ∷ s (codes "<<") ∷ n (codes "63") ∷ []) ≡ Some (Some least)
  pub wraps : condition 40 greatest_and_one ≡ Some (Some least)
  pub signed_character : condition 40 (token Char (codes "'\\xff'") ∷ []) ≡ Some (Some (negsuc 0))
  pub right_associative : condition 40 conditionals ≡ Some (Some (pos 2))
  pub unclosed : condition 40 (s (codes "(") ∷ n (codes "1") ∷ []) ≡ Some None
  pub left_associative : condition 40 differences ≡ Some (Some (pos 5))
  pub complement : condition 40 (s (codes "~") ∷ n (codes "0") ∷ []) ≡ Some (Some (negsuc 0))
  pub negation : condition 40 (s (codes "!") ∷ n (codes "5") ∷ []) ≡ Some (Some (pos 0))
  pub word : condition 40 (w (codes "a") ∷ []) ≡ Some (Some (pos 0))
  pub least_quotient_wraps : condition 40 least_quotient ≡ Some (Some least)
  pub comma_evaluates_both : condition 40 comma ≡ Some None
  pub told : spellings (resolved only_a two_defined) ≡ Some (codes "1" ∷ codes "&&" ∷ codes "0" ∷ [])
  pub no_name : resolved only_a (w (codes "defined") ∷ n (codes "1") ∷ []) ≡ None
