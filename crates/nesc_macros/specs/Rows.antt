-- Worked rows of macro expansion (C99 6.10.3, its examples in part; own: the counts).
use Rattle.std.specs.Prelude.{◌≡◌, ℕ, ◌-◌, false, List, [], ◌∷◌, codes, map, Option, Some, None, Result, Ok, Err}
use Rattle.nm_base.specs.declared.limit.TheConstants.{MAX_TOKENS}
use Rattle.nm_base.specs.declared.token.Kind.{Kind}
use Rattle.nm_base.specs.declared.token.Kind.TheVariants.{Word, Number, Sign}
use Rattle.nm_base.specs.declared.token.Token.{Token}
use Rattle.nm_base.specs.declared.refusal.Refusal.TheVariants as refusal
use Rattle.nm_base.specs.declared.fault.Fault.{Fault}
use Rattle.nm_base.specs.declared.fault.Fault.TheVariants as fault
use Rattle.nesc_macros.specs.declared.definition.Macro.{Macro}
use Rattle.nesc_macros.specs.Invocation.{Name}
use Rattle.nesc_macros.specs.Expansion.{Answer, expanded_tokens, too_many}

abbrev pub token : Kind → ℕ → Name → Token
token kind column text = record { kind = kind; text = text; pos = record { file = 0; line = 1; col = column }; first = false }

abbrev pub w : ℕ → Name → Token
w = token Word

abbrev pub s : ℕ → Name → Token
s = token Sign

abbrev pub n : ℕ → Name → Token
n = token Number

abbrev pub object : Name → List Token → Macro
object name replacement = record { name = name; parameters = None; replacement = replacement }

abbrev pub function : Name → List Name → List Token → Macro
function name parameters replacement = record { name = name; parameters = Some parameters; replacement = replacement }

abbrev pub Told : Type 0
Told = Option (Result (List Name) Fault × ℕ)

-- the spellings that a list expands to, and the count
abbrev pub told : Option (Answer (List Token)) → Told
told None = None
told (Some a) = elim (a.value) [ Ok ts ↦ Some (Ok (map (λ (t : Token). t.text) ts), a.count) | Err e ↦ Some (Err e, a.count) ]

-- #define f(x) x f
abbrev pub returns_name : List Macro
returns_name = function (codes "f") (codes "x" ∷ []) (w 1 (codes "x") ∷ w 3 (codes "f") ∷ []) ∷ []

-- #define f(a) a*g, #define g(a) f(a)
abbrev pub mutual_calls : List Macro
mutual_calls =
    function (codes "f") (codes "a" ∷ []) (w 1 (codes "a") ∷ s 2 (codes "*") ∷ w 3 (codes "g") ∷ [])
    ∷ function (codes "g") (codes "a" ∷ []) (w 1 (codes "f") ∷ s 2 (codes "(") ∷ w 3 (codes "a") ∷ s 4 (codes ")") ∷ [])
    ∷ []

-- #define a b 1, #define b a 2
abbrev pub mutual_objects : List Macro
mutual_objects =
    object (codes "a") (w 1 (codes "b") ∷ n 3 (codes "1") ∷ [])
    ∷ object (codes "b") (w 1 (codes "a") ∷ n 3 (codes "2") ∷ [])
    ∷ []

-- #define p(x,y) y x, #define e() 7, #define q p
abbrev pub pairs : List Macro
pairs =
    function (codes "p") (codes "x" ∷ codes "y" ∷ []) (w 1 (codes "y") ∷ w 3 (codes "x") ∷ [])
    ∷ function (codes "e") [] (n 1 (codes "7") ∷ [])
    ∷ object (codes "q") (w 1 (codes "p") ∷ [])
    ∷ []

-- f(1)(2), f(2)(9) and f(1
abbrev pub twice : Name → Name → List Token
twice x y = w 1 (codes "f") ∷ s 2 (codes "(") ∷ n 3 x ∷ s 4 (codes ")") ∷ s 5 (codes "(") ∷ n 6 y ∷ s 7 (codes ")") ∷ []

abbrev pub no_close : List Token
no_close = w 1 (codes "f") ∷ s 2 (codes "(") ∷ n 3 (codes "1") ∷ []

-- q((1,2),3)
abbrev pub nested_comma : List Token
nested_comma =
    w 1 (codes "q") ∷ s 2 (codes "(") ∷ s 3 (codes "(") ∷ n 4 (codes "1") ∷ s 5 (codes ",") ∷ n 6 (codes "2") ∷ s 7 (codes ")")
    ∷ s 8 (codes ",") ∷ n 9 (codes "3") ∷ s 10 (codes ")") ∷ []

-- p(,e())
abbrev pub empty_argument : List Token
empty_argument = w 1 (codes "p") ∷ s 2 (codes "(") ∷ s 3 (codes ",") ∷ w 4 (codes "e") ∷ s 5 (codes "(") ∷ s 6 (codes ")") ∷ s 7 (codes ")") ∷ []

-- p(1)
abbrev pub one_for_two : List Token
one_for_two = w 4 (codes "p") ∷ s 5 (codes "(") ∷ n 6 (codes "1") ∷ s 7 (codes ")") ∷ []

abbrev pub misused_at : ℕ → ℕ → Told
misused_at column count = Some (Err (fault.Refused (refusal.MacroArguments (record { file = 0; line = 1; col = column }))), count)

pub record WorkedRows : Type 0 where
  pub returned_name : told (expanded_tokens 20 returns_name 0 (twice (codes "1") (codes "2"))) ≡ Some (Ok (codes "1" ∷ codes "f" ∷ codes "(" ∷ codes "2" ∷ codes ")" ∷ []), 2)
  pub rescanned : told (expanded_tokens 20 mutual_calls 0 (twice (codes "2") (codes "9"))) ≡ Some (Ok (codes "2" ∷ codes "*" ∷ codes "9" ∷ codes "*" ∷ codes "g" ∷ []), 10)
  pub unclosed : told (expanded_tokens 20 returns_name 0 no_close) ≡ misused_at 1 0
  pub no_parenthesis : told (expanded_tokens 20 returns_name 0 (w 1 (codes "f") ∷ n 3 (codes "1") ∷ [])) ≡ Some (Ok (codes "f" ∷ codes "1" ∷ []), 0)
  pub each_names_the_other : told (expanded_tokens 20 mutual_objects 0 (w 1 (codes "a") ∷ [])) ≡ Some (Ok (codes "a" ∷ codes "2" ∷ codes "1" ∷ []), 4)
  pub comma_in_parentheses : told (expanded_tokens 20 pairs 0 nested_comma) ≡ Some (Ok (codes "3" ∷ codes "(" ∷ codes "1" ∷ codes "," ∷ codes "2" ∷ codes ")" ∷ []), 7)
  pub empty : told (expanded_tokens 20 pairs 0 empty_argument) ≡ Some (Ok (codes "7" ∷ []), 2)
  pub too_few : told (expanded_tokens 20 pairs 0 one_for_two) ≡ misused_at 4 0
  pub at_the_limit : told (expanded_tokens 20 mutual_objects (MAX_TOKENS - 4) (w 1 (codes "a") ∷ [])) ≡ Some (Ok (codes "a" ∷ codes "2" ∷ codes "1" ∷ []), MAX_TOKENS)
  pub past_the_limit : told (expanded_tokens 20 mutual_objects (MAX_TOKENS - 3) (w 1 (codes "a") ∷ [])) ≡ Some (Err too_many, MAX_TOKENS - 1)
