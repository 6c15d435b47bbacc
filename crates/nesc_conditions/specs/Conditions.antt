-- The value of a constant expression, by descent over its levels (C99 6.5, 6.6, 6.10.1; own: a comma may stand in it).
use Rattle.std.specs.Prelude.{ℕ, zero, suc, ◌+◌, ℤ, pos, Bool, true, false, List, [], ◌∷◌, nat_le, codes, Option, Some, None}
use Rattle.nm_base.specs.declared.token.Kind.TheVariants.{Word, Number, Char, Text, Sign}
use Rattle.nm_base.specs.declared.token.Token.{Token}
use Rattle.nesc_macros.specs.Invocation.{Name, is_sign}
use Rattle.nesc_macros.specs.Expansion.{Settles}
use Rattle.nesc_conditions.specs.declared.operator.Opening.{Opening}
use Rattle.nesc_conditions.specs.declared.operator.Opening.TheVariants.{Literal, Group, Prefix}
use Rattle.nesc_conditions.specs.declared.operator.Following.{Following}
use Rattle.nesc_conditions.specs.declared.operator.Following.TheVariants.{Infix, Conditional}
use Rattle.nesc_conditions.specs.Signs.{level_of, conditional_level, prefix_level, opening_sign_of, following_sign_of}
use Rattle.nesc_conditions.specs.Literals.{integer_value, character_value}
use Rattle.nesc_conditions.specs.Arithmetic.{Value, applied, prefixed, chosen}
use Rattle.std.specs.Option.{option_map}

-- ---- tokens

-- what an operand begins with, where the token can begin one; any word that is left is 0
abbrev pub opening_of : Token → Option Opening
opening_of t = elim (t.kind) [
  | Word ↦ Some (Literal (pos 0))
  | Number ↦ option_map Literal (integer_value t.text)
  | Char ↦ option_map Literal (character_value t.text)
  | Text ↦ None
  | Sign ↦ opening_sign_of t.text
]

-- what the token means behind an operand, where it goes on there
abbrev pub following_of : Token → Option Following
following_of t = elim (t.kind) [ Sign ↦ following_sign_of t.text | _ ↦ None ]

abbrev pub following_level : Following → ℕ
following_level (Infix operator) = level_of operator
following_level Conditional = conditional_level

abbrev pub if_reaches : ℕ → Option Following → Option Following
if_reaches level None = None
if_reaches level (Some f) = elim (nat_le level (following_level f)) [ true ↦ Some f | false ↦ None ]

-- the same, where it binds at least as tightly as this level
abbrev pub following_at : ℕ → Token → Option Following
following_at level t = if_reaches level (following_of t)

-- ---- answers

-- a value, and the tokens behind the expression that has it
pub record Reading : Type 0 where
  pub value : Value
  pub rest : List Token

-- None in too few steps; Some None where the text is malformed
abbrev pub Parsed : Type 0
Parsed = Option (Option Reading)

abbrev pub malformed : Parsed
malformed = Some None

abbrev pub gives : Value → List Token → Parsed
gives value rest = Some (Some (record { value = value; rest = rest }))

abbrev pub unless_malformed : Option Reading → (Reading → Parsed) → Parsed
unless_malformed None go = malformed
unless_malformed (Some reading) go = go reading

abbrev pub and_then : Parsed → (Reading → Parsed) → Parsed
and_then None go = None
and_then (Some answer) go = unless_malformed answer go

abbrev pub if_stands : Bool → Value → List Token → (Reading → Parsed) → Parsed
if_stands true value ts go = go (record { value = value; rest = ts })
if_stands false value ts go = malformed

-- behind a sign that has to stand next
abbrev pub past : Name → Value → List Token → (Reading → Parsed) → Parsed
past sign value [] go = malformed
past sign value (t ∷ ts) go = if_stands (is_sign sign t) value ts go

-- ---- expressions

pub data Part : Type 0 where
  -- an operand, and the operators of at least this level behind it
  From : ℕ → Part
  -- the operators of at least this level behind a value
  Behind : ℕ → Value → Part

-- an operand that begins so before ts, and the operators behind it; `go` reads the parts
abbrev pub operand : (Part → List Token → Parsed) → ℕ → Option Opening → List Token → Parsed
operand go level None ts = malformed
operand go level (Some (Literal x)) ts = go (Behind level (Some x)) ts
operand go level (Some Group) ts = and_then (go (From 0) ts) (λ inner. past (codes ")") inner.value inner.rest (λ r. go (Behind level r.value) r.rest))
operand go level (Some (Prefix operator)) ts = and_then (go (From prefix_level) ts) (λ r. go (Behind level (prefixed operator r.value)) r.rest)

-- what goes on behind the value before t and ts
abbrev pub following : (Part → List Token → Parsed) → ℕ → Value → Token → List Token → Option Following → Parsed
following go level value t ts None = gives value (t ∷ ts)
following go level value t ts (Some (Infix operator)) =
    and_then (go (From (level_of operator + 1)) ts) (λ right. go (Behind level (applied operator value right.value)) right.rest)
following go level value t ts (Some Conditional) =
    and_then (go (From 0) ts) (λ y. past (codes ":") y.value y.rest (λ y.
    and_then (go (From conditional_level) y.rest) (λ z. go (Behind level (chosen value y.value z.value)) z.rest)))

-- a part of an expression at the front of the tokens, in at most so many steps
abbrev pub parsed : ℕ → Part → List Token → Parsed
parsed zero part ts = None
parsed (suc steps) (From level) [] = malformed
parsed (suc steps) (From level) (t ∷ ts) = operand (parsed steps) level (opening_of t) ts
parsed (suc steps) (Behind level value) [] = gives value []
parsed (suc steps) (Behind level value) (t ∷ ts) = following (parsed steps) level value t ts (following_at level t)

-- ---- whole lines

abbrev pub if_nothing_left : Value → List Token → Option ℤ
if_nothing_left value [] = value
if_nothing_left value (_ ∷ _) = None

abbrev pub whole : Option Reading → Option ℤ
whole None = None
whole (Some r) = if_nothing_left r.value r.rest

abbrev pub whole_of : Parsed → Option (Option ℤ)
whole_of None = None
whole_of (Some answer) = Some (whole answer)

-- the value of a line in at most so many steps, None where it is malformed or a zero divisor is evaluated
abbrev pub condition : ℕ → List Token → Option (Option ℤ)
condition steps ts = whole_of (parsed steps (From 0) ts)

-- the line has this value
abbrev pub ConditionIs : List Token → Option ℤ → Type 0
ConditionIs ts value = Settles (λ steps. condition steps ts) value
