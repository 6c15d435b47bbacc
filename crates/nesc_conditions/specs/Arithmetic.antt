-- What the operators give (C99 6.5, 6.6; own: signed numbers of 64 bits that wrap, and shifts by any count).
use Rattle.std.specs.Prelude.{ℤ, pos, negsuc, ◌+ℤ◌, ◌-ℤ◌, ◌*ℤ◌, neg_ℤ, int_lt, int_le, int_rem, Bool, true, false, not, cond, ◌&&◌, ◌||◌, nat_lt, Option, Some, None}
use Rattle.std.specs.Int.{int_wrap, int_wrapping_div, int_bit_and, int_bit_or, int_bit_xor, int_bit_not, int_shl, int_shr, is_negative, w64}
use Rattle.std.specs.Ordering.{int_eq}
use Rattle.std.specs.Option.{option_map}
use Rattle.nesc_conditions.specs.declared.operator.Operator.{Operator}
use Rattle.nesc_conditions.specs.declared.operator.Operator.TheVariants.{Comma, Or, And, BitOr, BitXor, BitAnd, Equal, NotEqual, Less, Greater, LessOrEqual, GreaterOrEqual, ShiftLeft, ShiftRight, Add, Subtract, Multiply, Divide, Remainder}
use Rattle.nesc_conditions.specs.declared.operator.Prefix.{Prefix}
use Rattle.nesc_conditions.specs.declared.operator.Prefix.TheVariants.{Plus, Minus, Complement, Not}

-- the value of an expression, None where a zero divisor was evaluated
abbrev pub Value : Type 0
Value = Option ℤ

abbrev pub wrapped : ℤ → ℤ
wrapped = int_wrap w64

abbrev pub is_true : ℤ → Bool
is_true x = not (int_eq x (pos 0))

abbrev pub truth : Bool → ℤ
truth b = cond b (pos 1) (pos 0)

-- ---- shifts

abbrev pub shifted_left : ℤ → ℤ → ℤ
shifted_left x (pos count) = cond (nat_lt count 64) (int_shl w64 x count) (pos 0)
shifted_left x (negsuc _) = pos 0

-- where all bits are those of the sign
abbrev pub sign_of : ℤ → ℤ
sign_of x = cond (is_negative x) (negsuc 0) (pos 0)

abbrev pub shifted_right : ℤ → ℤ → ℤ
shifted_right x (pos count) = cond (nat_lt count 64) (int_shr x count) (sign_of x)
shifted_right x (negsuc _) = sign_of x

-- ---- operators of two operands

abbrev pub unless_zero : ℤ → ℤ → Value
unless_zero divisor x = cond (is_true divisor) (Some x) None

-- where both operands have a value
abbrev pub computed : Operator → ℤ → ℤ → Value
computed Comma a b = Some b
computed Or a b = Some (truth (is_true a || is_true b))
computed And a b = Some (truth (is_true a && is_true b))
computed BitOr a b = Some (int_bit_or w64 a b)
computed BitXor a b = Some (int_bit_xor w64 a b)
computed BitAnd a b = Some (int_bit_and w64 a b)
computed Equal a b = Some (truth (int_eq a b))
computed NotEqual a b = Some (truth (not (int_eq a b)))
computed Less a b = Some (truth (int_lt a b))
computed Greater a b = Some (truth (int_lt b a))
computed LessOrEqual a b = Some (truth (int_le a b))
computed GreaterOrEqual a b = Some (truth (int_le b a))
computed ShiftLeft a b = Some (shifted_left a b)
computed ShiftRight a b = Some (shifted_right a b)
computed Add a b = Some (wrapped (a +ℤ b))
computed Subtract a b = Some (wrapped (a -ℤ b))
computed Multiply a b = Some (wrapped (a *ℤ b))
computed Divide a b = unless_zero b (int_wrapping_div w64 a b)
computed Remainder a b = unless_zero b (int_rem a b)

-- the left operand alone decides
abbrev pub is_decided : Operator → ℤ → Bool
is_decided Or a = is_true a
is_decided And a = not (is_true a)
is_decided _ a = false

abbrev pub unless_decided : Bool → Operator → ℤ → Value → Value
unless_decided true operator a b = Some (truth (is_true a))
unless_decided false operator a None = None
unless_decided false operator a (Some b) = computed operator a b

abbrev pub applied : Operator → Value → Value → Value
applied operator None b = None
applied operator (Some a) b = unless_decided (is_decided operator a) operator a b

-- ---- other operators

abbrev pub prefix_computed : Prefix → ℤ → ℤ
prefix_computed Plus x = x
prefix_computed Minus x = wrapped (neg_ℤ x)
prefix_computed Complement x = int_bit_not w64 x
prefix_computed Not x = truth (not (is_true x))

abbrev pub prefixed : Prefix → Value → Value
prefixed operator = option_map (prefix_computed operator)

-- one of two operands of a conditional
abbrev pub chosen : Value → Value → Value → Value
chosen None y z = None
chosen (Some c) y z = cond (is_true c) y z
