-- The code of each routine: shift and add for products, restoring division, shifts one bit at a time (own).
use Rattle.std.specs.Prelude.{ℕ, ◌/◌, ◌%◌, Bool, true, false, List, [], ◌∷◌, Option, Some, if◌then◌else◌}
use Rattle.nm_base.specs.declared.int_type.IntType.{IntType}
use Rattle.nm_base.specs.declared.int_type.IntType.TheVariants.{I8, U8, I16, U16, I32, U32}
use Rattle.msp_isa.specs.declared.instr.Cond.TheVariants.{Jne, Jnc, Jc}
use Rattle.msp_isa.specs.declared.instr.Op2.TheVariants.{Mov, Add, Addc, Subc, Sub, Cmp, And, Bis}
use Rattle.mid_code.specs.declared.help.HelpOp.{HelpOp}
use Rattle.mid_code.specs.declared.help.HelpOp.TheVariants.{Mul, Div, Rem, Shl, Shr}
use Rattle.mid_code.specs.Help.{operation_at, type_at}
use Rattle.open_law.specs.Homes.{Source, Of, InRegister, literal}
use Rattle.msp_runtime.specs.Code.{Code, Nothing, Do, Then, Skip, Times, Keeping}

abbrev pub all : List Code → Code
all [] = Nothing
all (c ∷ cs) = Then c (all cs)

abbrev pub register : ℕ → Source
register r = Of (InRegister r)

abbrev pub copy : (q r : ℕ) → Code
copy q r = Do Mov (register q) r

abbrev pub set : (n r : ℕ) → Code
set n r = Do Mov (literal n) r

abbrev pub add : (q r : ℕ) → Code
add q r = Do Add (register q) r

abbrev pub add_carry : (q r : ℕ) → Code
add_carry q r = Do Addc (register q) r

abbrev pub subtract : (q r : ℕ) → Code
subtract q r = Do Sub (register q) r

abbrev pub subtract_carry : (q r : ℕ) → Code
subtract_carry q r = Do Subc (register q) r

abbrev pub compare : (q r : ℕ) → Code
compare q r = Do Cmp (register q) r

abbrev pub count_up : ℕ → Code
count_up r = Do Add (literal 1) r

-- code that is done where a register holds n or more, or less than n
abbrev pub where_least : (n r : ℕ) → Code → Code
where_least n r c = Then (Do Cmp (literal n) r) (Skip Jnc c)

abbrev pub where_below : (n r : ℕ) → Code → Code
where_below n r c = Then (Do Cmp (literal n) r) (Skip Jc c)

-- all bits of r as the top bit of q
abbrev pub fill : (q r : ℕ) → Code
fill q r = all (set 0 r ∷ where_least 0x8000 q (set 0xFFFF r) ∷ [])

abbrev pub fill_if : (is_signed : Bool) → (q r : ℕ) → Code
fill_if is_signed q r = if is_signed then fill q r else set 0 r

-- ---- 16 bits: x in R12, y or the count in R13

abbrev pub shift_left : Code
shift_left = all (where_least 16 13 (all (set 0 12 ∷ set 0 13 ∷ [])) ∷ Times 15 13 (add 12 12) ∷ [])

-- 32 bits, of which the high half is the sign, go left by what 16 is more than the count, and their high half is the result
abbrev pub right_turns : Code
right_turns = all (where_least 16 13 (set 16 13) ∷ set 16 15 ∷ subtract 13 15 ∷ Times 16 15 (all (add 12 12 ∷ add_carry 14 14 ∷ [])) ∷ copy 14 12 ∷ [])

abbrev pub shift_right : (is_signed : Bool) → Code
shift_right is_signed = Then (fill_if is_signed 12 14) right_turns

abbrev pub multiply : Code
multiply = all (copy 12 14 ∷ set 0 12 ∷ set 16 15 ∷ Times 16 15 (all (add 12 12 ∷ add 13 13 ∷ Skip Jnc (add 14 12) ∷ [])) ∷ [])

-- the quotient in R12, the remainder in R14; where R13 is 0, both are 0
abbrev pub divide : Code
divide =
    all (where_below 1 13 (all (set 0 12 ∷ set 1 13 ∷ [])) ∷ set 0 14 ∷ set 16 15
    ∷ Times 16 15 (all (add 12 12 ∷ add_carry 14 14 ∷ Skip Jc (compare 13 14) ∷ Skip Jnc (all (subtract 13 14 ∷ count_up 12 ∷ [])) ∷ [])) ∷ [])

-- by way of R15
abbrev pub negate : ℕ → Code
negate r = all (set 0 15 ∷ subtract r 15 ∷ copy 15 r ∷ [])

abbrev pub count_if : Bool → List Code
count_if counts = if counts then count_up 11 ∷ [] else []

-- without its sign, which R11 counts
abbrev pub magnitude : (counts : Bool) → ℕ → Code
magnitude counts r = where_least 0x8000 r (all (negate r ∷ all (count_if counts) ∷ []))

-- a quotient has the sign of both, a remainder that of x
abbrev pub quotient : (is_signed : Bool) → Code
quotient false = divide
quotient true = Keeping 11 (all (set 0 11 ∷ magnitude true 12 ∷ magnitude true 13 ∷ divide ∷ Do Cmp (literal 1) 11 ∷ Skip Jne (negate 12) ∷ []))

abbrev pub remainder : (is_signed : Bool) → Code
remainder false = all (divide ∷ copy 14 12 ∷ [])
remainder true = Keeping 11 (all (set 0 11 ∷ magnitude true 12 ∷ magnitude false 13 ∷ divide ∷ copy 14 12 ∷ Do Cmp (literal 1) 11 ∷ Skip Jne (negate 12) ∷ []))

-- ---- 8 bits, as 16

abbrev pub low_byte : ℕ → Code
low_byte r = Do And (literal 255) r

abbrev pub extend : (is_signed : Bool) → ℕ → Code
extend is_signed r = if is_signed then all (Do Add (literal 128) r ∷ low_byte r ∷ Do Sub (literal 128) r ∷ []) else low_byte r

abbrev pub narrow : Code → Code
narrow c = all (c ∷ low_byte 12 ∷ [])

abbrev pub narrow_right : (is_signed : Bool) → Code
narrow_right is_signed = narrow (all (extend is_signed 12 ∷ shift_right is_signed ∷ []))

abbrev pub extended_both : (is_signed : Bool) → Code → Code
extended_both is_signed c = all (extend is_signed 12 ∷ extend is_signed 13 ∷ c ∷ [])

abbrev pub narrow_division : (is_signed : Bool) → Code → Code
narrow_division is_signed c = narrow (extended_both is_signed c)

-- ---- 32 bits: x in R12 and R13, y in R14 and R15, or the count in R14

abbrev pub shift_left_wide : Code
shift_left_wide = all (where_least 32 14 (all (set 0 12 ∷ set 0 13 ∷ set 0 14 ∷ [])) ∷ Times 31 14 (all (add 12 12 ∷ add_carry 13 13 ∷ [])) ∷ [])

abbrev pub right_turns_wide : Code
right_turns_wide =
    all (copy 10 11 ∷ where_least 32 14 (set 32 14) ∷ set 32 15 ∷ subtract 14 15
    ∷ Times 32 15 (all (add 12 12 ∷ add_carry 13 13 ∷ add_carry 10 10 ∷ add_carry 11 11 ∷ [])) ∷ copy 10 12 ∷ copy 11 13 ∷ [])

abbrev pub shift_right_wide : (is_signed : Bool) → Code
shift_right_wide is_signed = Keeping 10 (Keeping 11 (Then (fill_if is_signed 13 10) right_turns_wide))

abbrev pub multiply_wide : Code
multiply_wide =
    Keeping 9 (Keeping 10 (Keeping 11 (all (copy 12 10 ∷ copy 13 11 ∷ set 0 12 ∷ set 0 13 ∷ set 32 9
    ∷ Times 32 9 (all (add 12 12 ∷ add_carry 13 13 ∷ add 14 14 ∷ add_carry 15 15 ∷ Skip Jnc (all (add 10 12 ∷ add_carry 11 13 ∷ [])) ∷ [])) ∷ []))))

-- the quotient in R12 and R13, the remainder in R10 and R11; where R14 and R15 are 0, both are 0
abbrev pub divide_wide : Code
divide_wide =
    all (copy 14 9 ∷ Do Bis (register 15) 9 ∷ where_below 1 9 (all (set 0 12 ∷ set 0 13 ∷ set 1 14 ∷ [])) ∷ set 0 10 ∷ set 0 11 ∷ set 32 9
    ∷ Times 32 9 (all (add 12 12 ∷ add_carry 13 13 ∷ add_carry 10 10 ∷ add_carry 11 11 ∷ Skip Jc (all (compare 15 11 ∷ Skip Jne (compare 14 10) ∷ []))
    ∷ Skip Jnc (all (subtract 14 10 ∷ subtract_carry 15 11 ∷ count_up 12 ∷ [])) ∷ [])) ∷ [])

-- by way of R10 and R11
abbrev pub negate_wide : (low high : ℕ) → Code
negate_wide low high = all (set 0 10 ∷ set 0 11 ∷ subtract low 10 ∷ subtract_carry high 11 ∷ copy 10 low ∷ copy 11 high ∷ [])

-- without its sign, which R8 counts
abbrev pub magnitude_wide : (counts : Bool) → (low high : ℕ) → Code
magnitude_wide counts low high = where_least 0x8000 high (all (negate_wide low high ∷ all (if counts then count_up 8 ∷ [] else []) ∷ []))

abbrev pub keeping_four : Code → Code
keeping_four c = Keeping 8 (Keeping 9 (Keeping 10 (Keeping 11 c)))

abbrev pub signed_back : Code
signed_back = all (Do Cmp (literal 1) 8 ∷ Skip Jne (negate_wide 12 13) ∷ [])

abbrev pub remainder_over : Code
remainder_over = all (copy 10 12 ∷ copy 11 13 ∷ [])

abbrev pub quotient_wide : (is_signed : Bool) → Code
quotient_wide false = Keeping 9 (Keeping 10 (Keeping 11 divide_wide))
quotient_wide true = keeping_four (all (set 0 8 ∷ magnitude_wide true 12 13 ∷ magnitude_wide true 14 15 ∷ divide_wide ∷ signed_back ∷ []))

abbrev pub remainder_wide : (is_signed : Bool) → Code
remainder_wide false = Keeping 9 (Keeping 10 (Keeping 11 (all (divide_wide ∷ remainder_over ∷ []))))
remainder_wide true = keeping_four (all (set 0 8 ∷ magnitude_wide true 12 13 ∷ magnitude_wide false 14 15 ∷ divide_wide ∷ remainder_over ∷ signed_back ∷ []))

-- ---- the code of an operation, by its width

abbrev pub is_signed : IntType → Bool
is_signed I8 = true
is_signed I16 = true
is_signed I32 = true
is_signed _ = false

-- on words, before the low byte is taken
abbrev pub byte_part : (is_signed : Bool) → HelpOp → Code
byte_part s Mul = multiply
byte_part s Div = extended_both s (quotient s)
byte_part s Rem = extended_both s (remainder s)
byte_part s Shl = shift_left
byte_part s Shr = all (extend s 12 ∷ shift_right s ∷ [])

abbrev pub byte_code : (is_signed : Bool) → HelpOp → Code
byte_code s o = narrow (byte_part s o)

abbrev pub word_code : (is_signed : Bool) → HelpOp → Code
word_code s Mul = multiply
word_code s Div = quotient s
word_code s Rem = remainder s
word_code s Shl = shift_left
word_code s Shr = shift_right s

abbrev pub wide_code : (is_signed : Bool) → HelpOp → Code
wide_code s Mul = multiply_wide
wide_code s Div = quotient_wide s
wide_code s Rem = remainder_wide s
wide_code s Shl = shift_left_wide
wide_code s Shr = shift_right_wide s

abbrev pub code_for : IntType → HelpOp → Code
code_for I8 o = byte_code true o
code_for U8 o = byte_code false o
code_for I16 o = word_code true o
code_for U16 o = word_code false o
code_for I32 o = wide_code true o
code_for U32 o = wide_code false o

-- a number without an operation is a lone RET
abbrev pub code_of : Option IntType → Option HelpOp → Code
code_of (Some t) (Some o) = code_for t o
code_of _ _ = Nothing

abbrev pub code_at : (h : ℕ) → Code
code_at h = code_of (type_at (h / 8)) (operation_at (h % 8))
