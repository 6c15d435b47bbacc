-- What helpers do: multiplication, division and shifts at each type (C99, 6.5.5 and 6.5.7; that results wrap, and what a shift by the
-- width or more gives, is own), and the check of a pointer.
use Rattle.std.specs.Prelude.{ℕ, ℤ, pos, negsuc, ◌+◌, ◌-◌, ◌*◌, ◌/◌, ◌%◌, ◌^◌, ◌==◌, ◌&&◌, Bool, true, false, not, nat_lt, nat_le, int_div, int_rem, unsigned_abs, List, [], ◌∷◌, take, drop, Option, Some, None, Vec, slice_get, if◌then◌else◌}
use Rattle.std.specs.Int.{int_rem_euclid}
use Rattle.std.specs.List.{list_any}
use Rattle.std.specs.Ordering.{int_eq}
use Rattle.std.specs.declared.alloc.Global.{Global}
use Rattle.nm_base.specs.declared.int_type.IntType.{IntType}
use Rattle.nm_base.specs.declared.int_type.IntType.TheVariants.{I8, U8, I16, U16, I32, U32}
use Rattle.nm_base.specs.IntType.{width, wrapped}
use Rattle.mid_code.specs.declared.help.HelpOp.{HelpOp}
use Rattle.mid_code.specs.declared.help.HelpOp.TheVariants.{Mul, Div, Rem, Shl, Shr}
use Rattle.mid_code.specs.declared.code.Check.{Check}
use Rattle.mid_code.specs.declared.code.MidCode.{MidCode}
use Rattle.mid_code.specs.Words.{joined}

-- the number below 2 ^ k that is congruent to z
abbrev pub residue : ℕ → ℤ → ℕ
residue k z = unsigned_abs (int_rem_euclid z (pos (2 ^ k)))

-- z divided by n, rounded down
abbrev pub floor_div : ℤ → ℕ → ℤ
floor_div (pos a) n = pos (a / n)
floor_div (negsuc a) n = negsuc (a / n)

-- -1 for a negative number, else 0
abbrev pub sign : ℤ → ℤ
sign (pos a) = pos 0
sign (negsuc a) = negsuc 0

abbrev pub shifted_right : IntType → ℤ → ℕ → ℤ
shifted_right t x n = if nat_lt n (width t) then floor_div x (2 ^ n) else sign x

-- a divisor of 0 is tested before
abbrev pub unless_zero : ℤ → ℤ → ℤ
unless_zero divisor z = if int_eq divisor (pos 0) then pos 0 else z

-- an operation on numbers that stand for those of the type modulo 2 to the power of its width
abbrev pub operation : HelpOp → IntType → ℕ → ℕ → ℕ
operation Mul t x y = (x * y) % 2 ^ width t
operation Div t x y = residue (width t) (unless_zero (wrapped t (pos y)) (int_div (wrapped t (pos x)) (wrapped t (pos y))))
operation Rem t x y = residue (width t) (unless_zero (wrapped t (pos y)) (int_rem (wrapped t (pos x)) (wrapped t (pos y))))
operation Shl t x n = if nat_lt n (width t) then (x * 2 ^ n) % 2 ^ width t else 0
operation Shr t x n = residue (width t) (shifted_right t (wrapped t (pos x)) n)

-- ---- numbers of helpers

abbrev pub type_place : IntType → ℕ
type_place I8 = 0
type_place U8 = 1
type_place I16 = 2
type_place U16 = 3
type_place I32 = 4
type_place U32 = 5

abbrev pub operation_place : HelpOp → ℕ
operation_place Mul = 0
operation_place Div = 1
operation_place Rem = 2
operation_place Shl = 3
operation_place Shr = 4

abbrev pub number_of_help : IntType → HelpOp → ℕ
number_of_help t o = 8 * type_place t + operation_place o

abbrev pub type_at : ℕ → Option IntType
type_at n =
    if n == 0 then Some I8 else if n == 1 then Some U8 else if n == 2 then Some I16 else
    if n == 3 then Some U16 else if n == 4 then Some I32 else if n == 5 then Some U32 else None

abbrev pub operation_at : ℕ → Option HelpOp
operation_at n =
    if n == 0 then Some Mul else if n == 1 then Some Div else if n == 2 then Some Rem else
    if n == 3 then Some Shl else if n == 4 then Some Shr else None

-- check k has the number 64 + k
abbrev pub first_check : ℕ
first_check = 64

-- ---- values passed and given: a number of 32 bits is its low half and its high half, and the count of a shift is one value

abbrev pub is_wide : IntType → Bool
is_wide I32 = true
is_wide U32 = true
is_wide _ = false

-- how many values hold a number
abbrev pub places : IntType → ℕ
places t = if is_wide t then 2 else 1

abbrev pub halves : IntType → ℕ → List ℕ
halves t x = if is_wide t then x % 65536 ∷ x / 65536 ∷ [] else x % 65536 ∷ []

abbrev pub is_shift : HelpOp → Bool
is_shift Shl = true
is_shift Shr = true
is_shift _ = false

abbrev pub computed : Option IntType → Option HelpOp → List ℕ → List ℕ
computed (Some t) (Some o) vs = halves t (operation o t (joined (take (places t) vs)) (joined (drop (places t) vs)))
computed _ _ vs = []

-- ---- checks

-- x is the address of one of the parts of a run
abbrev pub is_in_run : (size : ℕ) → ℕ → ℕ × ℕ → Bool
is_in_run size x run = nat_le run.0 x && ((x - run.0) % size == 0 && nat_lt ((x - run.0) / size) run.1)

-- a check that is not there holds of nothing, and so does one of parts without a size
abbrev pub is_part : Option Check → ℕ → Bool
is_part None x = false
is_part (Some check) x = not (check.size == 0) && list_any (is_in_run check.size x) check.runs

abbrev pub given_by : Option (Vec ℕ Global) → Option (List ℕ)
given_by None = None
given_by (Some v) = Some v.items

-- what a helper gives; None is the fault of an address that is no part
abbrev pub helped : MidCode → ℕ → List ℕ → Option (List ℕ)
helped c h vs =
    if nat_lt h first_check then Some (computed (type_at (h / 8)) (operation_at (h % 8)) vs) else
    if is_part (slice_get c.checks (h - first_check)) (joined vs) then Some [] else None
