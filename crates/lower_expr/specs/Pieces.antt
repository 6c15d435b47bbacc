-- The code of each operation: its operands stand at r and r + 2, their high halves behind them, and its result comes to r; values from
-- r + 4 on are free, and labels from l on (own).
use Rattle.std.specs.Prelude.{ℕ, ℤ, ◌+◌, ◌/◌, ◌%◌, ◌==◌, Bool, true, false, min, List, [], ◌∷◌, ◌++◌, if◌then◌else◌}
use Rattle.nm_base.specs.declared.int_type.IntType.{IntType}
use Rattle.nm_base.specs.declared.int_type.IntType.TheVariants.{I8, U8, I16, U16, I32, U32}
use Rattle.nesc_core.specs.declared.tree.UnOp.{UnOp}
use Rattle.nesc_core.specs.declared.tree.UnOp.TheVariants as un
use Rattle.nesc_core.specs.declared.tree.BinOp.{BinOp}
use Rattle.nesc_core.specs.declared.tree.BinOp.TheVariants as bin
use Rattle.mid_code.specs.declared.help.HelpOp.{HelpOp}
use Rattle.mid_code.specs.declared.help.HelpOp.TheVariants.{Mul, Div, Rem, Shl, Shr}
use Rattle.mid_code.specs.declared.instr.Op.{Op}
use Rattle.mid_code.specs.declared.instr.Op.TheVariants.{Add, Sub, And, Or, Xor}
use Rattle.mid_code.specs.declared.instr.Test.{Test}
use Rattle.mid_code.specs.declared.instr.Test.TheVariants.{Eq, Ne, Lt, Le, LtU, LeU}
use Rattle.mid_code.specs.declared.instr.Mid.{Mid}
use Rattle.mid_code.specs.declared.instr.Mid.TheVariants.{Set, Move, Bin, Carry, Label, Jump, Branch, Help, Fault}
use Rattle.mid_code.specs.Help.{is_wide, number_of_help}
use Rattle.lower_expr.specs.Held.{is_signed, low, high}

abbrev pub const_code : IntType → ℤ → ℕ → List Mid
const_code t x r = if is_wide t then Set r (low x) ∷ Set (r + 1) (high x) ∷ [] else Set r (low x) ∷ []

-- to d from r
abbrev pub move_code : (wide : Bool) → (d r : ℕ) → List Mid
move_code true d r = Move d r ∷ Move (d + 1) (r + 1) ∷ []
move_code false d r = Move d r ∷ []

-- the values of a number at r
abbrev pub values_at : (wide : Bool) → ℕ → List ℕ
values_at true r = r ∷ (r + 1) ∷ []
values_at false r = r ∷ []

-- ---- conversions

-- the number of 8 bits that the low byte stands for
abbrev pub fit_code : IntType → ℕ → List Mid
fit_code I8 r = Set (r + 1) 255 ∷ Bin And r r (r + 1) ∷ Set (r + 1) 128 ∷ Bin Xor r r (r + 1) ∷ Bin Sub r r (r + 1) ∷ []
fit_code U8 r = Set (r + 1) 255 ∷ Bin And r r (r + 1) ∷ []
fit_code _ r = []

-- the high half of a number of 16 bits
abbrev pub widen_code : (signed : Bool) → (r l : ℕ) → List Mid
widen_code true r l = Set (r + 1) 0 ∷ Branch Le (r + 1) r l ∷ Set (r + 1) 65535 ∷ Label l ∷ []
widen_code false r l = Set (r + 1) 0 ∷ []

abbrev pub high_code : (from_wide to_wide signed : Bool) → (r l : ℕ) → List Mid
high_code true to_wide signed r l = []
high_code false true signed r l = widen_code signed r l
high_code false false signed r l = []

abbrev pub convert_code : (from to : IntType) → (r l : ℕ) → List Mid
convert_code from to r l = fit_code to r ++ high_code (is_wide from) (is_wide to) (is_signed from) r l

-- ---- tests

-- 1 where the label l was gone to, else 0
abbrev pub truth_code : (r l : ℕ) → List Mid
truth_code r l = Set r 0 ∷ Jump (l + 1) ∷ Label l ∷ Set r 1 ∷ Label (l + 1) ∷ []

-- a number at r compared with 0, which goes to l
abbrev pub zero_code : Test → (wide : Bool) → (r l : ℕ) → List Mid
zero_code test true r l = Bin Or r r (r + 1) ∷ Set (r + 2) 0 ∷ Branch test r (r + 2) l ∷ []
zero_code test false r l = Set (r + 2) 0 ∷ Branch test r (r + 2) l ∷ []

-- ---- operators on one number

abbrev pub unary_code : UnOp → (wide : Bool) → (r l : ℕ) → List Mid
unary_code un.Neg true r l =
    Set (r + 2) 0 ∷ Carry Sub (r + 3) (r + 2) r ∷ Bin Sub r (r + 2) r ∷ Bin Sub (r + 1) (r + 2) (r + 1) ∷ Bin Sub (r + 1) (r + 1) (r + 3) ∷ []
unary_code un.Neg false r l = Set (r + 2) 0 ∷ Bin Sub r (r + 2) r ∷ []
unary_code un.Not true r l = Set (r + 2) 65535 ∷ Bin Xor r r (r + 2) ∷ Bin Xor (r + 1) (r + 1) (r + 2) ∷ []
unary_code un.Not false r l = Set (r + 2) 65535 ∷ Bin Xor r r (r + 2) ∷ []
unary_code un.IsZero wide r l = zero_code Eq wide r l ++ truth_code r l

-- ---- operators on two numbers

abbrev pub sum_code : Op → (wide : Bool) → ℕ → List Mid
sum_code op true r =
    Carry op (r + 4) r (r + 2) ∷ Bin op r r (r + 2) ∷ Bin op (r + 1) (r + 1) (r + 3) ∷ Bin op (r + 1) (r + 1) (r + 4) ∷ []
sum_code op false r = Bin op r r (r + 2) ∷ []

abbrev pub bits_code : Op → (wide : Bool) → ℕ → List Mid
bits_code op true r = Bin op r r (r + 2) ∷ Bin op (r + 1) (r + 1) (r + 3) ∷ []
bits_code op false r = Bin op r r (r + 2) ∷ []

-- a zero divisor is fault 3
abbrev pub divisor_code : (wide : Bool) → (r l : ℕ) → List Mid
divisor_code true r l = Bin Or (r + 4) (r + 2) (r + 3) ∷ Set (r + 5) 0 ∷ Branch Ne (r + 4) (r + 5) l ∷ Fault 3 ∷ Label l ∷ []
divisor_code false r l = Set (r + 4) 0 ∷ Branch Ne (r + 2) (r + 4) l ∷ Fault 3 ∷ Label l ∷ []

abbrev pub product_code : HelpOp → IntType → ℕ → List Mid
product_code o t r = Help (number_of_help t o) (values_at (is_wide t) r ++ values_at (is_wide t) (r + 2)) (values_at (is_wide t) r) ∷ []

-- a count with a high half is negative or large: 32 stands for it
abbrev pub count_code : (wide : Bool) → (r l : ℕ) → List Mid
count_code true r l = Set (r + 4) 0 ∷ Branch Eq (r + 3) (r + 4) l ∷ Set (r + 2) 32 ∷ Label l ∷ []
count_code false r l = []

abbrev pub shift_code : HelpOp → IntType → (count : IntType) → (r l : ℕ) → List Mid
shift_code o t count r l =
    count_code (is_wide count) r l ++ Help (number_of_help t o) (values_at (is_wide t) r ++ (r + 2) ∷ []) (values_at (is_wide t) r) ∷ []

abbrev pub equal_code : Test → (wide : Bool) → (r l : ℕ) → List Mid
equal_code test true r l =
    Bin Xor r r (r + 2) ∷ Bin Xor (r + 1) (r + 1) (r + 3) ∷ Bin Or r r (r + 1) ∷ Set (r + 2) 0 ∷ Branch test r (r + 2) l ∷ truth_code r l
equal_code test false r l = Branch test r (r + 2) l ∷ truth_code r l

-- by the high halves, and where they are equal by the low ones
abbrev pub order_code : (strict signed wide : Bool) → (r l : ℕ) → List Mid
order_code strict signed true r l =
    Branch (if signed then Lt else LtU) (r + 1) (r + 3) l ∷ Branch Ne (r + 1) (r + 3) (l + 2)
    ∷ Branch (if strict then LtU else LeU) r (r + 2) l ∷ Label (l + 2) ∷ truth_code r l
order_code true signed false r l = Branch (if signed then Lt else LtU) r (r + 2) l ∷ truth_code r l
order_code false signed false r l = Branch (if signed then Le else LeU) r (r + 2) l ∷ truth_code r l

-- with at most three labels; the count of a shift has a type of its own
abbrev pub binary_code : BinOp → IntType → (second : IntType) → (r l : ℕ) → List Mid
binary_code bin.Add t s r l = sum_code Add (is_wide t) r ++ fit_code t r
binary_code bin.Sub t s r l = sum_code Sub (is_wide t) r ++ fit_code t r
binary_code bin.Mul t s r l = product_code Mul t r
binary_code bin.Div t s r l = divisor_code (is_wide t) r l ++ product_code Div t r
binary_code bin.Rem t s r l = divisor_code (is_wide t) r l ++ product_code Rem t r
binary_code bin.And t s r l = bits_code And (is_wide t) r
binary_code bin.Or t s r l = bits_code Or (is_wide t) r
binary_code bin.Xor t s r l = bits_code Xor (is_wide t) r
binary_code bin.Shl t s r l = shift_code Shl t s r l
binary_code bin.Shr t s r l = shift_code Shr t s r l
binary_code bin.Eq t s r l = equal_code Eq (is_wide t) r l
binary_code bin.Ne t s r l = equal_code Ne (is_wide t) r l
binary_code bin.Lt t s r l = order_code true (is_signed t) (is_wide t) r l
binary_code bin.Le t s r l = order_code false (is_signed t) (is_wide t) r l

-- ---- pointers and elements

-- the word at r times a size
abbrev pub scaled_code : (size r : ℕ) → List Mid
scaled_code size r =
    if size == 1 then [] else if size == 2 then Bin Add r r r ∷ [] else if size == 4 then Bin Add r r r ∷ Bin Add r r r ∷ []
    else Set (r + 2) (size % 65536) ∷ Help (number_of_help U16 Mul) (r ∷ (r + 2) ∷ []) (r ∷ []) ∷ []

-- how many of the numbers of a type from 0 on an index below the count may be
abbrev pub index_bound : IntType → ℕ → ℕ
index_bound I8 count = min count 32768
index_bound U8 count = min count 65536
index_bound I16 count = min count 32768
index_bound U16 count = min count 65536
index_bound I32 count = min count 2147483648
index_bound U32 count = min count 4294967296

-- an index at r + 2 that is negative or not below the count is fault 1
abbrev pub bound_code : (wide : Bool) → (bound r l : ℕ) → List Mid
bound_code true bound r l =
    if bound == 4294967296 then [] else Set (r + 4) (bound / 65536) ∷ Branch LtU (r + 3) (r + 4) l ∷ Branch Ne (r + 3) (r + 4) (l + 1)
    ∷ Set (r + 4) (bound % 65536) ∷ Branch LtU (r + 2) (r + 4) l ∷ Label (l + 1) ∷ Fault 1 ∷ Label l ∷ []
bound_code false bound r l =
    if bound == 65536 then [] else Set (r + 4) bound ∷ Branch LtU (r + 2) (r + 4) l ∷ Fault 1 ∷ Label l ∷ []

-- the place of an element, of an array at r
abbrev pub element_code : IntType → (count size r l : ℕ) → List Mid
element_code t count size r l = bound_code (is_wide t) (index_bound t count) r l ++ (scaled_code size (r + 2) ++ Bin Add r r (r + 2) ∷ [])

abbrev pub offset_code : (size r : ℕ) → List Mid
offset_code size r = scaled_code size (r + 2) ++ Bin Add r r (r + 2) ∷ []

abbrev pub distance_code : (size r : ℕ) → List Mid
distance_code size r =
    Bin Sub r r (r + 2) ∷ (if size == 1 then [] else Set (r + 2) (size % 65536) ∷ Help (number_of_help I16 Div) (r ∷ (r + 2) ∷ []) (r ∷ []) ∷ [])
