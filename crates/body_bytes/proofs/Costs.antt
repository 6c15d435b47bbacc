-- The bytes of instructions of the middle code at most, where all values lie in the frame and jumps have their longer form.
use Rattle.std.proofs.Common.{◌≡◌, ℕ, ◌+◌, ◌*◌, ◌≤◌, Bool, true, false, List, [], ◌∷◌, ◌++◌, length, Option, Some, None, ap, ◌/◌, ◌%◌, arith}
use Rattle.std.specs.Prelude.{ℤ, ◌==◌, if◌then◌else◌}
use Rattle.std.proofs.lemmas.Bool.Decides.{nat_tests}
use Rattle.nm_base.specs.declared.int_type.IntType.{IntType}
use Rattle.nm_base.specs.declared.int_type.IntType.TheVariants.{I8, U8, I16, U16, I32, U32}
use Rattle.nesc_core.specs.declared.tree.UnOp.{UnOp}
use Rattle.nesc_core.specs.declared.tree.UnOp.TheVariants as un
use Rattle.nesc_core.specs.declared.tree.BinOp.{BinOp}
use Rattle.nesc_core.specs.declared.tree.BinOp.TheVariants as bin
use Rattle.mid_code.specs.declared.instr.Mid.{Mid}
use Rattle.mid_code.specs.declared.instr.Mid.TheVariants.{Set, Move, Bin, Carry, Load, Store, Peek, Poke, In, Out, Label, Jump, Branch, Call, Help, Ret, Begin, End, Post, Tick, Fault}
use Rattle.mid_code.specs.declared.help.HelpOp.{HelpOp}
use Rattle.mid_code.specs.declared.help.HelpOp.TheVariants as help
use Rattle.mid_code.specs.declared.instr.Op.{Op}
use Rattle.mid_code.specs.declared.instr.Op.TheVariants.{Add, Sub, And, Or, Xor}
use Rattle.mid_code.specs.declared.instr.Test.{Test}
use Rattle.mid_code.specs.declared.instr.Test.TheVariants.{Eq, Ne, Lt, Le}
use Rattle.mid_code.specs.Help.{is_wide, number_of_help}
use Rattle.open_law.specs.Homes.{is_made}
use Rattle.lower_expr.specs.declared.spot.Regs.{Regs}
use Rattle.lower_expr.specs.declared.spot.Spot.{Spot}
use Rattle.lower_expr.specs.declared.spot.Spot.TheVariants.{Values, Frame}
use Rattle.lower_expr.specs.Held.{is_signed}
use Rattle.lower_expr.specs.Pieces.{binary_code, bits_code, bound_code, const_code, convert_code, count_code, distance_code, divisor_code, element_code, equal_code, fit_code, high_code, index_bound, move_code, offset_code, order_code, product_code, scaled_code, shift_code, sum_code, truth_code, unary_code, values_at, zero_code}
use Rattle.lower_expr.specs.Code.{Kind, InValues, InFrame, InMemory, address_code, fetch_code, keep_code, local_code, put_code, take_code}

-- ---- instructions

abbrev pub set_cost : Bool → ℕ
set_cost true = 4
set_cost false = 6

abbrev pub bin_cost : Bool → ℕ
bin_cost true = 6
bin_cost false = 12

abbrev pub get_cost : (more : ℕ) (is_word : Bool) → ℕ
get_cost more true = 8 + more
get_cost more false = 10 + more

abbrev pub cost : Mid → ℕ
cost (Set v n) = set_cost (is_made n)
cost (Move v x) = 6
cost (Bin op v x y) = bin_cost (v == x)
cost (Carry op v x y) = 16
cost (Load is_word v x) = get_cost 0 is_word
cost (Store is_word v x) = 10
cost (Peek is_word v x) = get_cost 2 is_word
cost (Poke is_word v x) = 12
cost (In v port) = 6
cost (Out port v) = 6
cost (Label l) = 0
cost (Jump l) = 4
cost (Branch t x y l) = 12
cost (Call g ins outs) = 4 * length ins + (8 + 4 * length outs)
cost (Help h ins outs) = 4 * length ins + (4 + 4 * length outs)
cost (Ret vs) = 4 * length vs + 6
cost (Begin o) = 8
cost (End o) = 4
cost (Post k v) = 0
cost Tick = 2
cost (Fault code) = 6

abbrev pub costs : List Mid → ℕ
costs [] = 0
costs (i ∷ is) = cost i + costs is

pub both : (a b : List Mid) → costs (a ++ b) ≡ costs a + costs b
both [] b = omega arith
both (i ∷ a) b = let h = both a b in omega (arith, h)

pub set_most : (b : Bool) → set_cost b ≤ 6
set_most true = omega arith
set_most false = omega arith

pub bin_most : (b : Bool) → bin_cost b ≤ 12
bin_most true = omega arith
bin_most false = omega arith

same : (r : ℕ) → (r == r) ≡ true
same r = grind (arith, nat_tests)

pub bin_same : (r : ℕ) → bin_cost (r == r) ≡ 6
bin_same r = ap bin_cost (same r)

-- ---- code

pub record IsWithin (n : ℕ) (c : List Mid) : Type 0 where
  pub le : costs c ≤ n

pub both_within : (m n : ℕ) (a b : List Mid) → IsWithin m a → IsWithin n b → IsWithin (m + n) (a ++ b)
both_within m n a b h g = let e = both a b in let hl = h.le in let gl = g.le in record { le = omega (arith, e, hl, gl) }

pub if_within : (n : ℕ) (t : Bool) (a b : List Mid) → IsWithin n a → IsWithin n b → IsWithin n (if t then a else b)
if_within n true a b h g = h
if_within n false a b h g = g

pub weaker : (m n : ℕ) (a : List Mid) → m ≤ n → IsWithin m a → IsWithin n a
weaker m n a le h = let hl = h.le in record { le = omega (arith, le, hl) }

-- a number and what follows
pub set_then : (n v x : ℕ) (a : List Mid) → IsWithin n a → IsWithin (6 + n) (Set v x ∷ a)
set_then n v x a h = let hl = h.le in let s = set_most (is_made x) in record { le = omega (arith, s, hl) }

pub bin_then : (n : ℕ) (op : Op) (v x y : ℕ) (a : List Mid) → IsWithin n a → IsWithin (12 + n) (Bin op v x y ∷ a)
bin_then n op v x y a h = let hl = h.le in let s = bin_most (v == x) in record { le = omega (arith, s, hl) }

pub none_within : IsWithin 0 []
none_within = record { le = omega arith }

-- ---- pieces

pub const_within : (t : IntType) (x : ℤ) (r : ℕ) → IsWithin 12 (const_code t x r)
const_within t x r = if_within 12 (is_wide t) _ _ (set_then 6 _ _ _ (set_then 0 _ _ _ none_within)) (weaker 6 12 _ (omega arith) (set_then 0 _ _ _ none_within))

abbrev pub move_most : Bool → ℕ
move_most true = 12
move_most false = 6

pub move_within : (wide : Bool) (d r : ℕ) → IsWithin (move_most wide) (move_code wide d r)
move_within true d r = record { le = omega arith }
move_within false d r = record { le = omega arith }

abbrev pub fit_most : IntType → ℕ
fit_most I8 = 30
fit_most U8 = 12
fit_most _ = 0

pub fit_within : (t : IntType) (r : ℕ) → IsWithin (fit_most t) (fit_code t r)
fit_within I8 r = let h = bin_same r in record { le = omega (arith, h) }
fit_within U8 r = let h = bin_same r in record { le = omega (arith, h) }
fit_within I16 r = none_within
fit_within U16 r = none_within
fit_within I32 r = none_within
fit_within U32 r = none_within

abbrev pub high_most : (from to : Bool) → ℕ
high_most false true = 20
high_most _ _ = 0

pub high_within : (from to signed : Bool) (r l : ℕ) → IsWithin (high_most from to) (high_code from to signed r l)
high_within true true signed r l = none_within
high_within true false signed r l = none_within
high_within false true true r l = record { le = omega arith }
high_within false true false r l = record { le = omega arith }
high_within false false signed r l = none_within

abbrev pub convert_most : (from to : IntType) → ℕ
convert_most from to = fit_most to + high_most (is_wide from) (is_wide to)

pub convert_within : (from to : IntType) (r l : ℕ) → IsWithin (convert_most from to) (convert_code from to r l)
convert_within from to r l =
    both_within (fit_most to) (high_most (is_wide from) (is_wide to)) (fit_code to r) (high_code (is_wide from) (is_wide to) (is_signed from) r l)
    (fit_within to r) (high_within (is_wide from) (is_wide to) (is_signed from) r l)

pub truth_within : (r l : ℕ) → IsWithin 12 (truth_code r l)
truth_within r l = record { le = omega arith }

pub zero_within : (test : Test) (wide : Bool) (r l : ℕ) → IsWithin 28 (zero_code test wide r l)
zero_within test true r l = bin_then 16 _ _ _ _ _ (record { le = omega arith })
zero_within test false r l = record { le = omega arith }

pub unary_within : (op : UnOp) (wide : Bool) (r l : ℕ) → IsWithin 60 (unary_code op wide r l)
unary_within un.Neg true r l =
    let a = bin_most (r == r + 2) in let b = bin_most (r + 1 == r + 2) in let c = bin_most (r + 1 == r + 1) in record { le = omega (arith, a, b, c) }
unary_within un.Neg false r l = let a = bin_most (r == r + 2) in record { le = omega (arith, a) }
unary_within un.Not true r l = let a = bin_most (r == r) in let b = bin_most (r + 1 == r + 1) in record { le = omega (arith, a, b) }
unary_within un.Not false r l = let a = bin_most (r == r) in record { le = omega (arith, a) }
unary_within un.IsZero wide r l = weaker 40 60 _ (omega arith) (both_within 28 12 (zero_code Eq wide r l) (truth_code r l) (zero_within Eq wide r l) (truth_within r l))

-- ---- operators

pub sum_within : (op : Op) (wide : Bool) (r : ℕ) → IsWithin 52 (sum_code op wide r)
sum_within op true r = let a = bin_most (r == r) in let b = bin_most (r + 1 == r + 1) in record { le = omega (arith, a, b) }
sum_within op false r = let a = bin_most (r == r) in record { le = omega (arith, a) }

pub sum_narrow : (op : Op) (r : ℕ) → IsWithin 12 (sum_code op false r)
sum_narrow op r = let a = bin_most (r == r) in record { le = omega (arith, a) }

pub bits_within : (op : Op) (wide : Bool) (r : ℕ) → IsWithin 24 (bits_code op wide r)
bits_within op true r = let a = bin_most (r == r) in let b = bin_most (r + 1 == r + 1) in record { le = omega (arith, a, b) }
bits_within op false r = let a = bin_most (r == r) in record { le = omega (arith, a) }

abbrev pub divisor_most : Bool → ℕ
divisor_most true = 34
divisor_most false = 22

pub divisor_within : (wide : Bool) (r l : ℕ) → IsWithin (divisor_most wide) (divisor_code wide r l)
divisor_within true r l = let a = bin_most (r + 4 == r + 2) in record { le = omega (arith, a) }
divisor_within false r l = record { le = omega arith }

abbrev pub product_most : Bool → ℕ
product_most true = 28
product_most false = 16

pub product_within : (o : HelpOp) (t : IntType) (r : ℕ) → IsWithin (product_most (is_wide t)) (product_code o t r)
product_within o t r = by (is_wide t)
  where
    by : (wide : Bool) → IsWithin (product_most wide) (Help (number_of_help t o) (values_at wide r ++ values_at wide (r + 2)) (values_at wide r) ∷ [])
    by true = record { le = omega arith }
    by false = record { le = omega arith }

count_within : (wide : Bool) (r l : ℕ) → IsWithin 22 (count_code wide r l)
count_within true r l = record { le = omega arith }
count_within false r l = record { le = omega arith }

abbrev pub shift_most : Bool → ℕ
shift_most true = 24
shift_most false = 16

pub shift_within : (o : HelpOp) (t s : IntType) (r l : ℕ) → IsWithin (22 + shift_most (is_wide t)) (shift_code o t s r l)
shift_within o t s r l = both_within 22 (shift_most (is_wide t)) (count_code (is_wide s) r l) _ (count_within (is_wide s) r l) (by (is_wide t))
  where
    by : (wide : Bool) → IsWithin (shift_most wide) (Help (number_of_help t o) (values_at wide r ++ (r + 2) ∷ []) (values_at wide r) ∷ [])
    by true = record { le = omega arith }
    by false = record { le = omega arith }

equal_within : (test : Test) (wide : Bool) (r l : ℕ) → IsWithin 64 (equal_code test wide r l)
equal_within test true r l = let a = bin_most (r == r) in let b = bin_most (r + 1 == r + 1) in record { le = omega (arith, a, b) }
equal_within test false r l = record { le = omega arith }

order_within : (strict signed wide : Bool) (r l : ℕ) → IsWithin 64 (order_code strict signed wide r l)
order_within strict signed true r l = record { le = omega arith }
order_within true signed false r l = record { le = omega arith }
order_within false signed false r l = record { le = omega arith }

fit_fifty : (t : IntType) (r : ℕ) → IsWithin 30 (fit_code t r)
fit_fifty I8 r = fit_within I8 r
fit_fifty U8 r = weaker 12 30 _ (omega arith) (fit_within U8 r)
fit_fifty I16 r = record { le = omega arith }
fit_fifty U16 r = record { le = omega arith }
fit_fifty I32 r = record { le = omega arith }
fit_fifty U32 r = record { le = omega arith }

sum_and_fit : (op : Op) (t : IntType) (r : ℕ) → IsWithin 100 (sum_code op (is_wide t) r ++ fit_code t r)
sum_and_fit op t r = weaker 82 100 _ (omega arith) (both_within 52 30 (sum_code op (is_wide t) r) (fit_code t r) (sum_within op (is_wide t) r) (fit_fifty t r))

divisor_any : (wide : Bool) (r l : ℕ) → IsWithin 34 (divisor_code wide r l)
divisor_any true r l = divisor_within true r l
divisor_any false r l = weaker 22 34 _ (omega arith) (divisor_within false r l)

product_any : (o : HelpOp) (t : IntType) (r : ℕ) → IsWithin 28 (product_code o t r)
product_any o t r = by (is_wide t) (product_within o t r)
  where
    by : (wide : Bool) → IsWithin (product_most wide) (product_code o t r) → IsWithin 28 (product_code o t r)
    by true h = h
    by false h = weaker 16 28 _ (omega arith) h

shift_any : (o : HelpOp) (t s : IntType) (r l : ℕ) → IsWithin 100 (shift_code o t s r l)
shift_any o t s r l = by (is_wide t) (shift_within o t s r l)
  where
    by : (wide : Bool) → IsWithin (22 + shift_most wide) (shift_code o t s r l) → IsWithin 100 (shift_code o t s r l)
    by true h = weaker 46 100 _ (omega arith) h
    by false h = weaker 38 100 _ (omega arith) h

division_within : (o : HelpOp) (t : IntType) (r l : ℕ) → IsWithin 100 (divisor_code (is_wide t) r l ++ product_code o t r)
division_within o t r l = weaker 62 100 _ (omega arith) (both_within 34 28 (divisor_code (is_wide t) r l) (product_code o t r) (divisor_any (is_wide t) r l) (product_any o t r))

pub binary_within : (op : BinOp) (t s : IntType) (r l : ℕ) → IsWithin 100 (binary_code op t s r l)
binary_within bin.Add t s r l = sum_and_fit Add t r
binary_within bin.Sub t s r l = sum_and_fit Sub t r
binary_within bin.Mul t s r l = weaker 28 100 _ (omega arith) (product_any help.Mul t r)
binary_within bin.Div t s r l = division_within help.Div t r l
binary_within bin.Rem t s r l = division_within help.Rem t r l
binary_within bin.And t s r l = weaker 24 100 _ (omega arith) (bits_within And (is_wide t) r)
binary_within bin.Or t s r l = weaker 24 100 _ (omega arith) (bits_within Or (is_wide t) r)
binary_within bin.Xor t s r l = weaker 24 100 _ (omega arith) (bits_within Xor (is_wide t) r)
binary_within bin.Shl t s r l = shift_any help.Shl t s r l
binary_within bin.Shr t s r l = shift_any help.Shr t s r l
binary_within bin.Eq t s r l = weaker 64 100 _ (omega arith) (equal_within Eq (is_wide t) r l)
binary_within bin.Ne t s r l = weaker 64 100 _ (omega arith) (equal_within Ne (is_wide t) r l)
binary_within bin.Lt t s r l = weaker 64 100 _ (omega arith) (order_within true (is_signed t) (is_wide t) r l)
binary_within bin.Le t s r l = weaker 64 100 _ (omega arith) (order_within false (is_signed t) (is_wide t) r l)

-- ---- elements

scaled_within : (size r : ℕ) → IsWithin 24 (scaled_code size r)
scaled_within size r =
    let a = bin_most (r == r) in
    if_within 24 (size == 1) _ _ (record { le = omega arith }) (if_within 24 (size == 2) _ _ (record { le = omega (arith, a) })
    (if_within 24 (size == 4) _ _ (record { le = omega (arith, a) }) (weaker 22 24 _ (omega arith) (set_then 16 _ _ _ (record { le = omega arith })))))

bound_within : (wide : Bool) (bound r l : ℕ) → IsWithin 54 (bound_code wide bound r l)
bound_within true bound r l =
    let a = set_most (is_made (bound / 65536)) in
    let b = set_most (is_made (bound % 65536)) in
    if_within 54 (bound == 4294967296) _ _ (record { le = omega arith }) (record { le = omega (arith, a, b) })
bound_within false bound r l =
    let a = set_most (is_made bound) in
    if_within 54 (bound == 65536) _ _ (record { le = omega arith }) (record { le = omega (arith, a) })

pub offset_within : (size r : ℕ) → IsWithin 36 (offset_code size r)
offset_within size r = both_within 24 12 (scaled_code size (r + 2)) _ (scaled_within size (r + 2)) (bin_then 0 _ _ _ _ _ none_within)

pub element_within : (t : IntType) (count size r l : ℕ) → IsWithin 84 (element_code t count size r l)
element_within t count size r l =
    let h = bin_same r in
    both_within 54 30 (bound_code (is_wide t) (index_bound t count) r l) (scaled_code size (r + 2) ++ Bin Add r r (r + 2) ∷ []) (bound_within (is_wide t) (index_bound t count) r l)
    (both_within 24 6 (scaled_code size (r + 2)) (Bin Add r r (r + 2) ∷ []) (scaled_within size (r + 2)) (record { le = omega (arith, h) }))

pub distance_within : (size r : ℕ) → IsWithin 34 (distance_code size r)
distance_within size r =
    both_within 12 22 (Bin Sub r r (r + 2) ∷ []) _ (bin_then 0 _ _ _ _ _ none_within)
    (if_within 22 (size == 1) _ _ (record { le = omega arith }) (set_then 16 _ _ _ (record { le = omega arith })))

-- ---- accesses

abbrev pub fetch_most : Kind → IntType → ℕ
fetch_most (InValues regs) t = move_most (is_wide t)
fetch_most InFrame I8 = 42
fetch_most InFrame U8 = 12
fetch_most InFrame I16 = 10
fetch_most InFrame U16 = 10
fetch_most InFrame _ = 36
fetch_most InMemory I8 = 40
fetch_most InMemory U8 = 10
fetch_most InMemory I16 = 8
fetch_most InMemory U16 = 8
fetch_most InMemory _ = 32

abbrev pub put_most : Kind → IntType → ℕ
put_most (InValues regs) t = move_most (is_wide t)
put_most InFrame I32 = 40
put_most InFrame U32 = 40
put_most InFrame _ = 12
put_most InMemory I32 = 36
put_most InMemory U32 = 36
put_most InMemory _ = 10

take_within : (wide : Bool) (regs : Regs) (d : ℕ) → IsWithin (move_most wide) (take_code wide regs d)
take_within true regs d = record { le = omega arith }
take_within false regs d = record { le = omega arith }

keep_within : (wide : Bool) (regs : Regs) (v : ℕ) → IsWithin (move_most wide) (keep_code wide regs v)
keep_within true regs v = record { le = omega arith }
keep_within false regs v = record { le = omega arith }

-- the second word's address
next_word : (d r : ℕ) (n : ℕ) (a : List Mid) → IsWithin n a → IsWithin (16 + n) (Set d 2 ∷ Bin Add d r d ∷ a)
next_word d r n a h = let hl = h.le in let s = bin_most (d == r) in record { le = omega (arith, s, hl) }

pub fetch_within : (kind : Kind) (t : IntType) (d r : ℕ) → IsWithin (fetch_most kind t) (fetch_code kind t d r)
fetch_within (InValues regs) t d r = take_within (is_wide t) regs d
fetch_within InFrame I8 d r = let h = (fit_within I8 d).le in record { le = omega (arith, h) }
fetch_within InFrame U8 d r = record { le = omega arith }
fetch_within InFrame I16 d r = record { le = omega arith }
fetch_within InFrame U16 d r = record { le = omega arith }
fetch_within InFrame I32 d r = next_word (d + 1) r 20 _ (record { le = omega arith })
fetch_within InFrame U32 d r = next_word (d + 1) r 20 _ (record { le = omega arith })
fetch_within InMemory I8 d r = let h = (fit_within I8 d).le in record { le = omega (arith, h) }
fetch_within InMemory U8 d r = record { le = omega arith }
fetch_within InMemory I16 d r = record { le = omega arith }
fetch_within InMemory U16 d r = record { le = omega arith }
fetch_within InMemory I32 d r = next_word (d + 1) r 16 _ (record { le = omega arith })
fetch_within InMemory U32 d r = next_word (d + 1) r 16 _ (record { le = omega arith })

pub put_within : (kind : Kind) (t : IntType) (v r : ℕ) → IsWithin (put_most kind t) (put_code kind t v r)
put_within (InValues regs) t v r = keep_within (is_wide t) regs v
put_within InFrame I8 v r = record { le = omega arith }
put_within InFrame U8 v r = record { le = omega arith }
put_within InFrame I16 v r = record { le = omega arith }
put_within InFrame U16 v r = record { le = omega arith }
put_within InFrame I32 v r = let s = bin_most (r + 1 == r) in record { le = omega (arith, s) }
put_within InFrame U32 v r = let s = bin_most (r + 1 == r) in record { le = omega (arith, s) }
put_within InMemory I8 v r = record { le = omega arith }
put_within InMemory U8 v r = record { le = omega arith }
put_within InMemory I16 v r = record { le = omega arith }
put_within InMemory U16 v r = record { le = omega arith }
put_within InMemory I32 v r = let s = bin_most (r + 1 == r) in record { le = omega (arith, s) }
put_within InMemory U32 v r = let s = bin_most (r + 1 == r) in record { le = omega (arith, s) }

pub local_within : (o : Option Spot) (r : ℕ) → IsWithin 6 (local_code o r)
local_within None r = record { le = omega arith }
local_within (Some (Values regs)) r = record { le = omega arith }
local_within (Some (Frame o)) r = set_then 0 _ _ _ none_within

pub address_within : (kind : Kind) (r : ℕ) → IsWithin 4 (address_code kind r)
address_within (InValues regs) r = record { le = omega arith }
address_within InFrame r = record { le = omega arith }
address_within InMemory r = record { le = omega arith }
