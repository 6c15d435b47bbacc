-- How long code is: fifty instructions a node at most, and ten for each case and each local of an inlined call.
use Rattle.std.proofs.Common.{◌≡◌, ℕ, zero, suc, ◌+◌, ◌-◌, ◌*◌, ◌≤◌, Bool, true, false, List, [], ◌∷◌, ◌++◌, length, Option, Some, None, arith, length-append}
use Rattle.std.specs.Prelude.{ℤ, pos, ◌==◌, slice_get, slice_index_or, if◌then◌else◌}
use Rattle.std.specs.Ordering.{int_eq}
use Rattle.nm_base.specs.declared.int_type.IntType.{IntType}
use Rattle.nm_base.specs.declared.int_type.IntType.TheVariants.{I8, U8, I16, U16, I32, U32}
use Rattle.nm_base.specs.IntType.{wrapped}
use Rattle.nesc_core.specs.declared.tree.UnOp.{UnOp}
use Rattle.nesc_core.specs.declared.tree.UnOp.TheVariants as un
use Rattle.nesc_core.specs.declared.tree.BinOp.{BinOp}
use Rattle.nesc_core.specs.declared.tree.BinOp.TheVariants as bin
use Rattle.nesc_core.specs.Plain.{Ty, Expr, Exprs, no_exprs, more_exprs, Place, Stmt, Stmts, Case, no_stmts, more_stmts, Body, Program}
use Rattle.nesc_core.specs.Plain as plain
use Rattle.nesc_core.specs.PlaceTypes.{place_type, element_of, count_of}
use Rattle.nesc_core.specs.Heres.{gives_value}
use Rattle.nesc_core.specs.Nodes.{expr_nodes_of, exprs_nodes_of, maybe_nodes_of, place_nodes_of, stmt_nodes_of, stmts_nodes_of}
use Rattle.nesc_core.specs.WellFormed.{count_exprs, count_stmts}
use Rattle.core_meaning.specs.Layout.{size_of}
use Rattle.core_meaning.specs.Work.{number_of}
use Rattle.core_meaning.specs.Flow.{start_of_default}
use Rattle.mid_code.specs.declared.instr.Mid.{Mid}
use Rattle.mid_code.specs.declared.instr.Mid.TheVariants.{Set, Bin, Call, Label, Jump, Post, Ret, End, Tick}
use Rattle.mid_code.specs.declared.help.HelpOp.{HelpOp}
use Rattle.mid_code.specs.declared.help.HelpOp.TheVariants as help
use Rattle.mid_code.specs.declared.instr.Op.{Op}
use Rattle.mid_code.specs.declared.instr.Op.TheVariants.{Add, Sub, And, Or, Xor}
use Rattle.mid_code.specs.declared.instr.Test.{Test}
use Rattle.mid_code.specs.declared.instr.Test.TheVariants.{Eq, Ne}
use Rattle.mid_code.specs.Help.{is_wide}
use Rattle.lower_expr.specs.declared.spot.Regs.{Regs}
use Rattle.lower_expr.specs.declared.spot.Spot.{Spot}
use Rattle.lower_expr.specs.declared.spot.Spot.TheVariants.{Values, Frame}
use Rattle.lower_expr.specs.Held.{held, is_signed, result_of}
use Rattle.lower_expr.specs.Pieces.{binary_code, bits_code, bound_code, const_code, convert_code, count_code, distance_code, divisor_code, element_code, equal_code, fit_code, high_code, index_bound, move_code, offset_code, order_code, product_code, scaled_code, shift_code, sum_code, truth_code, unary_code, zero_code}
use Rattle.lower_expr.specs.Code.{Kind, InValues, InFrame, InMemory, address_code, all_labels, args_code, expr_code, fetch_code, is_void, keep_code, kind_of, kind_of_spot, labels, load_code, local_code, passed_at, peek_code, place_code, place_labels, put_code, take_code, taken_at}
use Rattle.lower_stmt.specs.Code.{Ways, case_code, cases_code, clear_code, clears_code, enter_code, here_gives, in_atomic, in_here, in_loop, in_switch, kept_code, label_of, maybe_labels, nothing_code, result_code, returned_code, same_code, step_code, stmt_code, stmt_labels, stmts_code, switch_code, zero_local_code, zero_regs_code, WayOut, breaking, continuing, returning, exit_code, exits_code, leads, way_out}
use Rattle.lower_stmt.specs.Bodies.{base_of, body_code, spots_of, ways_of}
use Rattle.lower_form.specs.Short.{stmt_extras, stmts_extras}

-- code of at most n instructions
pub record IsWithin (n : ℕ) (c : List Mid) : Type 0 where
  pub le : length c ≤ n

two : (a b : List Mid) → length (a ++ b) ≡ length a + length b
two a b = length-append a b

both_within : (m n : ℕ) (a b : List Mid) → IsWithin m a → IsWithin n b → IsWithin (m + n) (a ++ b)
both_within m n a b h g = let e = two a b in let hl = h.le in let gl = g.le in record { le = omega (arith, e, hl, gl) }

if_within : (n : ℕ) (t : Bool) (a b : List Mid) → IsWithin n a → IsWithin n b → IsWithin n (if t then a else b)
if_within n true a b h g = h
if_within n false a b h g = g

weaker : (m n : ℕ) (a : List Mid) → m ≤ n → IsWithin m a → IsWithin n a
weaker m n a le h = let hl = h.le in record { le = omega (arith, le, hl) }

-- ---- pieces

const_within : (t : IntType) (x : ℤ) (r : ℕ) → IsWithin 2 (const_code t x r)
const_within t x r = if_within 2 (is_wide t) _ _ (record { le = omega arith }) (record { le = omega arith })

move_within : (wide : Bool) (d r : ℕ) → IsWithin 2 (move_code wide d r)
move_within true d r = record { le = omega arith }
move_within false d r = record { le = omega arith }

fit_within : (t : IntType) (r : ℕ) → IsWithin 5 (fit_code t r)
fit_within I8 r = record { le = omega arith }
fit_within U8 r = record { le = omega arith }
fit_within I16 r = record { le = omega arith }
fit_within U16 r = record { le = omega arith }
fit_within I32 r = record { le = omega arith }
fit_within U32 r = record { le = omega arith }

high_within : (from to signed : Bool) (r l : ℕ) → IsWithin 4 (high_code from to signed r l)
high_within true to signed r l = record { le = omega arith }
high_within false true true r l = record { le = omega arith }
high_within false true false r l = record { le = omega arith }
high_within false false signed r l = record { le = omega arith }

convert_within : (from to : IntType) (r l : ℕ) → IsWithin 9 (convert_code from to r l)
convert_within from to r l = both_within 5 4 (fit_code to r) (high_code (is_wide from) (is_wide to) (is_signed from) r l) (fit_within to r) (high_within (is_wide from) (is_wide to) (is_signed from) r l)

zero_within : (test : Test) (wide : Bool) (r l : ℕ) → IsWithin 3 (zero_code test wide r l)
zero_within test true r l = record { le = omega arith }
zero_within test false r l = record { le = omega arith }

unary_within : (op : UnOp) (wide : Bool) (r l : ℕ) → IsWithin 8 (unary_code op wide r l)
unary_within un.Neg true r l = record { le = omega arith }
unary_within un.Neg false r l = record { le = omega arith }
unary_within un.Not true r l = record { le = omega arith }
unary_within un.Not false r l = record { le = omega arith }
unary_within un.IsZero wide r l = both_within 3 5 (zero_code Eq wide r l) (truth_code r l) (zero_within Eq wide r l) (record { le = omega arith })

sum_within : (op : Op) (wide : Bool) (r : ℕ) → IsWithin 4 (sum_code op wide r)
sum_within op true r = record { le = omega arith }
sum_within op false r = record { le = omega arith }

bits_within : (op : Op) (wide : Bool) (r : ℕ) → IsWithin 10 (bits_code op wide r)
bits_within op true r = record { le = omega arith }
bits_within op false r = record { le = omega arith }

divisor_within : (wide : Bool) (r l : ℕ) → IsWithin 5 (divisor_code wide r l)
divisor_within true r l = record { le = omega arith }
divisor_within false r l = record { le = omega arith }

count_within : (wide : Bool) (r l : ℕ) → IsWithin 4 (count_code wide r l)
count_within true r l = record { le = omega arith }
count_within false r l = record { le = omega arith }

shift_within : (o : HelpOp) (t s : IntType) (r l : ℕ) → IsWithin 10 (shift_code o t s r l)
shift_within o t s r l = weaker 5 10 _ (omega arith) (both_within 4 1 (count_code (is_wide s) r l) _ (count_within (is_wide s) r l) (record { le = omega arith }))

equal_within : (test : Test) (wide : Bool) (r l : ℕ) → IsWithin 10 (equal_code test wide r l)
equal_within test true r l = record { le = omega arith }
equal_within test false r l = record { le = omega arith }

order_within : (strict signed wide : Bool) (r l : ℕ) → IsWithin 10 (order_code strict signed wide r l)
order_within strict signed true r l = record { le = omega arith }
order_within true signed false r l = record { le = omega arith }
order_within false signed false r l = record { le = omega arith }

sum_and_fit : (op : Op) (t : IntType) (r : ℕ) → IsWithin 10 (sum_code op (is_wide t) r ++ fit_code t r)
sum_and_fit op t r = weaker 9 10 _ (omega arith) (both_within 4 5 (sum_code op (is_wide t) r) (fit_code t r) (sum_within op (is_wide t) r) (fit_within t r))

division_within : (o : HelpOp) (t : IntType) (r l : ℕ) → IsWithin 10 (divisor_code (is_wide t) r l ++ product_code o t r)
division_within o t r l = weaker 6 10 _ (omega arith) (both_within 5 1 (divisor_code (is_wide t) r l) (product_code o t r) (divisor_within (is_wide t) r l) (record { le = omega arith }))

binary_within : (op : BinOp) (t s : IntType) (r l : ℕ) → IsWithin 10 (binary_code op t s r l)
binary_within bin.Add t s r l = sum_and_fit Add t r
binary_within bin.Sub t s r l = sum_and_fit Sub t r
binary_within bin.Mul t s r l = record { le = omega arith }
binary_within bin.Div t s r l = division_within help.Div t r l
binary_within bin.Rem t s r l = division_within help.Rem t r l
binary_within bin.And t s r l = bits_within And (is_wide t) r
binary_within bin.Or t s r l = bits_within Or (is_wide t) r
binary_within bin.Xor t s r l = bits_within Xor (is_wide t) r
binary_within bin.Shl t s r l = shift_within help.Shl t s r l
binary_within bin.Shr t s r l = shift_within help.Shr t s r l
binary_within bin.Eq t s r l = equal_within Eq (is_wide t) r l
binary_within bin.Ne t s r l = equal_within Ne (is_wide t) r l
binary_within bin.Lt t s r l = order_within true (is_signed t) (is_wide t) r l
binary_within bin.Le t s r l = order_within false (is_signed t) (is_wide t) r l

scaled_within : (size r : ℕ) → IsWithin 2 (scaled_code size r)
scaled_within size r =
    if_within 2 (size == 1) _ _ (record { le = omega arith }) (if_within 2 (size == 2) _ _ (record { le = omega arith })
    (if_within 2 (size == 4) _ _ (record { le = omega arith }) (record { le = omega arith })))

bound_within : (wide : Bool) (bound r l : ℕ) → IsWithin 8 (bound_code wide bound r l)
bound_within true bound r l = if_within 8 (bound == 4294967296) _ _ (record { le = omega arith }) (record { le = omega arith })
bound_within false bound r l = if_within 8 (bound == 65536) _ _ (record { le = omega arith }) (record { le = omega arith })

offset_within : (size r : ℕ) → IsWithin 3 (offset_code size r)
offset_within size r = both_within 2 1 (scaled_code size (r + 2)) _ (scaled_within size (r + 2)) (record { le = omega arith })

element_within : (t : IntType) (count size r l : ℕ) → IsWithin 11 (element_code t count size r l)
element_within t count size r l =
    both_within 8 3 (bound_code (is_wide t) (index_bound t count) r l) (scaled_code size (r + 2) ++ Bin Add r r (r + 2) ∷ []) (bound_within (is_wide t) (index_bound t count) r l)
    (both_within 2 1 (scaled_code size (r + 2)) (Bin Add r r (r + 2) ∷ []) (scaled_within size (r + 2)) (record { le = omega arith }))

distance_within : (size r : ℕ) → IsWithin 3 (distance_code size r)
distance_within size r = both_within 1 2 (Bin Sub r r (r + 2) ∷ []) _ (record { le = omega arith }) (if_within 2 (size == 1) _ _ (record { le = omega arith }) (record { le = omega arith }))

load_within : (t : IntType) (d r : ℕ) → IsWithin 6 (load_code t d r)
load_within I8 d r = record { le = omega arith }
load_within U8 d r = record { le = omega arith }
load_within I16 d r = record { le = omega arith }
load_within U16 d r = record { le = omega arith }
load_within I32 d r = record { le = omega arith }
load_within U32 d r = record { le = omega arith }

peek_within : (t : IntType) (d r : ℕ) → IsWithin 6 (peek_code t d r)
peek_within I8 d r = record { le = omega arith }
peek_within U8 d r = record { le = omega arith }
peek_within I16 d r = record { le = omega arith }
peek_within U16 d r = record { le = omega arith }
peek_within I32 d r = record { le = omega arith }
peek_within U32 d r = record { le = omega arith }

take_within : (wide : Bool) (regs : Regs) (d : ℕ) → IsWithin 6 (take_code wide regs d)
take_within true regs d = record { le = omega arith }
take_within false regs d = record { le = omega arith }

keep_within : (wide : Bool) (regs : Regs) (v : ℕ) → IsWithin 4 (keep_code wide regs v)
keep_within true regs v = record { le = omega arith }
keep_within false regs v = record { le = omega arith }

fetch_within : (kind : Kind) (t : IntType) (d r : ℕ) → IsWithin 6 (fetch_code kind t d r)
fetch_within (InValues regs) t d r = take_within (is_wide t) regs d
fetch_within InFrame t d r = peek_within t d r
fetch_within InMemory t d r = load_within t d r

put_within : (kind : Kind) (t : IntType) (v r : ℕ) → IsWithin 4 (put_code kind t v r)
put_within (InValues regs) t v r = keep_within (is_wide t) regs v
put_within InFrame t v r = if_within 4 (is_wide t) _ _ (record { le = omega arith }) (record { le = omega arith })
put_within InMemory t v r = if_within 4 (is_wide t) _ _ (record { le = omega arith }) (record { le = omega arith })

local_within : (o : Option Spot) (r : ℕ) → IsWithin 1 (local_code o r)
local_within None r = record { le = omega arith }
local_within (Some (Values regs)) r = record { le = omega arith }
local_within (Some (Frame o)) r = record { le = omega arith }

address_within : (kind : Kind) (r : ℕ) → IsWithin 1 (address_code kind r)
address_within (InValues regs) r = record { le = omega arith }
address_within InFrame r = record { le = omega arith }
address_within InMemory r = record { le = omega arith }

-- ---- expressions

module _ (p : Program) (types checks : List Ty) (spots : List Spot) where
  abbrev code_of : Expr → (r l : ℕ) → List Mid
  code_of e r l = expr_code p types checks spots e r l

  -- with six to spare
  record Long (n : ℕ) (c : List Mid) : Type 0 where
    le : length c + 6 ≤ 50 * n

  -- one part and a piece of at most 44 instructions behind it
  one_part : (m n : ℕ) (a b : List Mid) → n ≤ 44 → Long m a → IsWithin n b → Long (1 + m) (a ++ b)
  one_part m n a b few h g = let e = two a b in let hl = h.le in let gl = g.le in record { le = omega (arith, e, hl, gl, few) }

  two_parts : (m k n : ℕ) (a b c : List Mid) → n ≤ 44 → Long m a → Long k b → IsWithin n c → Long (1 + m + k) (a ++ (b ++ c))
  two_parts m k n a b c few h g f =
      let e1 = two a (b ++ c) in let e2 = two b c in let hl = h.le in let gl = g.le in let fl = f.le in record { le = omega (arith, e1, e2, hl, gl, fl, few) }

  alone : (n : ℕ) (a : List Mid) → n ≤ 44 → IsWithin n a → Long 1 a
  alone n a few h = let hl = h.le in record { le = omega (arith, hl, few) }

  -- a piece between two parts, and one behind them
  between : (m k n j : ℕ) (a z b c : List Mid) → n + j ≤ 44 → Long m a → IsWithin n z → Long k b → IsWithin j c → Long (1 + m + k) (a ++ (z ++ (b ++ c)))
  between m k n j a z b c few h y g f =
      let e1 = two a (z ++ (b ++ c)) in
      let e2 = two z (b ++ c) in
      let e3 = two b c in
      let hl = h.le in
      let yl = y.le in
      let gl = g.le in
      let fl = f.le in
      record { le = omega (arith, e1, e2, e3, hl, yl, gl, fl, few) }

  mutual
    place_long : (place : Place) (r l : ℕ) → Long (place_nodes_of place) (place_code p types checks spots place r l)
    place_long (plain.object k) r l = alone 1 _ (omega arith) (record { le = omega arith })
    place_long (plain.local x) r l = alone 1 _ (omega arith) (local_within (slice_get spots x) r)
    place_long (plain.deref e t) r l = one_part (expr_nodes_of e) 1 (code_of e r l) _ (omega arith) (expr_long e r l) (record { le = omega arith })
    place_long (plain.index place e) r l =
        two_parts (place_nodes_of place) (expr_nodes_of e) 11 (place_code p types checks spots place r (l + 2)) (code_of e (r + 2) (l + 2 + place_labels place)) _ (omega arith) (place_long place r (l + 2)) (expr_long e (r + 2) (l + 2 + place_labels place))
        (element_within (held p types e) (count_of (place_type p types place)) (size_of p (element_of (place_type p types place))) r l)
    place_long (plain.field place k) r l = one_part (place_nodes_of place) 2 (place_code p types checks spots place r l) _ (omega arith) (place_long place r l) (record { le = omega arith })

    expr_long : (e : Expr) (r l : ℕ) → Long (expr_nodes_of e) (expr_code p types checks spots e r l)
    expr_long (plain.const t x) r l = alone 2 _ (omega arith) (const_within t x r)
    expr_long plain.null r l = alone 1 _ (omega arith) (record { le = omega arith })
    expr_long (plain.read place at) r l =
        one_part (place_nodes_of place) 6 (place_code p types checks spots place r l) _ (omega arith) (place_long place r l) (fetch_within (kind_of p types checks spots place) (number_of (place_type p types place)) r r)
    expr_long (plain.addr place) r l = one_part (place_nodes_of place) 1 (place_code p types checks spots place r l) _ (omega arith) (place_long place r l) (address_within (kind_of p types checks spots place) r)
    expr_long (plain.un op t e) r l = one_part (expr_nodes_of e) 8 (code_of e r (l + 2)) _ (omega arith) (expr_long e r (l + 2)) (unary_within op (is_wide t) r l)
    expr_long (plain.bin op t a b) r l =
        two_parts (expr_nodes_of a) (expr_nodes_of b) 10 (code_of a r (l + 3)) (code_of b (r + 2) (l + 3 + labels a)) _ (omega arith) (expr_long a r (l + 3)) (expr_long b (r + 2) (l + 3 + labels a)) (binary_within op t (held p types b) r l)
    expr_long (plain.convert t e) r l = one_part (expr_nodes_of e) 9 (code_of e r (l + 1)) _ (omega arith) (expr_long e r (l + 1)) (convert_within (held p types e) t r l)
    expr_long (plain.offset a b size) r l =
        two_parts (expr_nodes_of a) (expr_nodes_of b) 3 (code_of a r l) (code_of b (r + 2) (l + labels a)) _ (omega arith) (expr_long a r l) (expr_long b (r + 2) (l + labels a)) (offset_within size r)
    expr_long (plain.distance a b size) r l =
        two_parts (expr_nodes_of a) (expr_nodes_of b) 3 (code_of a r l) (code_of b (r + 2) (l + labels a)) _ (omega arith) (expr_long a r l) (expr_long b (r + 2) (l + labels a)) (distance_within size r)
    expr_long (plain.both a b) r l =
        between (expr_nodes_of a) (expr_nodes_of b) 3 8 (code_of a r (l + 2)) (zero_code Eq (is_wide (held p types a)) r l) (code_of b r (l + 2 + labels a)) (zero_code Eq (is_wide (held p types b)) r l ++ Set r 1 ∷ Jump (l + 1) ∷ Label l ∷ Set r 0 ∷ Label (l + 1) ∷ [])
        (omega arith) (expr_long a r (l + 2)) (zero_within Eq (is_wide (held p types a)) r l) (expr_long b r (l + 2 + labels a))
        (both_within 3 5 (zero_code Eq (is_wide (held p types b)) r l) _ (zero_within Eq (is_wide (held p types b)) r l) (record { le = omega arith }))
    expr_long (plain.either a b) r l =
        between (expr_nodes_of a) (expr_nodes_of b) 3 8 (code_of a r (l + 2)) (zero_code Ne (is_wide (held p types a)) r l) (code_of b r (l + 2 + labels a)) (zero_code Ne (is_wide (held p types b)) r l ++ truth_code r l)
        (omega arith) (expr_long a r (l + 2)) (zero_within Ne (is_wide (held p types a)) r l) (expr_long b r (l + 2 + labels a))
        (both_within 3 5 (zero_code Ne (is_wide (held p types b)) r l) _ (zero_within Ne (is_wide (held p types b)) r l) (record { le = omega arith }))
    expr_long (plain.choice test a b) r l =
        let ct : List Mid = code_of test r (l + 2) in
        let z : List Mid = zero_code Eq (is_wide (held p types test)) r l in
        let ca : List Mid = code_of a r (l + 2 + labels test) in
        let cb : List Mid = code_of b r (l + 2 + labels test + labels a) in
        let e1 = two ct (z ++ (ca ++ (Jump (l + 1) ∷ Label l ∷ (cb ++ Label (l + 1) ∷ [])))) in
        let e2 = two z (ca ++ (Jump (l + 1) ∷ Label l ∷ (cb ++ Label (l + 1) ∷ []))) in
        let e3 = two ca (Jump (l + 1) ∷ Label l ∷ (cb ++ Label (l + 1) ∷ [])) in
        let e4 = two cb (Label (l + 1) ∷ []) in
        let h1 = (expr_long test r (l + 2)).le in
        let h2 = (zero_within Eq (is_wide (held p types test)) r l).le in
        let h3 = (expr_long a r (l + 2 + labels test)).le in
        let h4 = (expr_long b r (l + 2 + labels test + labels a)).le in
        record { le = omega (arith, e1, e2, e3, e4, h1, h2, h3, h4) }
    expr_long (plain.assign place e at) r l =
        two_parts (place_nodes_of place) (expr_nodes_of e) 6 (place_code p types checks spots place r l) (code_of e (r + 2) (l + place_labels place)) _ (omega arith) (place_long place r l) (expr_long e (r + 2) (l + place_labels place))
        (both_within 4 2 (put_code (kind_of p types checks spots place) (number_of (place_type p types place)) (r + 2) r) _ (put_within (kind_of p types checks spots place) (number_of (place_type p types place)) (r + 2) r)
        (move_within (is_wide (number_of (place_type p types place))) r (r + 2)))
    expr_long (plain.update place op t e gives_old at) r l =
        let of : IntType = number_of (place_type p types place) in
        let kind : Kind = kind_of p types checks spots place in
        let s : IntType = held p types e in
        between (place_nodes_of place) (expr_nodes_of e) 6 38 (place_code p types checks spots place r (l + 5)) (fetch_code kind of (r + 2) r) (code_of e (r + 4) (l + 5 + place_labels place)) _ (omega arith)
        (place_long place r (l + 5)) (fetch_within kind of (r + 2) r) (expr_long e (r + 4) (l + 5 + place_labels place))
        (both_within 2 36 (move_code (is_wide of) (r + 6) (r + 2)) _ (move_within (is_wide of) (r + 6) (r + 2))
        (both_within 9 27 (convert_code of t (r + 6) l) _ (convert_within of t (r + 6) l)
        (both_within 2 25 (move_code (is_wide s) (r + 8) (r + 4)) _ (move_within (is_wide s) (r + 8) (r + 4))
        (both_within 10 15 (binary_code op t s (r + 6) (l + 1)) _ (binary_within op t s (r + 6) (l + 1))
        (both_within 9 6 (convert_code t of (r + 6) (l + 4)) _ (convert_within t of (r + 6) (l + 4))
        (both_within 4 2 (put_code kind of (r + 6) r) _ (put_within kind of (r + 6) r) (move_within (is_wide of) r (if gives_old then r + 2 else r + 6))))))))
    expr_long (plain.call g arguments at) r l =
        let e = two (args_code p types checks spots arguments r l) (Tick ∷ Call g (passed_at p types checks spots arguments r) (taken_at (result_of (slice_get p.bodies g)) r) ∷ Tick ∷ []) in
        let h = args_long arguments r l in
        record { le = omega (arith, e, h) }
    expr_long (plain.post k) r l = alone 6 _ (omega arith) (both_within 1 5 (Post k r ∷ []) _ (record { le = omega arith }) (fit_within U8 r))
    expr_long (plain.port_in port) r l = alone 1 _ (omega arith) (record { le = omega arith })
    expr_long (plain.port_out port e) r l = one_part (expr_nodes_of e) 1 (code_of e r l) _ (omega arith) (expr_long e r l) (record { le = omega arith })
    expr_long (plain.comma a b) r l =
        let e = two (code_of a r l) (code_of b r (l + labels a)) in
        let h = (expr_long a r l).le in
        let g = (expr_long b r (l + labels a)).le in
        record { le = omega (arith, e, h, g) }

    args_long : (es : Exprs) (r l : ℕ) → length (args_code p types checks spots es r l) ≤ 50 * exprs_nodes_of es
    args_long no_exprs r l = omega arith
    args_long (more_exprs e rest) r l =
        let c = two (code_of e r l) (args_code p types checks spots rest (r + 2) (l + labels e)) in
        let h = (expr_long e r l).le in
        let g = args_long rest (r + 2) (l + labels e) in
        omega (arith, c, h, g)

-- ---- pieces of statements

nothing_within : (ty : Ty) (r : ℕ) → IsWithin 2 (nothing_code ty r)
nothing_within ty r = if_within 2 (is_void ty) _ _ (record { le = omega arith }) (const_within (number_of ty) (pos 0) r)

same_within : (wide : Bool) (r l : ℕ) → IsWithin 5 (same_code wide r l)
same_within true r l = record { le = omega arith }
same_within false r l = record { le = omega arith }

case_within : (t : IntType) (o : Option ℤ) (r l : ℕ) → IsWithin 7 (case_code t o r l)
case_within t None r l = record { le = omega arith }
case_within t (Some n) r l =
    if_within 7 (int_eq (wrapped t n) n) _ _ (both_within 2 5 (const_code t n (r + 2)) (same_code (is_wide t) r l) (const_within t n (r + 2)) (same_within (is_wide t) r l)) (record { le = omega arith })

cases_long : (t : IntType) (cases : List Case) (default : Option ℕ) (r l : ℕ) → length (cases_code t cases default r l) ≤ 1 + 10 * length cases
cases_long t [] default r l = omega arith
cases_long t (c ∷ cases) default r l =
    let e = two (case_code t c.value r (label_of (Some c.start) l)) (cases_code t cases default r l) in
    let h = (case_within t c.value r (label_of (Some c.start) l)).le in
    let g = cases_long t cases default r l in
    omega (arith, e, h, g)

zero_local_within : (o : Option Spot) (ty : Ty) (size r l : ℕ) → IsWithin 10 (zero_local_code o ty size r l)
zero_local_within None ty size r l = record { le = omega arith }
zero_local_within (Some (Values regs)) ty size r l = by (is_wide (number_of ty))
  where
    by : (wide : Bool) → IsWithin 10 (zero_regs_code wide regs)
    by true = record { le = omega arith }
    by false = record { le = omega arith }
zero_local_within (Some (Frame o)) ty size r l = record { le = omega arith }

exit_within : (b : Bool) (o l : ℕ) (onward : Mid) → IsWithin 5 (exit_code b o l onward)
exit_within true o l onward = record { le = omega arith }
exit_within false o l onward = record { le = omega arith }

exits_within : (may : WayOut → Bool) (w : Ways) (r l : ℕ) → IsWithin 15 (exits_code may w r l)
exits_within may w r l =
    both_within 5 10 (exit_code (may returning) w.status l (way_out w r returning)) _ (exit_within (may returning) w.status l (way_out w r returning))
    (both_within 5 5 (exit_code (may breaking) w.status (l + 2) (way_out w r breaking)) (exit_code (may continuing) w.status (l + 4) (way_out w r continuing))
    (exit_within (may breaking) w.status (l + 2) (way_out w r breaking)) (exit_within (may continuing) w.status (l + 4) (way_out w r continuing)))

-- ---- statements

module _ (p : Program) (types checks : List Ty) (spots : List Spot) (base : ℕ) where
  abbrev expr_at : Expr → (r l : ℕ) → List Mid
  expr_at e r l = expr_code p types checks spots e r l

  of_expr : (e : Expr) (r l : ℕ) → length (expr_at e r l) + 6 ≤ 50 * expr_nodes_of e
  of_expr e r l = (expr_long p types checks spots e r l).le

  of_step : (e : Option Expr) (l : ℕ) → length (step_code p types checks spots base e l) ≤ 50 * maybe_nodes_of e
  of_step None l = omega arith
  of_step (Some e) l = let h = of_expr e base l in omega (arith, h)

  of_returned : (e : Option Expr) (w : Ways) (l : ℕ) → length (returned_code p types checks spots base e w l) ≤ 2 + 50 * maybe_nodes_of e
  of_returned None w l = let h = (nothing_within w.gives (base + 2)).le in omega (arith, h)
  of_returned (Some e) w l = let h = of_expr e (base + 2) l in omega (arith, h)

  of_kept : (n : ℕ) (ty : Ty) (o : Option Spot) (work : List Mid) → length work ≤ n → length (kept_code p types checks spots base ty o work) ≤ n + 5
  of_kept n ty o work h = by (is_void ty)
    where
      by : (b : Bool) → length (if b then work else local_code o base ++ (work ++ put_code (kind_of_spot o) (number_of ty) (base + 2) base)) ≤ n + 5
      by true = omega (arith, h)
      by false =
          let e1 = two (local_code o base) (work ++ put_code (kind_of_spot o) (number_of ty) (base + 2) base) in
          let e2 = two work (put_code (kind_of_spot o) (number_of ty) (base + 2) base) in
          let g = (local_within o base).le in
          let f = (put_within (kind_of_spot o) (number_of ty) (base + 2) base).le in
          omega (arith, e1, e2, g, f, h)

  of_enter : (es : Exprs) (x l : ℕ) → length (enter_code p types checks spots base es x l) ≤ 50 * exprs_nodes_of es
  of_enter no_exprs x l = omega arith
  of_enter (more_exprs e rest) x l =
      let ty : Ty = slice_index_or types x plain.void in
      let ce : List Mid = expr_at e (base + 2) l in
      let k = of_kept (length ce) ty (slice_get spots x) ce (omega arith) in
      let c = two (kept_code p types checks spots base ty (slice_get spots x) ce) (enter_code p types checks spots base rest (x + 1) (l + labels e)) in
      let h = of_expr e (base + 2) l in
      let g = of_enter rest (x + 1) (l + labels e) in
      omega (arith, k, c, h, g)

  of_clear : (x l : ℕ) → length (clear_code p types checks spots base x l) ≤ 10
  of_clear x l = (zero_local_within (slice_get spots x) (slice_index_or types x plain.void) (size_of p (slice_index_or types x plain.void)) base l).le

  of_clears : (count x l : ℕ) → length (clears_code p types checks spots base count x l) ≤ 10 * count
  of_clears zero x l = omega arith
  of_clears (suc count) x l =
      let e = two (clear_code p types checks spots base x l) (clears_code p types checks spots base count (x + 1) (l + 2)) in
      let h = of_clear x l in
      let g = of_clears count (x + 1) (l + 2) in
      omega (arith, e, h, g)

  of_result : (b : Bool) (x : ℕ) → length (result_code p types checks spots base b x) ≤ 5
  of_result false x = omega arith
  of_result true x = of_kept 0 (slice_index_or types x plain.void) (slice_get spots x) [] (omega arith)

  mutual
    stmt_long : (s : Stmt) (w : Ways) (l : ℕ) → length (stmt_code p types checks spots base s w l) + 1 ≤ 50 * stmt_nodes_of s + 10 * stmt_extras s
    stmt_long (plain.eval e) w l = let h = of_expr e base l in omega (arith, h)
    stmt_long (plain.block list) w l = let h = stmts_long list w l in omega (arith, h)
    stmt_long (plain.branch test a b) w l =
        let ct : List Mid = expr_at test base (l + 2) in
        let ca : List Mid = stmt_code p types checks spots base a w (l + 2 + labels test) in
        let cb : List Mid = stmt_code p types checks spots base b w (l + 2 + labels test + stmt_labels a) in
        let z : List Mid = zero_code Eq (is_wide (held p types test)) base l in
        let e1 = two ct (z ++ (ca ++ (Jump (l + 1) ∷ Label l ∷ (cb ++ Label (l + 1) ∷ [])))) in
        let e2 = two z (ca ++ (Jump (l + 1) ∷ Label l ∷ (cb ++ Label (l + 1) ∷ []))) in
        let e3 = two ca (Jump (l + 1) ∷ Label l ∷ (cb ++ Label (l + 1) ∷ [])) in
        let e4 = two cb (Label (l + 1) ∷ []) in
        let h1 = of_expr test base (l + 2) in
        let h2 = (zero_within Eq (is_wide (held p types test)) base l).le in
        let h3 = stmt_long a w (l + 2 + labels test) in
        let h4 = stmt_long b w (l + 2 + labels test + stmt_labels a) in
        omega (arith, e1, e2, e3, e4, h1, h2, h3, h4)
    stmt_long (plain.loop true test step body) w l =
        let inner : Ways = in_loop (l + 1) (l + 2) w in
        let lb : ℕ = l + 3 + labels test + maybe_labels step in
        let ct : List Mid = expr_at test base (l + 3) in
        let cb : List Mid = stmt_code p types checks spots base body inner lb in
        let cs : List Mid = step_code p types checks spots base step (l + 3 + labels test) in
        let z : List Mid = zero_code Eq (is_wide (held p types test)) base (l + 1) in
        let e1 = two ct (z ++ (cb ++ (Label (l + 2) ∷ (cs ++ Jump l ∷ Label (l + 1) ∷ [])))) in
        let e2 = two z (cb ++ (Label (l + 2) ∷ (cs ++ Jump l ∷ Label (l + 1) ∷ []))) in
        let e3 = two cb (Label (l + 2) ∷ (cs ++ Jump l ∷ Label (l + 1) ∷ [])) in
        let e4 = two cs (Jump l ∷ Label (l + 1) ∷ []) in
        let h1 = of_expr test base (l + 3) in
        let h2 = (zero_within Eq (is_wide (held p types test)) base (l + 1)).le in
        let h3 = stmt_long body inner lb in
        let h4 = of_step step (l + 3 + labels test) in
        omega (arith, e1, e2, e3, e4, h1, h2, h3, h4)
    stmt_long (plain.loop false test step body) w l =
        let inner : Ways = in_loop (l + 1) (l + 2) w in
        let lb : ℕ = l + 3 + labels test + maybe_labels step in
        let ct : List Mid = expr_at test base (l + 3) in
        let cb : List Mid = stmt_code p types checks spots base body inner lb in
        let z : List Mid = zero_code Ne (is_wide (held p types test)) base l in
        let e1 = two cb (Label (l + 2) ∷ (ct ++ (z ++ Label (l + 1) ∷ []))) in
        let e2 = two ct (z ++ Label (l + 1) ∷ []) in
        let e3 = two z (Label (l + 1) ∷ []) in
        let h1 = of_expr test base (l + 3) in
        let h2 = (zero_within Ne (is_wide (held p types test)) base l).le in
        let h3 = stmt_long body inner lb in
        omega (arith, e1, e2, e3, h1, h2, h3)
    stmt_long (plain.switch e cases list) w l =
        let ls : ℕ = l + 1 + count_stmts list + labels e in
        let ce : List Mid = expr_at e base (l + 1 + count_stmts list) in
        let cs : List Mid = switch_code p types checks spots base list (in_switch l w) (l + 1) ls in
        let z : List Mid = cases_code (held p types e) cases (start_of_default cases) base l in
        let e1 = two ce (z ++ (cs ++ Label l ∷ [])) in
        let e2 = two z (cs ++ Label l ∷ []) in
        let e3 = two cs (Label l ∷ []) in
        let h1 = of_expr e base (l + 1 + count_stmts list) in
        let h2 = cases_long (held p types e) cases (start_of_default cases) base l in
        let h3 = switch_long list (in_switch l w) (l + 1) ls in
        omega (arith, e1, e2, e3, h1, h2, h3)
    stmt_long plain.break w l = omega arith
    stmt_long plain.continue w l = omega arith
    stmt_long (plain.return e) w l =
        let c = two (returned_code p types checks spots base e w l) (way_out w (base + 2) returning ∷ []) in
        let h = of_returned e w l in
        omega (arith, c, h)
    stmt_long (plain.atomic s) w l =
        let cs : List Mid = stmt_code p types checks spots base s (in_atomic l w) (l + 6) in
        let c = two cs (End w.status ∷ exits_code (leads s) w (base + 2) l) in
        let h = stmt_long s (in_atomic l w) (l + 6) in
        let g = (exits_within (leads s) w (base + 2) l).le in
        omega (arith, c, h, g)
    stmt_long (plain.clear x) w l = let h = of_clear x l in omega (arith, h)
    stmt_long (plain.here arguments first count body) w l =
        let gives : Bool = gives_value body in
        let ways : Ways = in_here l (here_gives p types checks spots base gives (first + count)) w in
        let n : ℕ = count_exprs arguments in
        let la : ℕ = all_labels arguments in
        let ca : List Mid = enter_code p types checks spots base arguments first (l + 1) in
        let cc1 : List Mid = clears_code p types checks spots base (count - n) (first + n) (l + 1 + la) in
        let cb : List Mid = stmt_code p types checks spots base body ways (l + 1 + la + 2 * count) in
        let cn : List Mid = nothing_code ways.gives (base + 2) in
        let cr : List Mid = result_code p types checks spots base gives (first + count) in
        let e1 = two ca (cc1 ++ (Tick ∷ (cb ++ (cn ++ (Label l ∷ Tick ∷ cr))))) in
        let e2 = two cc1 (Tick ∷ (cb ++ (cn ++ (Label l ∷ Tick ∷ cr)))) in
        let e3 = two cb (cn ++ (Label l ∷ Tick ∷ cr)) in
        let e4 = two cn (Label l ∷ Tick ∷ cr) in
        let h1 = of_enter arguments first (l + 1) in
        let h2 = of_clears (count - n) (first + n) (l + 1 + la) in
        let h3 = stmt_long body ways (l + 1 + la + 2 * count) in
        let h4 = (nothing_within ways.gives (base + 2)).le in
        let h5 = of_result gives (first + count) in
        omega (arith, e1, e2, e3, e4, h1, h2, h3, h4, h5)

    stmts_long : (list : Stmts) (w : Ways) (l : ℕ) → length (stmts_code p types checks spots base list w l) ≤ 50 * stmts_nodes_of list + 10 * stmts_extras list
    stmts_long no_stmts w l = omega arith
    stmts_long (more_stmts s rest) w l =
        let c = two (stmt_code p types checks spots base s w l) (stmts_code p types checks spots base rest w (l + stmt_labels s)) in
        let h = stmt_long s w l in
        let g = stmts_long rest w (l + stmt_labels s) in
        omega (arith, c, h, g)

    switch_long : (list : Stmts) (w : Ways) (k l : ℕ) → length (switch_code p types checks spots base list w k l) ≤ 50 * stmts_nodes_of list + 10 * stmts_extras list
    switch_long no_stmts w k l = omega arith
    switch_long (more_stmts s rest) w k l =
        let c = two (stmt_code p types checks spots base s w l) (switch_code p types checks spots base rest w (suc k) (l + stmt_labels s)) in
        let h = stmt_long s w l in
        let g = switch_long rest w (suc k) (l + stmt_labels s) in
        omega (arith, c, h, g)

pub body_long : (p : Program) (checks : List Ty) (b : Body) → length (body_code p checks b) ≤ 50 * stmt_nodes_of b.code + 10 * stmt_extras b.code + 3
body_long p checks b =
    let c : List Mid = stmt_code p b.locals checks (spots_of p b) (base_of b) b.code (ways_of p b) 0 in
    let n : List Mid = nothing_code b.result (base_of b + 2) in
    let e1 = two c (n ++ Ret (taken_at b.result (base_of b + 2)) ∷ []) in
    let e2 = two n (Ret (taken_at b.result (base_of b + 2)) ∷ []) in
    let h = stmt_long p b.locals checks (spots_of p b) (base_of b) b.code (ways_of p b) 0 in
    let g = (nothing_within b.result (base_of b + 2)).le in
    omega (arith, e1, e2, h, g)
