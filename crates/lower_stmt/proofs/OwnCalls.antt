-- The code of a body calls the functions of those bodies alone that the body calls.
use Rattle.std.proofs.Common.{◌≡◌, ℕ, zero, suc, ◌+◌, ◌-◌, ◌*◌, ◌%◌, Bool, true, false, List, [], ◌∷◌, ◌++◌, All, Option, Some, None, refl, sym, ap, ◌∙◌, subst}
use Rattle.std.specs.Prelude.{ℤ, pos, ◌==◌, Contains, slice_get, slice_index_or, if◌then◌else◌}
use Rattle.std.specs.Ordering.{int_eq}
use Rattle.std.proofs.lemmas.List.Elements.{All-append, All-contains_itself, All-cons, All-head, All-nil, All-tail}
use Rattle.nm_base.specs.declared.int_type.IntType.{IntType}
use Rattle.nm_base.specs.declared.int_type.IntType.TheVariants.{I8, U8, I16, U16, I32, U32}
use Rattle.nm_base.specs.IntType.{wrapped}
use Rattle.nesc_core.specs.declared.tree.UnOp.{UnOp}
use Rattle.nesc_core.specs.declared.tree.UnOp.TheVariants as un
use Rattle.nesc_core.specs.declared.tree.BinOp.{BinOp}
use Rattle.nesc_core.specs.declared.tree.BinOp.TheVariants as bin
use Rattle.nesc_core.specs.Plain.{Ty, Expr, Exprs, no_exprs, more_exprs, Place, Stmt, Stmts, Case, no_stmts, more_stmts, Body, Program}
use Rattle.nesc_core.specs.Plain as plain
use Rattle.nesc_core.specs.PlaceTypes.{place_type, element_of, count_of}
use Rattle.nesc_core.specs.Heres.{gives_value}
use Rattle.nesc_core.specs.Calls.{expr_calls, exprs_calls, maybe_calls, place_calls, stmt_calls, stmts_calls}
use Rattle.nesc_core.specs.WellFormed.{count_exprs, count_stmts}
use Rattle.core_meaning.specs.Layout.{size_of}
use Rattle.core_meaning.specs.Work.{number_of}
use Rattle.core_meaning.specs.Flow.{start_of_default}
use Rattle.mid_code.specs.declared.instr.Mid.{Mid}
use Rattle.mid_code.specs.declared.instr.Mid.TheVariants.{Set, Move, Bin, Carry, Load, Store, Peek, Poke, In, Out, Label, Jump, Branch, Call, Help, Ret, Begin, End, Post, Tick, Fault}
use Rattle.mid_code.specs.declared.help.HelpOp.{HelpOp}
use Rattle.mid_code.specs.declared.help.HelpOp.TheVariants as help
use Rattle.mid_code.specs.declared.instr.Op.{Op}
use Rattle.mid_code.specs.declared.instr.Op.TheVariants.{Add, Sub, And, Or, Xor}
use Rattle.mid_code.specs.declared.instr.Test.{Test}
use Rattle.mid_code.specs.declared.instr.Test.TheVariants.{Eq, Ne}
use Rattle.mid_code.specs.Help.{is_wide, number_of_help}
use Rattle.lower_expr.specs.declared.spot.Regs.{Regs}
use Rattle.lower_expr.specs.declared.spot.Spot.{Spot}
use Rattle.lower_expr.specs.declared.spot.Spot.TheVariants.{Values, Frame}
use Rattle.lower_expr.specs.Held.{held, is_signed}
use Rattle.lower_expr.specs.Pieces.{binary_code, bits_code, bound_code, const_code, convert_code, count_code, distance_code, divisor_code, element_code, equal_code, fit_code, high_code, index_bound, move_code, offset_code, order_code, product_code, scaled_code, shift_code, sum_code, truth_code, unary_code, zero_code}
use Rattle.lower_expr.specs.Code.{Kind, InValues, InFrame, InMemory, address_code, all_labels, args_code, expr_code, fetch_code, is_void, keep_code, kind_of, kind_of_spot, labels, load_code, local_code, peek_code, place_code, place_labels, put_code, take_code, taken_at}
use Rattle.lower_stmt.specs.Code.{Ways, case_code, cases_code, clear_code, clears_code, enter_code, here_gives, in_atomic, in_here, in_loop, in_switch, kept_code, label_of, maybe_labels, nothing_code, result_code, returned_code, same_code, step_code, stmt_code, stmt_labels, stmts_code, switch_code, zero_local_code, zero_regs_code, WayOut, breaking, continuing, returning, back, exit_code, exits_code, leads, way_out}
use Rattle.lower_stmt.specs.Bodies.{base_of, mid_fn_of, spots_of, ways_of}
use Rattle.lower_stmt.specs.Bounds.{calls_in}
use Rattle.lower_stmt.proofs.Common.{both_of}

calls_both : (a b : List Mid) → calls_in (a ++ b) ≡ calls_in a ++ calls_in b
calls_both [] b = refl
calls_both (Call g ins outs ∷ a) b = ap (λ gs. g ∷ gs) (calls_both a b)
calls_both (Set v n ∷ a) b = calls_both a b
calls_both (Move v x ∷ a) b = calls_both a b
calls_both (Bin op v x y ∷ a) b = calls_both a b
calls_both (Carry op v x y ∷ a) b = calls_both a b
calls_both (Load w v x ∷ a) b = calls_both a b
calls_both (Store w v x ∷ a) b = calls_both a b
calls_both (Peek w v x ∷ a) b = calls_both a b
calls_both (Poke w v x ∷ a) b = calls_both a b
calls_both (In v port ∷ a) b = calls_both a b
calls_both (Out port v ∷ a) b = calls_both a b
calls_both (Label l ∷ a) b = calls_both a b
calls_both (Jump l ∷ a) b = calls_both a b
calls_both (Branch test x y l ∷ a) b = calls_both a b
calls_both (Help h ins outs ∷ a) b = calls_both a b
calls_both (Ret vs ∷ a) b = calls_both a b
calls_both (Begin o ∷ a) b = calls_both a b
calls_both (End o ∷ a) b = calls_both a b
calls_both (Post k v ∷ a) b = calls_both a b
calls_both (Tick ∷ a) b = calls_both a b
calls_both (Fault code ∷ a) b = calls_both a b

-- ---- pieces that call nothing

record Silent (c : List Mid) : Type 0 where
  none : calls_in c ≡ []

both_silent : (a b : List Mid) → Silent a → Silent b → Silent (a ++ b)
both_silent a b h g = record { none = calls_both a b ∙ ap (λ l. l ++ calls_in b) h.none ∙ g.none }

if_silent : (t : Bool) (a b : List Mid) → Silent a → Silent b → Silent (if t then a else b)
if_silent true a b h g = h
if_silent false a b h g = g

const_silent : (t : IntType) (x : ℤ) (r : ℕ) → Silent (const_code t x r)
const_silent t x r = if_silent (is_wide t) _ _ (record { none = refl }) (record { none = refl })

move_silent : (wide : Bool) (d r : ℕ) → Silent (move_code wide d r)
move_silent true d r = record { none = refl }
move_silent false d r = record { none = refl }

fit_silent : (t : IntType) (r : ℕ) → Silent (fit_code t r)
fit_silent I8 r = record { none = refl }
fit_silent U8 r = record { none = refl }
fit_silent I16 r = record { none = refl }
fit_silent U16 r = record { none = refl }
fit_silent I32 r = record { none = refl }
fit_silent U32 r = record { none = refl }

high_silent : (from to signed : Bool) (r l : ℕ) → Silent (high_code from to signed r l)
high_silent true to signed r l = record { none = refl }
high_silent false true true r l = record { none = refl }
high_silent false true false r l = record { none = refl }
high_silent false false signed r l = record { none = refl }

convert_silent : (from to : IntType) (r l : ℕ) → Silent (convert_code from to r l)
convert_silent from to r l = both_silent (fit_code to r) (high_code (is_wide from) (is_wide to) (is_signed from) r l) (fit_silent to r) (high_silent (is_wide from) (is_wide to) (is_signed from) r l)

zero_silent : (test : Test) (wide : Bool) (r l : ℕ) → Silent (zero_code test wide r l)
zero_silent test true r l = record { none = refl }
zero_silent test false r l = record { none = refl }

unary_silent : (op : UnOp) (wide : Bool) (r l : ℕ) → Silent (unary_code op wide r l)
unary_silent un.Neg true r l = record { none = refl }
unary_silent un.Neg false r l = record { none = refl }
unary_silent un.Not true r l = record { none = refl }
unary_silent un.Not false r l = record { none = refl }
unary_silent un.IsZero wide r l = both_silent (zero_code Eq wide r l) (truth_code r l) (zero_silent Eq wide r l) (record { none = refl })

sum_silent : (op : Op) (wide : Bool) (r : ℕ) → Silent (sum_code op wide r)
sum_silent op true r = record { none = refl }
sum_silent op false r = record { none = refl }

bits_silent : (op : Op) (wide : Bool) (r : ℕ) → Silent (bits_code op wide r)
bits_silent op true r = record { none = refl }
bits_silent op false r = record { none = refl }

divisor_silent : (wide : Bool) (r l : ℕ) → Silent (divisor_code wide r l)
divisor_silent true r l = record { none = refl }
divisor_silent false r l = record { none = refl }

count_silent : (wide : Bool) (r l : ℕ) → Silent (count_code wide r l)
count_silent true r l = record { none = refl }
count_silent false r l = record { none = refl }

shift_silent : (o : HelpOp) (t s : IntType) (r l : ℕ) → Silent (shift_code o t s r l)
shift_silent o t s r l = both_silent (count_code (is_wide s) r l) _ (count_silent (is_wide s) r l) (record { none = refl })

equal_silent : (test : Test) (wide : Bool) (r l : ℕ) → Silent (equal_code test wide r l)
equal_silent test true r l = record { none = refl }
equal_silent test false r l = record { none = refl }

order_silent : (strict signed wide : Bool) (r l : ℕ) → Silent (order_code strict signed wide r l)
order_silent strict signed true r l = record { none = refl }
order_silent true signed false r l = record { none = refl }
order_silent false signed false r l = record { none = refl }

binary_silent : (op : BinOp) (t s : IntType) (r l : ℕ) → Silent (binary_code op t s r l)
binary_silent bin.Add t s r l = both_silent (sum_code Add (is_wide t) r) (fit_code t r) (sum_silent Add (is_wide t) r) (fit_silent t r)
binary_silent bin.Sub t s r l = both_silent (sum_code Sub (is_wide t) r) (fit_code t r) (sum_silent Sub (is_wide t) r) (fit_silent t r)
binary_silent bin.Mul t s r l = record { none = refl }
binary_silent bin.Div t s r l = both_silent (divisor_code (is_wide t) r l) (product_code help.Div t r) (divisor_silent (is_wide t) r l) (record { none = refl })
binary_silent bin.Rem t s r l = both_silent (divisor_code (is_wide t) r l) (product_code help.Rem t r) (divisor_silent (is_wide t) r l) (record { none = refl })
binary_silent bin.And t s r l = bits_silent And (is_wide t) r
binary_silent bin.Or t s r l = bits_silent Or (is_wide t) r
binary_silent bin.Xor t s r l = bits_silent Xor (is_wide t) r
binary_silent bin.Shl t s r l = shift_silent help.Shl t s r l
binary_silent bin.Shr t s r l = shift_silent help.Shr t s r l
binary_silent bin.Eq t s r l = equal_silent Eq (is_wide t) r l
binary_silent bin.Ne t s r l = equal_silent Ne (is_wide t) r l
binary_silent bin.Lt t s r l = order_silent true (is_signed t) (is_wide t) r l
binary_silent bin.Le t s r l = order_silent false (is_signed t) (is_wide t) r l

scaled_silent : (size r : ℕ) → Silent (scaled_code size r)
scaled_silent size r = if_silent (size == 1) _ _ (record { none = refl }) (if_silent (size == 2) _ _ (record { none = refl }) (if_silent (size == 4) _ _ (record { none = refl }) (record { none = refl })))

bound_silent : (wide : Bool) (bound r l : ℕ) → Silent (bound_code wide bound r l)
bound_silent true bound r l = if_silent (bound == 4294967296) _ _ (record { none = refl }) (record { none = refl })
bound_silent false bound r l = if_silent (bound == 65536) _ _ (record { none = refl }) (record { none = refl })

offset_silent : (size r : ℕ) → Silent (offset_code size r)
offset_silent size r = both_silent (scaled_code size (r + 2)) _ (scaled_silent size (r + 2)) (record { none = refl })

element_silent : (t : IntType) (count size r l : ℕ) → Silent (element_code t count size r l)
element_silent t count size r l =
    both_silent (bound_code (is_wide t) (index_bound t count) r l) (scaled_code size (r + 2) ++ Bin Add r r (r + 2) ∷ []) (bound_silent (is_wide t) (index_bound t count) r l)
    (both_silent (scaled_code size (r + 2)) (Bin Add r r (r + 2) ∷ []) (scaled_silent size (r + 2)) (record { none = refl }))

distance_silent : (size r : ℕ) → Silent (distance_code size r)
distance_silent size r = record { none = (if_silent (size == 1) [] (Set (r + 2) (size % 65536) ∷ Help (number_of_help I16 help.Div) (r ∷ (r + 2) ∷ []) (r ∷ []) ∷ []) (record { none = refl }) (record { none = refl })).none }

load_silent : (t : IntType) (d r : ℕ) → Silent (load_code t d r)
load_silent I8 d r = record { none = refl }
load_silent U8 d r = record { none = refl }
load_silent I16 d r = record { none = refl }
load_silent U16 d r = record { none = refl }
load_silent I32 d r = record { none = refl }
load_silent U32 d r = record { none = refl }

peek_silent : (t : IntType) (d r : ℕ) → Silent (peek_code t d r)
peek_silent I8 d r = record { none = refl }
peek_silent U8 d r = record { none = refl }
peek_silent I16 d r = record { none = refl }
peek_silent U16 d r = record { none = refl }
peek_silent I32 d r = record { none = refl }
peek_silent U32 d r = record { none = refl }

take_silent : (wide : Bool) (regs : Regs) (d : ℕ) → Silent (take_code wide regs d)
take_silent true regs d = record { none = refl }
take_silent false regs d = record { none = refl }

keep_silent : (wide : Bool) (regs : Regs) (v : ℕ) → Silent (keep_code wide regs v)
keep_silent true regs v = record { none = refl }
keep_silent false regs v = record { none = refl }

fetch_silent : (kind : Kind) (t : IntType) (d r : ℕ) → Silent (fetch_code kind t d r)
fetch_silent (InValues regs) t d r = take_silent (is_wide t) regs d
fetch_silent InFrame t d r = peek_silent t d r
fetch_silent InMemory t d r = load_silent t d r

put_silent : (kind : Kind) (t : IntType) (v r : ℕ) → Silent (put_code kind t v r)
put_silent (InValues regs) t v r = keep_silent (is_wide t) regs v
put_silent InFrame t v r = if_silent (is_wide t) _ _ (record { none = refl }) (record { none = refl })
put_silent InMemory t v r = if_silent (is_wide t) _ _ (record { none = refl }) (record { none = refl })

local_silent : (o : Option Spot) (r : ℕ) → Silent (local_code o r)
local_silent None r = record { none = refl }
local_silent (Some (Values regs)) r = record { none = refl }
local_silent (Some (Frame o)) r = record { none = refl }

address_silent : (kind : Kind) (r : ℕ) → Silent (address_code kind r)
address_silent (InValues regs) r = record { none = refl }
address_silent InFrame r = record { none = refl }
address_silent InMemory r = record { none = refl }

-- ---- what the code of expressions calls

module _ (p : Program) (types checks : List Ty) (spots : List Spot) (P : ℕ → Type 0) where
  record Only (c : List Mid) : Type 0 where
    all : All P (calls_in c)

  only_both : (a b : List Mid) → Only a → Only b → Only (a ++ b)
  only_both a b h g = record { all = subst (All P) (sym (calls_both a b)) (All-append P (calls_in a) (calls_in b) h.all g.all) }

  only_silent : (c : List Mid) → Silent c → Only c
  only_silent c h = record { all = subst (All P) (sym h.none) (All-nil P) }

  -- silent code behind or before
  only_then : (a b : List Mid) → Only a → Silent b → Only (a ++ b)
  only_then a b h g = only_both a b h (only_silent b g)

  mutual
    place_only : (place : Place) (r l : ℕ) → All P (place_calls place) → Only (place_code p types checks spots place r l)
    place_only (plain.object k) r l h = record { all = All-nil P }
    place_only (plain.local x) r l h = only_silent _ (local_silent (slice_get spots x) r)
    place_only (plain.deref e t) r l h = only_then (expr_code p types checks spots e r l) _ (expr_only e r l h) (record { none = refl })
    place_only (plain.index place e) r l h =
        let both = both_of P (place_calls place) (expr_calls e) h in
        only_both (place_code p types checks spots place r (l + 2)) _ (place_only place r (l + 2) both.0)
        (only_then (expr_code p types checks spots e (r + 2) (l + 2 + place_labels place)) _ (expr_only e (r + 2) (l + 2 + place_labels place) both.1)
        (element_silent (held p types e) (count_of (place_type p types place)) (size_of p (element_of (place_type p types place))) r l))
    place_only (plain.field place k) r l h = only_then (place_code p types checks spots place r l) _ (place_only place r l h) (record { none = refl })

    expr_only : (e : Expr) (r l : ℕ) → All P (expr_calls e) → Only (expr_code p types checks spots e r l)
    expr_only (plain.const t x) r l h = only_silent _ (const_silent t x r)
    expr_only plain.null r l h = record { all = All-nil P }
    expr_only (plain.read place at) r l h =
        only_then (place_code p types checks spots place r l) _ (place_only place r l h) (fetch_silent (kind_of p types checks spots place) (number_of (place_type p types place)) r r)
    expr_only (plain.addr place) r l h = only_then (place_code p types checks spots place r l) _ (place_only place r l h) (address_silent (kind_of p types checks spots place) r)
    expr_only (plain.un op t e) r l h = only_then (expr_code p types checks spots e r (l + 2)) _ (expr_only e r (l + 2) h) (unary_silent op (is_wide t) r l)
    expr_only (plain.bin op t a b) r l h =
        let both = both_of P (expr_calls a) (expr_calls b) h in
        only_both (expr_code p types checks spots a r (l + 3)) _ (expr_only a r (l + 3) both.0)
        (only_then (expr_code p types checks spots b (r + 2) (l + 3 + labels a)) _ (expr_only b (r + 2) (l + 3 + labels a) both.1) (binary_silent op t (held p types b) r l))
    expr_only (plain.convert t e) r l h = only_then (expr_code p types checks spots e r (l + 1)) _ (expr_only e r (l + 1) h) (convert_silent (held p types e) t r l)
    expr_only (plain.offset a b size) r l h =
        let both = both_of P (expr_calls a) (expr_calls b) h in
        only_both (expr_code p types checks spots a r l) _ (expr_only a r l both.0)
        (only_then (expr_code p types checks spots b (r + 2) (l + labels a)) _ (expr_only b (r + 2) (l + labels a) both.1) (offset_silent size r))
    expr_only (plain.distance a b size) r l h =
        let both = both_of P (expr_calls a) (expr_calls b) h in
        only_both (expr_code p types checks spots a r l) _ (expr_only a r l both.0)
        (only_then (expr_code p types checks spots b (r + 2) (l + labels a)) _ (expr_only b (r + 2) (l + labels a) both.1) (distance_silent size r))
    expr_only (plain.both a b) r l h =
        let two = both_of P (expr_calls a) (expr_calls b) h in
        only_both (expr_code p types checks spots a r (l + 2)) _ (expr_only a r (l + 2) two.0)
        (only_both (zero_code Eq (is_wide (held p types a)) r l) _ (only_silent _ (zero_silent Eq (is_wide (held p types a)) r l))
        (only_both (expr_code p types checks spots b r (l + 2 + labels a)) _ (expr_only b r (l + 2 + labels a) two.1)
        (only_both (zero_code Eq (is_wide (held p types b)) r l) (Set r 1 ∷ Jump (l + 1) ∷ Label l ∷ Set r 0 ∷ Label (l + 1) ∷ []) (only_silent _ (zero_silent Eq (is_wide (held p types b)) r l)) (record { all = All-nil P }))))
    expr_only (plain.either a b) r l h =
        let two = both_of P (expr_calls a) (expr_calls b) h in
        only_both (expr_code p types checks spots a r (l + 2)) _ (expr_only a r (l + 2) two.0)
        (only_both (zero_code Ne (is_wide (held p types a)) r l) _ (only_silent _ (zero_silent Ne (is_wide (held p types a)) r l))
        (only_both (expr_code p types checks spots b r (l + 2 + labels a)) _ (expr_only b r (l + 2 + labels a) two.1)
        (only_both (zero_code Ne (is_wide (held p types b)) r l) (truth_code r l) (only_silent _ (zero_silent Ne (is_wide (held p types b)) r l)) (record { all = All-nil P }))))
    expr_only (plain.choice test a b) r l h =
        let two = both_of P (expr_calls test ++ expr_calls a) (expr_calls b) h in
        let first = both_of P (expr_calls test) (expr_calls a) two.0 in
        only_both (expr_code p types checks spots test r (l + 2)) _ (expr_only test r (l + 2) first.0)
        (only_both (zero_code Eq (is_wide (held p types test)) r l) _ (only_silent _ (zero_silent Eq (is_wide (held p types test)) r l))
        (only_both (expr_code p types checks spots a r (l + 2 + labels test)) _ (expr_only a r (l + 2 + labels test) first.1)
        (record { all = (only_then (expr_code p types checks spots b r (l + 2 + labels test + labels a)) (Label (l + 1) ∷ []) (expr_only b r (l + 2 + labels test + labels a) two.1) (record { none = refl })).all })))
    expr_only (plain.assign place e at) r l h =
        let both = both_of P (place_calls place) (expr_calls e) h in
        only_both (place_code p types checks spots place r l) _ (place_only place r l both.0)
        (only_then (expr_code p types checks spots e (r + 2) (l + place_labels place)) _ (expr_only e (r + 2) (l + place_labels place) both.1)
        (both_silent (put_code (kind_of p types checks spots place) (number_of (place_type p types place)) (r + 2) r) _ (put_silent (kind_of p types checks spots place) (number_of (place_type p types place)) (r + 2) r)
        (move_silent (is_wide (number_of (place_type p types place))) r (r + 2))))
    expr_only (plain.update place op t e gives_old at) r l h =
        let of : IntType = number_of (place_type p types place) in
        let kind : Kind = kind_of p types checks spots place in
        let s : IntType = held p types e in
        let both = both_of P (place_calls place) (expr_calls e) h in
        only_both (place_code p types checks spots place r (l + 5)) _ (place_only place r (l + 5) both.0)
        (only_both (fetch_code kind of (r + 2) r) _ (only_silent _ (fetch_silent kind of (r + 2) r))
        (only_then (expr_code p types checks spots e (r + 4) (l + 5 + place_labels place)) _ (expr_only e (r + 4) (l + 5 + place_labels place) both.1)
        (both_silent (move_code (is_wide of) (r + 6) (r + 2)) _ (move_silent (is_wide of) (r + 6) (r + 2))
        (both_silent (convert_code of t (r + 6) l) _ (convert_silent of t (r + 6) l)
        (both_silent (move_code (is_wide s) (r + 8) (r + 4)) _ (move_silent (is_wide s) (r + 8) (r + 4))
        (both_silent (binary_code op t s (r + 6) (l + 1)) _ (binary_silent op t s (r + 6) (l + 1))
        (both_silent (convert_code t of (r + 6) (l + 4)) _ (convert_silent t of (r + 6) (l + 4))
        (both_silent (put_code kind of (r + 6) r) _ (put_silent kind of (r + 6) r) (move_silent (is_wide of) r (if gives_old then r + 2 else r + 6))))))))))
    expr_only (plain.call f arguments at) r l h =
        only_both (args_code p types checks spots arguments r l) _ (args_only arguments r l (All-tail P f (exprs_calls arguments) h)) (record { all = All-cons P f [] (All-head P f (exprs_calls arguments) h) (All-nil P) })
    expr_only (plain.post k) r l h = record { all = All-nil P }
    expr_only (plain.port_in port) r l h = record { all = All-nil P }
    expr_only (plain.port_out port e) r l h = only_then (expr_code p types checks spots e r l) _ (expr_only e r l h) (record { none = refl })
    expr_only (plain.comma a b) r l h =
        let both = both_of P (expr_calls a) (expr_calls b) h in
        only_both (expr_code p types checks spots a r l) _ (expr_only a r l both.0) (expr_only b r (l + labels a) both.1)

    args_only : (es : Exprs) (r l : ℕ) → All P (exprs_calls es) → Only (args_code p types checks spots es r l)
    args_only no_exprs r l h = record { all = All-nil P }
    args_only (more_exprs e rest) r l h =
        let both = both_of P (expr_calls e) (exprs_calls rest) h in
        only_both (expr_code p types checks spots e r l) _ (expr_only e r l both.0) (args_only rest (r + 2) (l + labels e) both.1)

-- ---- of statements

nothing_silent : (ty : Ty) (r : ℕ) → Silent (nothing_code ty r)
nothing_silent ty r = if_silent (is_void ty) _ _ (record { none = refl }) (const_silent (number_of ty) (pos 0) r)

way_calls_none : (w : Ways) (r : ℕ) (out : WayOut) (more : List Mid) → calls_in (way_out w r out ∷ more) ≡ calls_in more
way_calls_none w r returning more = by w.return_to
  where
    by : (o : Option ℕ) → calls_in (back o w.gives r ∷ more) ≡ calls_in more
    by None = refl
    by (Some l) = refl
way_calls_none w r breaking more = refl
way_calls_none w r continuing more = refl

way_silent : (w : Ways) (r : ℕ) (out : WayOut) → Silent (way_out w r out ∷ [])
way_silent w r out = record { none = way_calls_none w r out [] }

exit_silent : (b : Bool) (o l : ℕ) (w : Ways) (r : ℕ) (out : WayOut) → Silent (exit_code b o l (way_out w r out))
exit_silent true o l w r out = record { none = way_calls_none w r out (Label (l + 1) ∷ []) }
exit_silent false o l w r out = record { none = refl }

exits_silent : (may : WayOut → Bool) (w : Ways) (r l : ℕ) → Silent (exits_code may w r l)
exits_silent may w r l =
    both_silent (exit_code (may returning) w.status l (way_out w r returning)) _ (exit_silent (may returning) w.status l w r returning)
    (both_silent (exit_code (may breaking) w.status (l + 2) (way_out w r breaking)) (exit_code (may continuing) w.status (l + 4) (way_out w r continuing))
    (exit_silent (may breaking) w.status (l + 2) w r breaking) (exit_silent (may continuing) w.status (l + 4) w r continuing))

same_silent : (wide : Bool) (r l : ℕ) → Silent (same_code wide r l)
same_silent true r l = record { none = refl }
same_silent false r l = record { none = refl }

case_silent : (t : IntType) (o : Option ℤ) (r l : ℕ) → Silent (case_code t o r l)
case_silent t None r l = record { none = refl }
case_silent t (Some n) r l = if_silent (int_eq (wrapped t n) n) _ _ (both_silent (const_code t n (r + 2)) (same_code (is_wide t) r l) (const_silent t n (r + 2)) (same_silent (is_wide t) r l)) (record { none = refl })

cases_silent : (t : IntType) (cases : List Case) (default : Option ℕ) (r l : ℕ) → Silent (cases_code t cases default r l)
cases_silent t [] default r l = record { none = refl }
cases_silent t (c ∷ cases) default r l =
    both_silent (case_code t c.value r (label_of (Some c.start) l)) (cases_code t cases default r l) (case_silent t c.value r (label_of (Some c.start) l)) (cases_silent t cases default r l)

regs_silent : (wide : Bool) (regs : Regs) → Silent (zero_regs_code wide regs)
regs_silent true regs = record { none = refl }
regs_silent false regs = record { none = refl }

local_zero_silent : (o : Option Spot) (ty : Ty) (size r l : ℕ) → Silent (zero_local_code o ty size r l)
local_zero_silent None ty size r l = record { none = refl }
local_zero_silent (Some (Values regs)) ty size r l = regs_silent (is_wide (number_of ty)) regs
local_zero_silent (Some (Frame o)) ty size r l = record { none = refl }

module _ (p : Program) (types checks : List Ty) (spots : List Spot) (base : ℕ) (P : ℕ → Type 0) where
  abbrev Calls : List Mid → Type 0
  Calls c = Only p types checks spots P c

  calls_then : (a b : List Mid) → Calls a → Calls b → Calls (a ++ b)
  calls_then a b h g = only_both p types checks spots P a b h g

  calls_none : (c : List Mid) → Silent c → Calls c
  calls_none c h = only_silent p types checks spots P c h

  of_expr : (e : Expr) (r l : ℕ) → All P (expr_calls e) → Calls (expr_code p types checks spots e r l)
  of_expr e r l h = expr_only p types checks spots P e r l h

  of_step : (e : Option Expr) (l : ℕ) → All P (maybe_calls e) → Calls (step_code p types checks spots base e l)
  of_step None l h = record { all = All-nil P }
  of_step (Some e) l h = of_expr e base l h

  of_returned : (e : Option Expr) (w : Ways) (l : ℕ) → All P (maybe_calls e) → Calls (returned_code p types checks spots base e w l)
  of_returned None w l h = calls_none _ (nothing_silent w.gives (base + 2))
  of_returned (Some e) w l h = of_expr e (base + 2) l h

  of_kept : (ty : Ty) (o : Option Spot) (work : List Mid) → Calls work → Calls (kept_code p types checks spots base ty o work)
  of_kept ty o work h = by (is_void ty)
    where
      by : (b : Bool) → Calls (if b then work else local_code o base ++ (work ++ put_code (kind_of_spot o) (number_of ty) (base + 2) base))
      by true = h
      by false =
          calls_then (local_code o base) (work ++ put_code (kind_of_spot o) (number_of ty) (base + 2) base) (calls_none _ (local_silent o base))
          (calls_then work (put_code (kind_of_spot o) (number_of ty) (base + 2) base) h (calls_none _ (put_silent (kind_of_spot o) (number_of ty) (base + 2) base)))

  of_enter : (es : Exprs) (x l : ℕ) → All P (exprs_calls es) → Calls (enter_code p types checks spots base es x l)
  of_enter no_exprs x l h = record { all = All-nil P }
  of_enter (more_exprs e rest) x l h =
      let both = both_of P (expr_calls e) (exprs_calls rest) h in
      calls_then (kept_code p types checks spots base (slice_index_or types x plain.void) (slice_get spots x) (expr_code p types checks spots e (base + 2) l)) (enter_code p types checks spots base rest (x + 1) (l + labels e))
      (of_kept (slice_index_or types x plain.void) (slice_get spots x) (expr_code p types checks spots e (base + 2) l) (of_expr e (base + 2) l both.0)) (of_enter rest (x + 1) (l + labels e) both.1)

  of_clear : (x l : ℕ) → Calls (clear_code p types checks spots base x l)
  of_clear x l = calls_none _ (local_zero_silent (slice_get spots x) (slice_index_or types x plain.void) (size_of p (slice_index_or types x plain.void)) base l)

  of_clears : (count x l : ℕ) → Calls (clears_code p types checks spots base count x l)
  of_clears zero x l = record { all = All-nil P }
  of_clears (suc count) x l = calls_then (clear_code p types checks spots base x l) (clears_code p types checks spots base count (x + 1) (l + 2)) (of_clear x l) (of_clears count (x + 1) (l + 2))

  of_result : (b : Bool) (x : ℕ) → Calls (result_code p types checks spots base b x)
  of_result false x = record { all = All-nil P }
  of_result true x = of_kept (slice_index_or types x plain.void) (slice_get spots x) [] (record { all = All-nil P })

  mutual
    of_stmt : (s : Stmt) (w : Ways) (l : ℕ) → All P (stmt_calls s) → Calls (stmt_code p types checks spots base s w l)
    of_stmt (plain.eval e) w l h = of_expr e base l h
    of_stmt (plain.block list) w l h = of_stmts list w l h
    of_stmt (plain.branch test a b) w l h =
        let two = both_of P (expr_calls test ++ stmt_calls a) (stmt_calls b) h in
        let first = both_of P (expr_calls test) (stmt_calls a) two.0 in
        let ca : List Mid = stmt_code p types checks spots base a w (l + 2 + labels test) in
        let cb : List Mid = stmt_code p types checks spots base b w (l + 2 + labels test + stmt_labels a) in
        calls_then (expr_code p types checks spots test base (l + 2)) _ (of_expr test base (l + 2) first.0)
        (calls_then (zero_code Eq (is_wide (held p types test)) base l) _ (calls_none _ (zero_silent Eq (is_wide (held p types test)) base l))
        (calls_then ca (Jump (l + 1) ∷ Label l ∷ (cb ++ Label (l + 1) ∷ [])) (of_stmt a w (l + 2 + labels test) first.1)
        (record { all = (calls_then cb (Label (l + 1) ∷ []) (of_stmt b w (l + 2 + labels test + stmt_labels a) two.1) (record { all = All-nil P })).all })))
    of_stmt (plain.loop true test step body) w l h =
        let two = both_of P (expr_calls test ++ maybe_calls step) (stmt_calls body) h in
        let first = both_of P (expr_calls test) (maybe_calls step) two.0 in
        let inner : Ways = in_loop (l + 1) (l + 2) w in
        let lb : ℕ = l + 3 + labels test + maybe_labels step in
        let cb : List Mid = stmt_code p types checks spots base body inner lb in
        let cs : List Mid = step_code p types checks spots base step (l + 3 + labels test) in
        record {
          all = (calls_then (expr_code p types checks spots test base (l + 3)) _ (of_expr test base (l + 3) first.0)
              (calls_then (zero_code Eq (is_wide (held p types test)) base (l + 1)) _ (calls_none _ (zero_silent Eq (is_wide (held p types test)) base (l + 1)))
              (calls_then cb (Label (l + 2) ∷ (cs ++ Jump l ∷ Label (l + 1) ∷ [])) (of_stmt body inner lb two.1)
              (record { all = (calls_then cs (Jump l ∷ Label (l + 1) ∷ []) (of_step step (l + 3 + labels test) first.1) (record { all = All-nil P })).all })))).all;
        }
    of_stmt (plain.loop false test step body) w l h =
        let two = both_of P (expr_calls test ++ maybe_calls step) (stmt_calls body) h in
        let first = both_of P (expr_calls test) (maybe_calls step) two.0 in
        let inner : Ways = in_loop (l + 1) (l + 2) w in
        let lb : ℕ = l + 3 + labels test + maybe_labels step in
        let cb : List Mid = stmt_code p types checks spots base body inner lb in
        let ct : List Mid = expr_code p types checks spots test base (l + 3) in
        let cz : List Mid = zero_code Ne (is_wide (held p types test)) base l in
        record {
          all = (calls_then cb (Label (l + 2) ∷ (ct ++ (cz ++ Label (l + 1) ∷ []))) (of_stmt body inner lb two.1)
              (record {
                all = (calls_then ct (cz ++ Label (l + 1) ∷ []) (of_expr test base (l + 3) first.0)
                    (calls_then cz (Label (l + 1) ∷ []) (calls_none _ (zero_silent Ne (is_wide (held p types test)) base l)) (record { all = All-nil P }))).all;
              })).all;
        }
    of_stmt (plain.switch e cases list) w l h =
        let two = both_of P (expr_calls e) (stmts_calls list) h in
        let ls : ℕ = l + 1 + count_stmts list + labels e in
        let cs : List Mid = switch_code p types checks spots base list (in_switch l w) (l + 1) ls in
        calls_then (expr_code p types checks spots e base (l + 1 + count_stmts list)) _ (of_expr e base (l + 1 + count_stmts list) two.0)
        (calls_then (cases_code (held p types e) cases (start_of_default cases) base l) (cs ++ Label l ∷ []) (calls_none _ (cases_silent (held p types e) cases (start_of_default cases) base l))
        (calls_then cs (Label l ∷ []) (of_switch list (in_switch l w) (l + 1) ls two.1) (record { all = All-nil P })))
    of_stmt plain.break w l h = calls_none _ (way_silent w (base + 2) breaking)
    of_stmt plain.continue w l h = calls_none _ (way_silent w (base + 2) continuing)
    of_stmt (plain.return e) w l h = calls_then (returned_code p types checks spots base e w l) (way_out w (base + 2) returning ∷ []) (of_returned e w l h) (calls_none _ (way_silent w (base + 2) returning))
    of_stmt (plain.atomic s) w l h =
        let x : List Mid = exits_code (leads s) w (base + 2) l in
        record {
          all = (calls_then (stmt_code p types checks spots base s (in_atomic l w) (l + 6)) (End w.status ∷ x) (of_stmt s (in_atomic l w) (l + 6) h)
              (record { all = (calls_none x (exits_silent (leads s) w (base + 2) l)).all })).all;
        }
    of_stmt (plain.clear x) w l h = of_clear x l
    of_stmt (plain.here arguments first count body) w l h =
        let two = both_of P (exprs_calls arguments) (stmt_calls body) h in
        let gives : Bool = gives_value body in
        let ways : Ways = in_here l (here_gives p types checks spots base gives (first + count)) w in
        let n : ℕ = count_exprs arguments in
        let la : ℕ = all_labels arguments in
        let cb : List Mid = stmt_code p types checks spots base body ways (l + 1 + la + 2 * count) in
        let cr : List Mid = result_code p types checks spots base gives (first + count) in
        calls_then (enter_code p types checks spots base arguments first (l + 1)) _ (of_enter arguments first (l + 1) two.0)
        (calls_then (clears_code p types checks spots base (count - n) (first + n) (l + 1 + la)) (Tick ∷ (cb ++ (nothing_code ways.gives (base + 2) ++ (Label l ∷ Tick ∷ cr)))) (of_clears (count - n) (first + n) (l + 1 + la))
        (record {
          all = (calls_then cb (nothing_code ways.gives (base + 2) ++ (Label l ∷ Tick ∷ cr)) (of_stmt body ways (l + 1 + la + 2 * count) two.1)
              (calls_then (nothing_code ways.gives (base + 2)) (Label l ∷ Tick ∷ cr) (calls_none _ (nothing_silent ways.gives (base + 2))) (record { all = (of_result gives (first + count)).all }))).all;
        }))

    of_stmts : (list : Stmts) (w : Ways) (l : ℕ) → All P (stmts_calls list) → Calls (stmts_code p types checks spots base list w l)
    of_stmts no_stmts w l h = record { all = All-nil P }
    of_stmts (more_stmts s rest) w l h =
        let both = both_of P (stmt_calls s) (stmts_calls rest) h in
        calls_then (stmt_code p types checks spots base s w l) (stmts_code p types checks spots base rest w (l + stmt_labels s)) (of_stmt s w l both.0) (of_stmts rest w (l + stmt_labels s) both.1)

    of_switch : (list : Stmts) (w : Ways) (k l : ℕ) → All P (stmts_calls list) → Calls (switch_code p types checks spots base list w k l)
    of_switch no_stmts w k l h = record { all = All-nil P }
    of_switch (more_stmts s rest) w k l h =
        let both = both_of P (stmt_calls s) (stmts_calls rest) h in
        record { all = (calls_then (stmt_code p types checks spots base s w l) (switch_code p types checks spots base rest w (suc k) (l + stmt_labels s)) (of_stmt s w l both.0) (of_switch rest w (suc k) (l + stmt_labels s) both.1)).all }

pub own_calls : (p : Program) (checks : List Ty) (b : Body) → All (Contains (stmt_calls b.code)) (calls_in (mid_fn_of p checks b).code)
own_calls p checks b =
    let base : ℕ = base_of b in
    let tail : List Mid = nothing_code b.result (base + 2) ++ Ret (taken_at b.result (base + 2)) ∷ [] in
    (calls_then p b.locals checks (spots_of p b) base (Contains (stmt_calls b.code)) (stmt_code p b.locals checks (spots_of p b) base b.code (ways_of p b) 0) tail
    (of_stmt p b.locals checks (spots_of p b) base (Contains (stmt_calls b.code)) b.code (ways_of p b) 0 (All-contains_itself (stmt_calls b.code)))
    (calls_none p b.locals checks (spots_of p b) base (Contains (stmt_calls b.code)) tail (both_silent (nothing_code b.result (base + 2)) (Ret (taken_at b.result (base + 2)) ∷ []) (nothing_silent b.result (base + 2)) (record { none = refl })))).all
