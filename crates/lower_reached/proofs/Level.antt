-- The code of expressions has no Begin, no End and no Ret.
use Rattle.std.proofs.Common.{◌≡◌, ℕ, ◌+◌, Bool, true, false, ◌&&◌, ◌==◌, List, [], ◌∷◌, ◌++◌, Option, Some, None, refl, ap, ◌∙◌}
use Rattle.std.specs.Prelude.{ℤ, pos, slice_get, if◌then◌else◌}
use Rattle.nm_base.specs.declared.int_type.IntType.{IntType}
use Rattle.nm_base.specs.declared.int_type.IntType.TheVariants.{I8, U8, I16, U16, I32, U32}
use Rattle.nesc_core.specs.declared.tree.UnOp.{UnOp}
use Rattle.nesc_core.specs.declared.tree.UnOp.TheVariants as un
use Rattle.nesc_core.specs.declared.tree.BinOp.{BinOp}
use Rattle.nesc_core.specs.declared.tree.BinOp.TheVariants as bin
use Rattle.nesc_core.specs.Plain.{Ty, Expr, Exprs, no_exprs, more_exprs, Place, Program}
use Rattle.nesc_core.specs.Plain as plain
use Rattle.nesc_core.specs.PlaceTypes.{place_type, element_of, count_of}
use Rattle.core_meaning.specs.Layout.{size_of}
use Rattle.core_meaning.specs.Work.{number_of}
use Rattle.mid_code.specs.declared.instr.Mid.{Mid}
use Rattle.mid_code.specs.declared.instr.Mid.TheVariants.{Begin, End, Jump, Label, Post, Ret, Set}
use Rattle.mid_code.specs.declared.help.HelpOp.{HelpOp}
use Rattle.mid_code.specs.declared.help.HelpOp.TheVariants as help
use Rattle.mid_code.specs.declared.instr.Op.{Op}
use Rattle.mid_code.specs.declared.instr.Op.TheVariants.{Add, Sub, And, Or, Xor}
use Rattle.mid_code.specs.declared.instr.Test.{Test}
use Rattle.mid_code.specs.declared.instr.Test.TheVariants.{Eq, Ne}
use Rattle.mid_code.specs.Help.{is_wide}
use Rattle.lower_expr.specs.declared.spot.Regs.{Regs}
use Rattle.lower_expr.specs.declared.spot.Spot.{Spot}
use Rattle.lower_expr.specs.declared.spot.Spot.TheVariants.{Values, Frame}
use Rattle.lower_expr.specs.Held.{held, is_signed}
use Rattle.lower_expr.specs.Pieces.{binary_code, bits_code, bound_code, const_code, convert_code, count_code, distance_code, divisor_code, element_code, equal_code, fit_code, high_code, index_bound, move_code, offset_code, order_code, product_code, scaled_code, shift_code, sum_code, truth_code, unary_code, zero_code}
use Rattle.lower_expr.specs.Code.{Kind, InValues, InFrame, InMemory, address_code, args_code, expr_code, fetch_code, is_void, keep_code, kind_of, labels, load_code, local_code, peek_code, place_code, place_labels, put_code, take_code}
use Rattle.lower_stmt.specs.Code.{nothing_code, zero_regs_code}

abbrev pub is_level : Mid → Bool
is_level (Begin o) = false
is_level (End o) = false
is_level (Ret vs) = false
is_level _ = true

abbrev pub all_level : List Mid → Bool
all_level [] = true
all_level (i ∷ is) = is_level i && all_level is

level_both : (a b : List Mid) → all_level (a ++ b) ≡ (all_level a && all_level b)
level_both [] b = refl
level_both (i ∷ a) b = by (is_level i) (level_both a b)
  where
    by : (t : Bool) → all_level (a ++ b) ≡ (all_level a && all_level b) → (t && all_level (a ++ b)) ≡ ((t && all_level a) && all_level b)
    by true h = h
    by false h = refl

pub record Level (c : List Mid) : Type 0 where
  pub none : all_level c ≡ true

pub both_level : (a b : List Mid) → Level a → Level b → Level (a ++ b)
both_level a b h g = record { none = level_both a b ∙ ap (λ t. t && all_level b) h.none ∙ g.none }

pub if_level : (t : Bool) (a b : List Mid) → Level a → Level b → Level (if t then a else b)
if_level true a b h g = h
if_level false a b h g = g

-- ---- pieces

pub move_level : (wide : Bool) (d r : ℕ) → Level (move_code wide d r)
move_level true d r = record { none = refl }
move_level false d r = record { none = refl }

pub fit_level : (t : IntType) (r : ℕ) → Level (fit_code t r)
fit_level I8 r = record { none = refl }
fit_level U8 r = record { none = refl }
fit_level I16 r = record { none = refl }
fit_level U16 r = record { none = refl }
fit_level I32 r = record { none = refl }
fit_level U32 r = record { none = refl }

pub high_level : (from to signed : Bool) (r l : ℕ) → Level (high_code from to signed r l)
high_level true to signed r l = record { none = refl }
high_level false true true r l = record { none = refl }
high_level false true false r l = record { none = refl }
high_level false false signed r l = record { none = refl }

pub convert_level : (from to : IntType) (r l : ℕ) → Level (convert_code from to r l)
convert_level from to r l = both_level (fit_code to r) (high_code (is_wide from) (is_wide to) (is_signed from) r l) (fit_level to r) (high_level (is_wide from) (is_wide to) (is_signed from) r l)

pub zero_level : (test : Test) (wide : Bool) (r l : ℕ) → Level (zero_code test wide r l)
zero_level test true r l = record { none = refl }
zero_level test false r l = record { none = refl }

pub unary_level : (op : UnOp) (wide : Bool) (r l : ℕ) → Level (unary_code op wide r l)
unary_level un.Neg true r l = record { none = refl }
unary_level un.Neg false r l = record { none = refl }
unary_level un.Not true r l = record { none = refl }
unary_level un.Not false r l = record { none = refl }
unary_level un.IsZero wide r l = both_level (zero_code Eq wide r l) (truth_code r l) (zero_level Eq wide r l) (record { none = refl })

pub sum_level : (op : Op) (wide : Bool) (r : ℕ) → Level (sum_code op wide r)
sum_level op true r = record { none = refl }
sum_level op false r = record { none = refl }

pub bits_level : (op : Op) (wide : Bool) (r : ℕ) → Level (bits_code op wide r)
bits_level op true r = record { none = refl }
bits_level op false r = record { none = refl }

pub divisor_level : (wide : Bool) (r l : ℕ) → Level (divisor_code wide r l)
divisor_level true r l = record { none = refl }
divisor_level false r l = record { none = refl }

pub count_level : (wide : Bool) (r l : ℕ) → Level (count_code wide r l)
count_level true r l = record { none = refl }
count_level false r l = record { none = refl }

pub shift_level : (o : HelpOp) (t s : IntType) (r l : ℕ) → Level (shift_code o t s r l)
shift_level o t s r l = both_level (count_code (is_wide s) r l) _ (count_level (is_wide s) r l) (record { none = refl })

pub equal_level : (test : Test) (wide : Bool) (r l : ℕ) → Level (equal_code test wide r l)
equal_level test true r l = record { none = refl }
equal_level test false r l = record { none = refl }

pub order_level : (strict signed wide : Bool) (r l : ℕ) → Level (order_code strict signed wide r l)
order_level strict signed true r l = record { none = refl }
order_level true signed false r l = record { none = refl }
order_level false signed false r l = record { none = refl }

pub binary_level : (op : BinOp) (t s : IntType) (r l : ℕ) → Level (binary_code op t s r l)
binary_level bin.Add t s r l = both_level (sum_code Add (is_wide t) r) (fit_code t r) (sum_level Add (is_wide t) r) (fit_level t r)
binary_level bin.Sub t s r l = both_level (sum_code Sub (is_wide t) r) (fit_code t r) (sum_level Sub (is_wide t) r) (fit_level t r)
binary_level bin.Mul t s r l = record { none = refl }
binary_level bin.Div t s r l = both_level (divisor_code (is_wide t) r l) (product_code help.Div t r) (divisor_level (is_wide t) r l) (record { none = refl })
binary_level bin.Rem t s r l = both_level (divisor_code (is_wide t) r l) (product_code help.Rem t r) (divisor_level (is_wide t) r l) (record { none = refl })
binary_level bin.And t s r l = bits_level And (is_wide t) r
binary_level bin.Or t s r l = bits_level Or (is_wide t) r
binary_level bin.Xor t s r l = bits_level Xor (is_wide t) r
binary_level bin.Shl t s r l = shift_level help.Shl t s r l
binary_level bin.Shr t s r l = shift_level help.Shr t s r l
binary_level bin.Eq t s r l = equal_level Eq (is_wide t) r l
binary_level bin.Ne t s r l = equal_level Ne (is_wide t) r l
binary_level bin.Lt t s r l = order_level true (is_signed t) (is_wide t) r l
binary_level bin.Le t s r l = order_level false (is_signed t) (is_wide t) r l

pub load_level : (t : IntType) (d r : ℕ) → Level (load_code t d r)
load_level I8 d r = record { none = refl }
load_level U8 d r = record { none = refl }
load_level I16 d r = record { none = refl }
load_level U16 d r = record { none = refl }
load_level I32 d r = record { none = refl }
load_level U32 d r = record { none = refl }

pub peek_level : (t : IntType) (d r : ℕ) → Level (peek_code t d r)
peek_level I8 d r = record { none = refl }
peek_level U8 d r = record { none = refl }
peek_level I16 d r = record { none = refl }
peek_level U16 d r = record { none = refl }
peek_level I32 d r = record { none = refl }
peek_level U32 d r = record { none = refl }

pub take_level : (wide : Bool) (regs : Regs) (d : ℕ) → Level (take_code wide regs d)
take_level true regs d = record { none = refl }
take_level false regs d = record { none = refl }

pub keep_level : (wide : Bool) (regs : Regs) (v : ℕ) → Level (keep_code wide regs v)
keep_level true regs v = record { none = refl }
keep_level false regs v = record { none = refl }

pub fetch_level : (kind : Kind) (t : IntType) (d r : ℕ) → Level (fetch_code kind t d r)
fetch_level (InValues regs) t d r = take_level (is_wide t) regs d
fetch_level InFrame t d r = peek_level t d r
fetch_level InMemory t d r = load_level t d r

pub put_level : (kind : Kind) (t : IntType) (v r : ℕ) → Level (put_code kind t v r)
put_level (InValues regs) t v r = keep_level (is_wide t) regs v
put_level InFrame t v r = if_level (is_wide t) _ _ (record { none = refl }) (record { none = refl })
put_level InMemory t v r = if_level (is_wide t) _ _ (record { none = refl }) (record { none = refl })

pub address_level : (kind : Kind) (r : ℕ) → Level (address_code kind r)
address_level (InValues regs) r = record { none = refl }
address_level InFrame r = record { none = refl }
address_level InMemory r = record { none = refl }

pub regs_level : (wide : Bool) (regs : Regs) → Level (zero_regs_code wide regs)
regs_level true regs = record { none = refl }
regs_level false regs = record { none = refl }

pub const_level : (t : IntType) (x : ℤ) (r : ℕ) → Level (const_code t x r)
const_level t x r = if_level (is_wide t) _ _ (record { none = refl }) (record { none = refl })

pub bound_level : (wide : Bool) (bound r l : ℕ) → Level (bound_code wide bound r l)
bound_level true bound r l = if_level (bound == 4294967296) _ _ (record { none = refl }) (record { none = refl })
bound_level false bound r l = if_level (bound == 65536) _ _ (record { none = refl }) (record { none = refl })

pub local_level : (o : Option Spot) (r : ℕ) → Level (local_code o r)
local_level None r = record { none = refl }
local_level (Some (Values regs)) r = record { none = refl }
local_level (Some (Frame o)) r = record { none = refl }

pub nothing_level : (ty : Ty) (r : ℕ) → Level (nothing_code ty r)
nothing_level ty r = if_level (is_void ty) _ _ (record { none = refl }) (const_level (number_of ty) (pos 0) r)

scaled_level : (size r : ℕ) → Level (scaled_code size r)
scaled_level size r =
    if_level (size == 1) _ _ (record { none = refl }) (if_level (size == 2) _ _ (record { none = refl }) (if_level (size == 4) _ _ (record { none = refl }) (record { none = refl })))

element_level : (t : IntType) (count size r l : ℕ) → Level (element_code t count size r l)
element_level t count size r l =
    both_level (bound_code (is_wide t) (index_bound t count) r l) _ (bound_level (is_wide t) (index_bound t count) r l) (both_level (scaled_code size (r + 2)) _ (scaled_level size (r + 2)) (record { none = refl }))

offset_level : (size r : ℕ) → Level (offset_code size r)
offset_level size r = both_level (scaled_code size (r + 2)) _ (scaled_level size (r + 2)) (record { none = refl })

distance_level : (size r : ℕ) → Level (distance_code size r)
distance_level size r = record { none = (if_level (size == 1) [] _ (record { none = refl }) (record { none = refl })).none }

-- ---- expressions

module _ (p : Program) (types checks : List Ty) (spots : List Spot) where
  abbrev P : Place → ℕ → ℕ → List Mid
  P place r l = place_code p types checks spots place r l

  abbrev E : Expr → ℕ → ℕ → List Mid
  E e r l = expr_code p types checks spots e r l

  abbrev of_place : Place → IntType
  of_place place = number_of (place_type p types place)

  mutual
    place_level : (place : Place) (r l : ℕ) → Level (P place r l)
    place_level (plain.object k) r l = record { none = refl }
    place_level (plain.local x) r l = local_level (slice_get spots x) r
    place_level (plain.deref e t) r l = both_level (E e r l) _ (expr_level e r l) (record { none = refl })
    place_level (plain.index place e) r l =
        both_level (P place r (l + 2)) _ (place_level place r (l + 2))
        (both_level (E e (r + 2) (l + 2 + place_labels place)) _ (expr_level e (r + 2) (l + 2 + place_labels place))
        (element_level (held p types e) (count_of (place_type p types place)) (size_of p (element_of (place_type p types place))) r l))
    place_level (plain.field place k) r l = both_level (P place r l) _ (place_level place r l) (record { none = refl })

    pub expr_level : (e : Expr) (r l : ℕ) → Level (E e r l)
    expr_level (plain.const t x) r l = const_level t x r
    expr_level plain.null r l = record { none = refl }
    expr_level (plain.read place at) r l = both_level (P place r l) _ (place_level place r l) (fetch_level (kind_of p types checks spots place) (of_place place) r r)
    expr_level (plain.addr place) r l = both_level (P place r l) _ (place_level place r l) (address_level (kind_of p types checks spots place) r)
    expr_level (plain.un op t e) r l = both_level (E e r (l + 2)) _ (expr_level e r (l + 2)) (unary_level op (is_wide t) r l)
    expr_level (plain.bin op t a b) r l =
        both_level (E a r (l + 3)) _ (expr_level a r (l + 3)) (both_level (E b (r + 2) (l + 3 + labels a)) _ (expr_level b (r + 2) (l + 3 + labels a)) (binary_level op t (held p types b) r l))
    expr_level (plain.convert t e) r l = both_level (E e r (l + 1)) _ (expr_level e r (l + 1)) (convert_level (held p types e) t r l)
    expr_level (plain.offset a b size) r l =
        both_level (E a r l) _ (expr_level a r l) (both_level (E b (r + 2) (l + labels a)) _ (expr_level b (r + 2) (l + labels a)) (offset_level size r))
    expr_level (plain.distance a b size) r l =
        both_level (E a r l) _ (expr_level a r l) (both_level (E b (r + 2) (l + labels a)) _ (expr_level b (r + 2) (l + labels a)) (distance_level size r))
    expr_level (plain.both a b) r l =
        both_level (E a r (l + 2)) _ (expr_level a r (l + 2))
        (both_level (zero_code Eq (is_wide (held p types a)) r l) _ (zero_level Eq (is_wide (held p types a)) r l)
        (both_level (E b r (l + 2 + labels a)) _ (expr_level b r (l + 2 + labels a))
        (both_level (zero_code Eq (is_wide (held p types b)) r l) (Set r 1 ∷ Jump (l + 1) ∷ Label l ∷ Set r 0 ∷ Label (l + 1) ∷ []) (zero_level Eq (is_wide (held p types b)) r l) (record { none = refl }))))
    expr_level (plain.either a b) r l =
        both_level (E a r (l + 2)) _ (expr_level a r (l + 2))
        (both_level (zero_code Ne (is_wide (held p types a)) r l) _ (zero_level Ne (is_wide (held p types a)) r l)
        (both_level (E b r (l + 2 + labels a)) _ (expr_level b r (l + 2 + labels a))
        (both_level (zero_code Ne (is_wide (held p types b)) r l) (truth_code r l) (zero_level Ne (is_wide (held p types b)) r l) (record { none = refl }))))
    expr_level (plain.choice test a b) r l =
        both_level (E test r (l + 2)) _ (expr_level test r (l + 2))
        (both_level (zero_code Eq (is_wide (held p types test)) r l) _ (zero_level Eq (is_wide (held p types test)) r l)
        (both_level (E a r (l + 2 + labels test)) _ (expr_level a r (l + 2 + labels test))
        (both_level (Jump (l + 1) ∷ Label l ∷ []) (E b r (l + 2 + labels test + labels a) ++ Label (l + 1) ∷ []) (record { none = refl })
        (both_level (E b r (l + 2 + labels test + labels a)) (Label (l + 1) ∷ []) (expr_level b r (l + 2 + labels test + labels a)) (record { none = refl })))))
    expr_level (plain.assign place e at) r l =
        both_level (P place r l) _ (place_level place r l)
        (both_level (E e (r + 2) (l + place_labels place)) _ (expr_level e (r + 2) (l + place_labels place))
        (both_level (put_code (kind_of p types checks spots place) (of_place place) (r + 2) r) _ (put_level (kind_of p types checks spots place) (of_place place) (r + 2) r)
        (move_level (is_wide (of_place place)) r (r + 2))))
    expr_level (plain.update place op t e gives_old at) r l =
        let of : IntType = of_place place in
        let kind : Kind = kind_of p types checks spots place in
        let s : IntType = held p types e in
        both_level (P place r (l + 5)) _ (place_level place r (l + 5))
        (both_level (fetch_code kind of (r + 2) r) _ (fetch_level kind of (r + 2) r)
        (both_level (E e (r + 4) (l + 5 + place_labels place)) _ (expr_level e (r + 4) (l + 5 + place_labels place))
        (both_level (move_code (is_wide of) (r + 6) (r + 2)) _ (move_level (is_wide of) (r + 6) (r + 2))
        (both_level (convert_code of t (r + 6) l) _ (convert_level of t (r + 6) l)
        (both_level (move_code (is_wide s) (r + 8) (r + 4)) _ (move_level (is_wide s) (r + 8) (r + 4))
        (both_level (binary_code op t s (r + 6) (l + 1)) _ (binary_level op t s (r + 6) (l + 1))
        (both_level (convert_code t of (r + 6) (l + 4)) _ (convert_level t of (r + 6) (l + 4))
        (both_level (put_code kind of (r + 6) r) _ (put_level kind of (r + 6) r) (move_level (is_wide of) r (if gives_old then r + 2 else r + 6))))))))))
    expr_level (plain.call g arguments at) r l = both_level (args_code p types checks spots arguments r l) _ (args_level arguments r l) (record { none = refl })
    expr_level (plain.post k) r l = both_level (Post k r ∷ []) _ (record { none = refl }) (fit_level U8 r)
    expr_level (plain.port_in port) r l = record { none = refl }
    expr_level (plain.port_out port e) r l = both_level (E e r l) _ (expr_level e r l) (record { none = refl })
    expr_level (plain.comma a b) r l = both_level (E a r l) _ (expr_level a r l) (expr_level b r (l + labels a))

    args_level : (es : Exprs) (r l : ℕ) → Level (args_code p types checks spots es r l)
    args_level no_exprs r l = record { none = refl }
    args_level (more_exprs e rest) r l = both_level (E e r l) _ (expr_level e r l) (args_level rest (r + 2) (l + labels e))
