-- The bytes of an update: one to a place of 8 bits by a division of 32 bits has the most.
use Rattle.std.proofs.Common.{◌≡◌, ℕ, ◌+◌, ◌≤◌, Bool, true, false, List, [], ◌++◌, Option, Some, None, refl, sym, subst, arith}
use Rattle.std.specs.Prelude.{if◌then◌else◌, slice_get, slice_index_or}
use Rattle.nm_base.specs.declared.int_type.IntType.{IntType}
use Rattle.nm_base.specs.declared.int_type.IntType.TheVariants.{I8, U8, I16, U16, I32, U32}
use Rattle.nesc_core.specs.declared.tree.BinOp.{BinOp}
use Rattle.nesc_core.specs.declared.tree.BinOp.TheVariants as bin
use Rattle.nesc_core.specs.Plain.{Ty, Place, Program}
use Rattle.nesc_core.specs.Plain as plain
use Rattle.nesc_core.specs.PlaceTypes.{place_type}
use Rattle.nesc_core.specs.Typing.{IsPromoted, IsUpdated, Updates}
use Rattle.nesc_core.specs.Typing as typing
use Rattle.core_meaning.specs.Work.{number_of}
use Rattle.mid_code.specs.declared.help.HelpOp.{HelpOp}
use Rattle.mid_code.specs.declared.help.HelpOp.TheVariants as help
use Rattle.mid_code.specs.declared.instr.Op.{Op}
use Rattle.mid_code.specs.declared.instr.Op.TheVariants.{Add, Sub, And, Or, Xor}
use Rattle.mid_code.specs.Help.{is_wide}
use Rattle.lower_expr.specs.declared.spot.Regs.{Regs}
use Rattle.lower_expr.specs.declared.spot.Spot.{Spot}
use Rattle.lower_expr.specs.declared.spot.Spot.TheVariants.{Values, Frame}
use Rattle.lower_expr.specs.Pieces.{binary_code, bits_code, convert_code, divisor_code, fit_code, move_code, product_code, shift_code, sum_code}
use Rattle.lower_expr.specs.Code.{Kind, InValues, InFrame, InMemory, kind_of, kind_of_spot, put_code}
use Rattle.body_bytes.proofs.Costs.{IsWithin, bits_within, both_within, convert_most, convert_within, divisor_most, divisor_within, fetch_most, move_most, move_within, none_within, product_most, product_within, put_most, put_within, shift_most, shift_within, sum_narrow, sum_within, weaker}

-- ---- operators

abbrev pub updated_most : Bool → ℕ
updated_most true = 62
updated_most false = 38

sum_updated : (op : Op) (t : IntType) (r : ℕ) → IsPromoted t → IsWithin (updated_most (is_wide t)) (sum_code op (is_wide t) r ++ fit_code t r)
sum_updated op I8 r h = absurd h
sum_updated op U8 r h = absurd h
sum_updated op I16 r h = weaker 12 38 _ (omega arith) (both_within 12 0 (sum_code op false r) [] (sum_narrow op r) none_within)
sum_updated op U16 r h = weaker 12 38 _ (omega arith) (both_within 12 0 (sum_code op false r) [] (sum_narrow op r) none_within)
sum_updated op I32 r h = weaker 52 62 _ (omega arith) (both_within 52 0 (sum_code op true r) [] (sum_within op true r) none_within)
sum_updated op U32 r h = weaker 52 62 _ (omega arith) (both_within 52 0 (sum_code op true r) [] (sum_within op true r) none_within)

product_few : (wide : Bool) → product_most wide ≤ updated_most wide
product_few true = omega arith
product_few false = omega arith

division_few : (wide : Bool) → divisor_most wide + product_most wide ≤ updated_most wide
division_few true = omega arith
division_few false = omega arith

bits_few : (wide : Bool) → 24 ≤ updated_most wide
bits_few true = omega arith
bits_few false = omega arith

shift_few : (wide : Bool) → 22 + shift_most wide ≤ updated_most wide
shift_few true = omega arith
shift_few false = omega arith

division_updated : (o : HelpOp) (t : IntType) (r l : ℕ) → IsWithin (updated_most (is_wide t)) (divisor_code (is_wide t) r l ++ product_code o t r)
division_updated o t r l =
    weaker (divisor_most (is_wide t) + product_most (is_wide t)) (updated_most (is_wide t)) _ (division_few (is_wide t))
    (both_within (divisor_most (is_wide t)) (product_most (is_wide t)) (divisor_code (is_wide t) r l) (product_code o t r) (divisor_within (is_wide t) r l) (product_within o t r))

bits_updated : (op : Op) (t : IntType) (r : ℕ) → IsWithin (updated_most (is_wide t)) (bits_code op (is_wide t) r)
bits_updated op t r = weaker 24 (updated_most (is_wide t)) _ (bits_few (is_wide t)) (bits_within op (is_wide t) r)

shift_updated : (o : HelpOp) (t s : IntType) (r l : ℕ) → IsWithin (updated_most (is_wide t)) (shift_code o t s r l)
shift_updated o t s r l = weaker (22 + shift_most (is_wide t)) (updated_most (is_wide t)) _ (shift_few (is_wide t)) (shift_within o t s r l)

updated_within : (op : BinOp) (t s : IntType) (r l : ℕ) → IsPromoted t → Updates op → IsWithin (updated_most (is_wide t)) (binary_code op t s r l)
updated_within bin.Add t s r l h u = sum_updated Add t r h
updated_within bin.Sub t s r l h u = sum_updated Sub t r h
updated_within bin.Mul t s r l h u = weaker (product_most (is_wide t)) (updated_most (is_wide t)) _ (product_few (is_wide t)) (product_within help.Mul t r)
updated_within bin.Div t s r l h u = division_updated help.Div t r l
updated_within bin.Rem t s r l h u = division_updated help.Rem t r l
updated_within bin.And t s r l h u = bits_updated And t r
updated_within bin.Or t s r l h u = bits_updated Or t r
updated_within bin.Xor t s r l h u = bits_updated Xor t r
updated_within bin.Shl t s r l h u = shift_updated help.Shl t s r l
updated_within bin.Shr t s r l h u = shift_updated help.Shr t s r l
updated_within bin.Eq t s r l h u = absurd u
updated_within bin.Ne t s r l h u = absurd u
updated_within bin.Lt t s r l h u = absurd u
updated_within bin.Le t s r l h u = absurd u

-- ---- what stands behind the second operand

move_few : (wide : Bool) (d r : ℕ) → IsWithin 12 (move_code wide d r)
move_few true d r = move_within true d r
move_few false d r = weaker 6 12 _ (omega arith) (move_within false d r)

abbrev pub tail_most : Kind → (of t : IntType) → ℕ
tail_most kind of t = move_most (is_wide of) + (convert_most of t + (12 + (updated_most (is_wide t) + (convert_most t of + (put_most kind of + move_most (is_wide of))))))

pub tail_within : (kind : Kind) (of t s : IntType) (op : BinOp) (gives_old : Bool) (r l : ℕ) → IsPromoted t → Updates op
    → IsWithin (tail_most kind of t) (move_code (is_wide of) (r + 6) (r + 2)
    ++ (convert_code of t (r + 6) l
    ++ (move_code (is_wide s) (r + 8) (r + 4)
    ++ (binary_code op t s (r + 6) (l + 1)
    ++ (convert_code t of (r + 6) (l + 4)
    ++ (put_code kind of (r + 6) r
    ++ move_code (is_wide of) r (if gives_old then r + 2 else r + 6)))))))
tail_within kind of t s op gives_old r l h u =
    both_within (move_most (is_wide of)) _ (move_code (is_wide of) (r + 6) (r + 2)) _ (move_within (is_wide of) (r + 6) (r + 2))
    (both_within (convert_most of t) _ (convert_code of t (r + 6) l) _ (convert_within of t (r + 6) l)
    (both_within 12 _ (move_code (is_wide s) (r + 8) (r + 4)) _ (move_few (is_wide s) (r + 8) (r + 4))
    (both_within (updated_most (is_wide t)) _ (binary_code op t s (r + 6) (l + 1)) _ (updated_within op t s (r + 6) (l + 1) h u)
    (both_within (convert_most t of) _ (convert_code t of (r + 6) (l + 4)) _ (convert_within t of (r + 6) (l + 4))
    (both_within (put_most kind of) (move_most (is_wide of)) (put_code kind of (r + 6) r) _ (put_within kind of (r + 6) r) (move_within (is_wide of) r (if gives_old then r + 2 else r + 6)))))))

-- ---- in all

abbrev pub update_most : Kind → (of t : IntType) → ℕ
update_most kind of t = fetch_most kind of + tail_most kind of t

memory_few : (of t : IntType) → IsPromoted t → update_most InMemory of t ≤ 186
memory_few I8 I8 h = absurd h
memory_few I8 U8 h = absurd h
memory_few I8 I16 h = omega arith
memory_few I8 U16 h = omega arith
memory_few I8 I32 h = omega arith
memory_few I8 U32 h = omega arith
memory_few U8 I8 h = absurd h
memory_few U8 U8 h = absurd h
memory_few U8 I16 h = omega arith
memory_few U8 U16 h = omega arith
memory_few U8 I32 h = omega arith
memory_few U8 U32 h = omega arith
memory_few I16 I8 h = absurd h
memory_few I16 U8 h = absurd h
memory_few I16 I16 h = omega arith
memory_few I16 U16 h = omega arith
memory_few I16 I32 h = omega arith
memory_few I16 U32 h = omega arith
memory_few U16 I8 h = absurd h
memory_few U16 U8 h = absurd h
memory_few U16 I16 h = omega arith
memory_few U16 U16 h = omega arith
memory_few U16 I32 h = omega arith
memory_few U16 U32 h = omega arith
memory_few I32 I8 h = absurd h
memory_few I32 U8 h = absurd h
memory_few I32 I16 h = omega arith
memory_few I32 U16 h = omega arith
memory_few I32 I32 h = omega arith
memory_few I32 U32 h = omega arith
memory_few U32 I8 h = absurd h
memory_few U32 U8 h = absurd h
memory_few U32 I16 h = omega arith
memory_few U32 U16 h = omega arith
memory_few U32 I32 h = omega arith
memory_few U32 U32 h = omega arith

values_few : (regs : Regs) (of t : IntType) → IsPromoted t → update_most (InValues regs) of t ≤ 186
values_few regs I8 I8 h = absurd h
values_few regs I8 U8 h = absurd h
values_few regs I8 I16 h = omega arith
values_few regs I8 U16 h = omega arith
values_few regs I8 I32 h = omega arith
values_few regs I8 U32 h = omega arith
values_few regs U8 I8 h = absurd h
values_few regs U8 U8 h = absurd h
values_few regs U8 I16 h = omega arith
values_few regs U8 U16 h = omega arith
values_few regs U8 I32 h = omega arith
values_few regs U8 U32 h = omega arith
values_few regs I16 I8 h = absurd h
values_few regs I16 U8 h = absurd h
values_few regs I16 I16 h = omega arith
values_few regs I16 U16 h = omega arith
values_few regs I16 I32 h = omega arith
values_few regs I16 U32 h = omega arith
values_few regs U16 I8 h = absurd h
values_few regs U16 U8 h = absurd h
values_few regs U16 I16 h = omega arith
values_few regs U16 U16 h = omega arith
values_few regs U16 I32 h = omega arith
values_few regs U16 U32 h = omega arith
values_few regs I32 I8 h = absurd h
values_few regs I32 U8 h = absurd h
values_few regs I32 I16 h = omega arith
values_few regs I32 U16 h = omega arith
values_few regs I32 I32 h = omega arith
values_few regs I32 U32 h = omega arith
values_few regs U32 I8 h = absurd h
values_few regs U32 U8 h = absurd h
values_few regs U32 I16 h = omega arith
values_few regs U32 U16 h = omega arith
values_few regs U32 I32 h = omega arith
values_few regs U32 U32 h = omega arith

frame_few : (of t : IntType) → IsPromoted t → update_most InFrame of t ≤ 190
frame_few I8 I8 h = absurd h
frame_few I8 U8 h = absurd h
frame_few I8 I16 h = omega arith
frame_few I8 U16 h = omega arith
frame_few I8 I32 h = omega arith
frame_few I8 U32 h = omega arith
frame_few U8 I8 h = absurd h
frame_few U8 U8 h = absurd h
frame_few U8 I16 h = omega arith
frame_few U8 U16 h = omega arith
frame_few U8 I32 h = omega arith
frame_few U8 U32 h = omega arith
frame_few I16 I8 h = absurd h
frame_few I16 U8 h = absurd h
frame_few I16 I16 h = omega arith
frame_few I16 U16 h = omega arith
frame_few I16 I32 h = omega arith
frame_few I16 U32 h = omega arith
frame_few U16 I8 h = absurd h
frame_few U16 U8 h = absurd h
frame_few U16 I16 h = omega arith
frame_few U16 U16 h = omega arith
frame_few U16 I32 h = omega arith
frame_few U16 U32 h = omega arith
frame_few I32 I8 h = absurd h
frame_few I32 U8 h = absurd h
frame_few I32 I16 h = omega arith
frame_few I32 U16 h = omega arith
frame_few I32 I32 h = omega arith
frame_few I32 U32 h = omega arith
frame_few U32 I8 h = absurd h
frame_few U32 U8 h = absurd h
frame_few U32 I16 h = omega arith
frame_few U32 U16 h = omega arith
frame_few U32 I32 h = omega arith
frame_few U32 U32 h = omega arith

word_few : (t : IntType) → IsPromoted t → update_most InFrame U16 t ≤ 186
word_few I8 h = absurd h
word_few U8 h = absurd h
word_few I16 h = omega arith
word_few U16 h = omega arith
word_few I32 h = omega arith
word_few U32 h = omega arith

any_few : (kind : Kind) (of t : IntType) → IsPromoted t → update_most kind of t ≤ 190
any_few (InValues regs) of t h = let le = values_few regs of t h in omega (arith, le)
any_few InFrame of t h = frame_few of t h
any_few InMemory of t h = let le = memory_few of t h in omega (arith, le)

-- what a place leaves of the bytes of its nodes, and more
abbrev pub spare : Place → ℕ
spare (plain.object k) = 90
spare (plain.local x) = 90
spare (plain.deref e t) = 90
spare (plain.index place e) = 94
spare (plain.field place k) = 94

local_few : (o : Option Spot) (of t : IntType) → (kind_of_spot o ≡ InFrame → of ≡ U16) → IsPromoted t → update_most (kind_of_spot o) of t ≤ 186
local_few None of t framed h = subst (λ (u : IntType). update_most InFrame u t ≤ 186) (sym (framed refl)) (word_few t h)
local_few (Some (Values regs)) of t framed h = values_few regs of t h
local_few (Some (Frame o)) of t framed h = subst (λ (u : IntType). update_most InFrame u t ≤ 186) (sym (framed refl)) (word_few t h)

-- a local in the frame is no number
abbrev pub AreFramed : List Ty → List Spot → Type 0
AreFramed types spots = (x : ℕ) → kind_of_spot (slice_get spots x) ≡ InFrame → number_of (slice_index_or types x plain.void) ≡ U16

module _ (p : Program) (types checks : List Ty) (spots : List Spot) (framed : AreFramed types spots) where
  pub update_few : (place : Place) (t : IntType) → IsPromoted t → update_most (kind_of p types checks spots place) (number_of (place_type p types place)) t ≤ 96 + spare place
  update_few (plain.object k) t h = memory_few (number_of (place_type p types (plain.object k))) t h
  update_few (plain.local x) t h = local_few (slice_get spots x) (number_of (slice_index_or types x plain.void)) t (framed x) h
  update_few (plain.deref e ty) t h = memory_few (number_of ty) t h
  update_few (plain.index place e) t h = any_few (kind_of p types checks spots place) (number_of (place_type p types (plain.index place e))) t h
  update_few (plain.field place k) t h = any_few (kind_of p types checks spots place) (number_of (place_type p types (plain.field place k))) t h

-- ---- what is updated

moves_updates : (op : BinOp) → typing.Moves op → Updates op
moves_updates bin.Add h = tt
moves_updates bin.Sub h = tt
moves_updates bin.Mul h = absurd h
moves_updates bin.Div h = absurd h
moves_updates bin.Rem h = absurd h
moves_updates bin.And h = absurd h
moves_updates bin.Or h = absurd h
moves_updates bin.Xor h = absurd h
moves_updates bin.Shl h = absurd h
moves_updates bin.Shr h = absurd h
moves_updates bin.Eq h = absurd h
moves_updates bin.Ne h = absurd h
moves_updates bin.Lt h = absurd h
moves_updates bin.Le h = absurd h

pub of_updated : (op : BinOp) (t : IntType) (ty : Ty) → IsUpdated op t ty → IsPromoted t × Updates op
of_updated op t plain.void h = absurd h
of_updated op t (plain.int s) h = (h.1, h.0)
of_updated op t (plain.pointer s) h = (subst IsPromoted (sym h.1) tt, moves_updates op h.0)
of_updated op t (plain.array s n) h = absurd h
of_updated op t (plain.struct k) h = absurd h
