-- Code without a Call, a Help or a Ret fits every program.
use Rattle.std.proofs.Common.{◌≡◌, ℕ, ◌+◌, Bool, true, false, ◌&&◌, List, [], ◌∷◌, ◌++◌, Option, Some, None, refl, ap, ◌∙◌}
use Rattle.std.specs.Prelude.{ℤ, pos, ◌==◌, if◌then◌else◌}
use Rattle.std.specs.Ordering.{int_eq}
use Rattle.nm_base.specs.declared.int_type.IntType.{IntType}
use Rattle.nm_base.specs.declared.int_type.IntType.TheVariants.{I8, U8, I16, U16, I32, U32}
use Rattle.nm_base.specs.IntType.{wrapped}
use Rattle.nesc_core.specs.declared.tree.UnOp.{UnOp}
use Rattle.nesc_core.specs.declared.tree.UnOp.TheVariants as un
use Rattle.nesc_core.specs.Plain.{Ty, Case}
use Rattle.core_meaning.specs.Work.{number_of}
use Rattle.mid_code.specs.declared.instr.Mid.{Mid}
use Rattle.mid_code.specs.declared.instr.Mid.TheVariants.{Call, Help, Ret}
use Rattle.mid_code.specs.declared.instr.Op.{Op}
use Rattle.mid_code.specs.declared.instr.Test.{Test}
use Rattle.mid_code.specs.declared.instr.Test.TheVariants.{Eq}
use Rattle.mid_code.specs.Help.{is_wide}
use Rattle.lower_expr.specs.declared.spot.Regs.{Regs}
use Rattle.lower_expr.specs.declared.spot.Spot.{Spot}
use Rattle.lower_expr.specs.declared.spot.Spot.TheVariants.{Values, Frame}
use Rattle.lower_expr.specs.Held.{is_signed}
use Rattle.lower_expr.specs.Pieces.{bits_code, bound_code, const_code, convert_code, count_code, divisor_code, equal_code, fit_code, high_code, move_code, order_code, sum_code, truth_code, unary_code, zero_code}
use Rattle.lower_expr.specs.Code.{Kind, InValues, InFrame, InMemory, address_code, fetch_code, is_void, keep_code, load_code, local_code, peek_code, put_code, take_code}
use Rattle.lower_stmt.specs.Code.{case_code, cases_code, label_of, nothing_code, same_code, zero_local_code, zero_regs_code}

abbrev pub is_quiet : Mid → Bool
is_quiet (Call g ins outs) = false
is_quiet (Help h ins outs) = false
is_quiet (Ret vs) = false
is_quiet _ = true

abbrev pub quiet : List Mid → Bool
quiet [] = true
quiet (i ∷ is) = is_quiet i && quiet is

quiet_both : (a b : List Mid) → quiet (a ++ b) ≡ (quiet a && quiet b)
quiet_both [] b = refl
quiet_both (i ∷ a) b = by (is_quiet i) (quiet_both a b)
  where
    by : (t : Bool) → quiet (a ++ b) ≡ (quiet a && quiet b) → (t && quiet (a ++ b)) ≡ ((t && quiet a) && quiet b)
    by true h = h
    by false h = refl

pub record Quiet (c : List Mid) : Type 0 where
  pub none : quiet c ≡ true

pub both_quiet : (a b : List Mid) → Quiet a → Quiet b → Quiet (a ++ b)
both_quiet a b h g = record { none = quiet_both a b ∙ ap (λ t. t && quiet b) h.none ∙ g.none }

pub if_quiet : (t : Bool) (a b : List Mid) → Quiet a → Quiet b → Quiet (if t then a else b)
if_quiet true a b h g = h
if_quiet false a b h g = g

-- ---- pieces of expressions

pub const_quiet : (t : IntType) (x : ℤ) (r : ℕ) → Quiet (const_code t x r)
const_quiet t x r = if_quiet (is_wide t) _ _ (record { none = refl }) (record { none = refl })

pub move_quiet : (wide : Bool) (d r : ℕ) → Quiet (move_code wide d r)
move_quiet true d r = record { none = refl }
move_quiet false d r = record { none = refl }

pub fit_quiet : (t : IntType) (r : ℕ) → Quiet (fit_code t r)
fit_quiet I8 r = record { none = refl }
fit_quiet U8 r = record { none = refl }
fit_quiet I16 r = record { none = refl }
fit_quiet U16 r = record { none = refl }
fit_quiet I32 r = record { none = refl }
fit_quiet U32 r = record { none = refl }

pub high_quiet : (from to signed : Bool) (r l : ℕ) → Quiet (high_code from to signed r l)
high_quiet true to signed r l = record { none = refl }
high_quiet false true true r l = record { none = refl }
high_quiet false true false r l = record { none = refl }
high_quiet false false signed r l = record { none = refl }

pub convert_quiet : (from to : IntType) (r l : ℕ) → Quiet (convert_code from to r l)
convert_quiet from to r l = both_quiet (fit_code to r) (high_code (is_wide from) (is_wide to) (is_signed from) r l) (fit_quiet to r) (high_quiet (is_wide from) (is_wide to) (is_signed from) r l)

pub zero_quiet : (test : Test) (wide : Bool) (r l : ℕ) → Quiet (zero_code test wide r l)
zero_quiet test true r l = record { none = refl }
zero_quiet test false r l = record { none = refl }

pub unary_quiet : (op : UnOp) (wide : Bool) (r l : ℕ) → Quiet (unary_code op wide r l)
unary_quiet un.Neg true r l = record { none = refl }
unary_quiet un.Neg false r l = record { none = refl }
unary_quiet un.Not true r l = record { none = refl }
unary_quiet un.Not false r l = record { none = refl }
unary_quiet un.IsZero wide r l = both_quiet (zero_code Eq wide r l) (truth_code r l) (zero_quiet Eq wide r l) (record { none = refl })

pub sum_quiet : (op : Op) (wide : Bool) (r : ℕ) → Quiet (sum_code op wide r)
sum_quiet op true r = record { none = refl }
sum_quiet op false r = record { none = refl }

pub bits_quiet : (op : Op) (wide : Bool) (r : ℕ) → Quiet (bits_code op wide r)
bits_quiet op true r = record { none = refl }
bits_quiet op false r = record { none = refl }

pub divisor_quiet : (wide : Bool) (r l : ℕ) → Quiet (divisor_code wide r l)
divisor_quiet true r l = record { none = refl }
divisor_quiet false r l = record { none = refl }

pub count_quiet : (wide : Bool) (r l : ℕ) → Quiet (count_code wide r l)
count_quiet true r l = record { none = refl }
count_quiet false r l = record { none = refl }

pub equal_quiet : (test : Test) (wide : Bool) (r l : ℕ) → Quiet (equal_code test wide r l)
equal_quiet test true r l = record { none = refl }
equal_quiet test false r l = record { none = refl }

pub order_quiet : (strict signed wide : Bool) (r l : ℕ) → Quiet (order_code strict signed wide r l)
order_quiet strict signed true r l = record { none = refl }
order_quiet true signed false r l = record { none = refl }
order_quiet false signed false r l = record { none = refl }

pub bound_quiet : (wide : Bool) (bound r l : ℕ) → Quiet (bound_code wide bound r l)
bound_quiet true bound r l = if_quiet (bound == 4294967296) _ _ (record { none = refl }) (record { none = refl })
bound_quiet false bound r l = if_quiet (bound == 65536) _ _ (record { none = refl }) (record { none = refl })

pub load_quiet : (t : IntType) (d r : ℕ) → Quiet (load_code t d r)
load_quiet I8 d r = record { none = refl }
load_quiet U8 d r = record { none = refl }
load_quiet I16 d r = record { none = refl }
load_quiet U16 d r = record { none = refl }
load_quiet I32 d r = record { none = refl }
load_quiet U32 d r = record { none = refl }

pub peek_quiet : (t : IntType) (d r : ℕ) → Quiet (peek_code t d r)
peek_quiet I8 d r = record { none = refl }
peek_quiet U8 d r = record { none = refl }
peek_quiet I16 d r = record { none = refl }
peek_quiet U16 d r = record { none = refl }
peek_quiet I32 d r = record { none = refl }
peek_quiet U32 d r = record { none = refl }

pub take_quiet : (wide : Bool) (regs : Regs) (d : ℕ) → Quiet (take_code wide regs d)
take_quiet true regs d = record { none = refl }
take_quiet false regs d = record { none = refl }

pub keep_quiet : (wide : Bool) (regs : Regs) (v : ℕ) → Quiet (keep_code wide regs v)
keep_quiet true regs v = record { none = refl }
keep_quiet false regs v = record { none = refl }

pub fetch_quiet : (kind : Kind) (t : IntType) (d r : ℕ) → Quiet (fetch_code kind t d r)
fetch_quiet (InValues regs) t d r = take_quiet (is_wide t) regs d
fetch_quiet InFrame t d r = peek_quiet t d r
fetch_quiet InMemory t d r = load_quiet t d r

pub put_quiet : (kind : Kind) (t : IntType) (v r : ℕ) → Quiet (put_code kind t v r)
put_quiet (InValues regs) t v r = keep_quiet (is_wide t) regs v
put_quiet InFrame t v r = if_quiet (is_wide t) _ _ (record { none = refl }) (record { none = refl })
put_quiet InMemory t v r = if_quiet (is_wide t) _ _ (record { none = refl }) (record { none = refl })

pub local_quiet : (o : Option Spot) (r : ℕ) → Quiet (local_code o r)
local_quiet None r = record { none = refl }
local_quiet (Some (Values regs)) r = record { none = refl }
local_quiet (Some (Frame o)) r = record { none = refl }

pub address_quiet : (kind : Kind) (r : ℕ) → Quiet (address_code kind r)
address_quiet (InValues regs) r = record { none = refl }
address_quiet InFrame r = record { none = refl }
address_quiet InMemory r = record { none = refl }

-- ---- pieces of statements

pub nothing_quiet : (ty : Ty) (r : ℕ) → Quiet (nothing_code ty r)
nothing_quiet ty r = if_quiet (is_void ty) _ _ (record { none = refl }) (const_quiet (number_of ty) (pos 0) r)

pub same_quiet : (wide : Bool) (r l : ℕ) → Quiet (same_code wide r l)
same_quiet true r l = record { none = refl }
same_quiet false r l = record { none = refl }

pub case_quiet : (t : IntType) (o : Option ℤ) (r l : ℕ) → Quiet (case_code t o r l)
case_quiet t None r l = record { none = refl }
case_quiet t (Some n) r l = if_quiet (int_eq (wrapped t n) n) _ _ (both_quiet (const_code t n (r + 2)) (same_code (is_wide t) r l) (const_quiet t n (r + 2)) (same_quiet (is_wide t) r l)) (record { none = refl })

pub cases_quiet : (t : IntType) (cases : List Case) (default : Option ℕ) (r l : ℕ) → Quiet (cases_code t cases default r l)
cases_quiet t [] default r l = record { none = refl }
cases_quiet t (c ∷ cases) default r l =
    both_quiet (case_code t c.value r (label_of (Some c.start) l)) (cases_code t cases default r l) (case_quiet t c.value r (label_of (Some c.start) l)) (cases_quiet t cases default r l)

pub regs_quiet : (wide : Bool) (regs : Regs) → Quiet (zero_regs_code wide regs)
regs_quiet true regs = record { none = refl }
regs_quiet false regs = record { none = refl }

pub local_zero_quiet : (o : Option Spot) (ty : Ty) (size r l : ℕ) → Quiet (zero_local_code o ty size r l)
local_zero_quiet None ty size r l = record { none = refl }
local_zero_quiet (Some (Values regs)) ty size r l = regs_quiet (is_wide (number_of ty)) regs
local_zero_quiet (Some (Frame o)) ty size r l = record { none = refl }
