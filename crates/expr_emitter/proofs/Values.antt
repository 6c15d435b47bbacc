-- The code of an expression names values below a bound that its levels give.
use Rattle.std.proofs.Common.{◌≡◌, ℕ, ℤ, zero, suc, ◌+◌, ◌*◌, ◌<◌, ◌≤◌, Bool, true, false, List, [], ◌∷◌, ◌++◌, refl, arith}
use Rattle.std.specs.Prelude.{⊤, ◌==◌, ◌%◌, ◌/◌, Option, Some, None, slice_get, if◌then◌else◌}
use Rattle.std.specs.List.{All}
use Rattle.nm_base.specs.declared.int_type.IntType.{IntType}
use Rattle.nm_base.specs.declared.int_type.IntType.TheVariants.{I8, U8, I16, U16, I32, U32}
use Rattle.mid_code.specs.declared.help.HelpOp.{HelpOp}
use Rattle.mid_code.specs.declared.help.HelpOp.TheVariants as help
use Rattle.mid_code.specs.declared.instr.Op.{Op}
use Rattle.mid_code.specs.declared.instr.Op.TheVariants.{Add, Sub, And, Or, Xor}
use Rattle.mid_code.specs.declared.instr.Test.{Test}
use Rattle.mid_code.specs.declared.instr.Test.TheVariants.{Eq, Ne, LtU}
use Rattle.mid_code.specs.declared.instr.Mid.{Mid}
use Rattle.mid_code.specs.declared.instr.Mid.TheVariants.{Set, Move, Bin, Carry, Load, Store, Peek, Poke, In, Out, Label, Jump, Branch, Help, Post, Tick, Fault}
use Rattle.mid_code.specs.Form.{AreBelow}
use Rattle.mid_code.specs.Help.{is_wide}
use Rattle.nesc_core.specs.declared.tree.UnOp.{UnOp}
use Rattle.nesc_core.specs.declared.tree.UnOp.TheVariants as un
use Rattle.nesc_core.specs.declared.tree.BinOp.{BinOp}
use Rattle.nesc_core.specs.declared.tree.BinOp.TheVariants as bin
use Rattle.nesc_core.specs.Plain.{Ty, Expr, Exprs, no_exprs, more_exprs, Place, Program}
use Rattle.nesc_core.specs.Plain as plain
use Rattle.nesc_core.specs.PlaceTypes.{place_type, element_of, count_of}
use Rattle.core_meaning.specs.Layout.{size_of}
use Rattle.nesc_core.specs.Weights.{expr_levels, exprs_levels, place_levels}
use Rattle.core_meaning.specs.Work.{number_of}
use Rattle.lower_expr.specs.declared.spot.Regs.{Regs}
use Rattle.lower_expr.specs.declared.spot.Spot.{Spot}
use Rattle.lower_expr.specs.declared.spot.Spot.TheVariants.{Values, Frame}
use Rattle.lower_expr.specs.Held.{held, is_signed, result_of}
use Rattle.lower_expr.specs.Pieces.{const_code, move_code, values_at, fit_code, widen_code, high_code, convert_code, truth_code, zero_code, unary_code, sum_code, bits_code, divisor_code, product_code, count_code, shift_code, equal_code, order_code, binary_code, scaled_code, index_bound, bound_code, element_code, offset_code, distance_code}
use Rattle.lower_expr.specs.Code.{labels, place_labels, expr_code, place_code, args_code, kind_of, kind_of_spot, Kind, InValues, InFrame, InMemory, sign_code, load_code, peek_code, store_code, poke_code, take_code, keep_code, fetch_code, put_code, local_code, address_code, passed_at, is_void}
use Rattle.expr_emitter.specs.Laws.{NamesBelow, AreSpotsBelow, AreRegsBelow}
use Rattle.expr_emitter.specs.Scoped.{update_code}

-- ---- lists of values

none : (n : ℕ) → AreBelow n []
none n i d lt = absurd (omega arith)

cons : (n v : ℕ) (vs : List ℕ) → v < n → AreBelow n vs → AreBelow n (v ∷ vs)
cons n v vs h hs zero d lt = h
cons n v vs h hs (suc i) d lt = hs i d (omega arith)

append : (n : ℕ) (vs ws : List ℕ) → AreBelow n vs → AreBelow n ws → AreBelow n (vs ++ ws)
append n [] ws hs gs = gs
append n (v ∷ vs) ws hs gs = cons n v (vs ++ ws) (hs 0 v (omega arith)) (append n vs ws (λ i d lt. hs (suc i) d (omega arith)) gs)

one : (n v : ℕ) → v < n → AreBelow n (v ∷ [])
one n v h = cons n v [] h (none n)

two : (n v w : ℕ) → v < n → w < n → AreBelow n (v ∷ w ∷ [])
two n v w h g = cons n v (w ∷ []) h (one n w g)

values_under : (wide : Bool) (r n : ℕ) → r + 2 ≤ n → AreBelow n (values_at wide r)
values_under true r n h = two n r (r + 1) (omega arith) (omega arith)
values_under false r n h = one n r (omega arith)

-- ---- instructions

set_under : (n d x : ℕ) → d < n → NamesBelow n (Set d x)
set_under n d x h = record { written = one n d h; read = none n }

move_under : (n d x : ℕ) → d < n → x < n → NamesBelow n (Move d x)
move_under n d x h g = record { written = one n d h; read = one n x g }

bin_under : (n : ℕ) (op : Op) (d x y : ℕ) → d < n → x < n → y < n → NamesBelow n (Bin op d x y)
bin_under n op d x y h g f = record { written = one n d h; read = two n x y g f }

carry_under : (n : ℕ) (op : Op) (d x y : ℕ) → d < n → x < n → y < n → NamesBelow n (Carry op d x y)
carry_under n op d x y h g f = record { written = one n d h; read = two n x y g f }

load_under : (n : ℕ) (b : Bool) (d x : ℕ) → d < n → x < n → NamesBelow n (Load b d x)
load_under n b d x h g = record { written = one n d h; read = one n x g }

peek_under : (n : ℕ) (b : Bool) (d x : ℕ) → d < n → x < n → NamesBelow n (Peek b d x)
peek_under n b d x h g = record { written = one n d h; read = one n x g }

store_under : (n : ℕ) (b : Bool) (v x : ℕ) → v < n → x < n → NamesBelow n (Store b v x)
store_under n b v x h g = record { written = none n; read = two n v x h g }

poke_under : (n : ℕ) (b : Bool) (v x : ℕ) → v < n → x < n → NamesBelow n (Poke b v x)
poke_under n b v x h g = record { written = none n; read = two n v x h g }

branch_under : (n : ℕ) (test : Test) (x y l : ℕ) → x < n → y < n → NamesBelow n (Branch test x y l)
branch_under n test x y l h g = record { written = none n; read = two n x y h g }

label_under : (n l : ℕ) → NamesBelow n (Label l)
label_under n l = record { written = none n; read = none n }

jump_under : (n l : ℕ) → NamesBelow n (Jump l)
jump_under n l = record { written = none n; read = none n }

fault_under : (n c : ℕ) → NamesBelow n (Fault c)
fault_under n c = record { written = none n; read = none n }

tick_under : (n : ℕ) → NamesBelow n Tick
tick_under n = record { written = none n; read = none n }

in_under : (n d port : ℕ) → d < n → NamesBelow n (In d port)
in_under n d port h = record { written = one n d h; read = none n }

out_under : (n port v : ℕ) → v < n → NamesBelow n (Out port v)
out_under n port v h = record { written = none n; read = one n v h }

post_under : (n k d : ℕ) → d < n → NamesBelow n (Post k d)
post_under n k d h = record { written = one n d h; read = none n }

help_under : (n h : ℕ) (ins outs : List ℕ) → AreBelow n ins → AreBelow n outs → NamesBelow n (Help h ins outs)
help_under n h ins outs i o = record { written = o; read = i }

-- ---- code

abbrev Under : ℕ → List Mid → Type 0
Under n [] = ⊤
Under n (i ∷ is) = NamesBelow n i × Under n is

under-append : (n : ℕ) (a b : List Mid) → Under n a → Under n b → Under n (a ++ b)
under-append n [] b h g = g
under-append n (i ∷ a) b h g = (h.0, under-append n a b h.1 g)

all_under : (n : ℕ) (a : List Mid) → Under n a → All (NamesBelow n) a
all_under n [] h i d lt = absurd (omega arith)
all_under n (i ∷ a) h zero d lt = h.0
all_under n (i ∷ a) h (suc k) d lt = all_under n a h.1 k d (omega arith)

-- ---- the pieces

const_under : (t : IntType) (x : ℤ) (r n : ℕ) → r + 2 ≤ n → Under n (const_code t x r)
const_under I8 x r n h = (set_under n _ _ (omega arith), tt)
const_under U8 x r n h = (set_under n _ _ (omega arith), tt)
const_under I16 x r n h = (set_under n _ _ (omega arith), tt)
const_under U16 x r n h = (set_under n _ _ (omega arith), tt)
const_under I32 x r n h = (set_under n _ _ (omega arith), (set_under n _ _ (omega arith), tt))
const_under U32 x r n h = (set_under n _ _ (omega arith), (set_under n _ _ (omega arith), tt))

moved_under : (wide : Bool) (d r n : ℕ) → d + 2 ≤ n → r + 2 ≤ n → Under n (move_code wide d r)
moved_under true d r n h g = (move_under n _ _ (omega arith) (omega arith), (move_under n _ _ (omega arith) (omega arith), tt))
moved_under false d r n h g = (move_under n _ _ (omega arith) (omega arith), tt)

fit_under : (t : IntType) (r n : ℕ) → r + 2 ≤ n → Under n (fit_code t r)
fit_under I8 r n h = (set_under n _ _ (omega arith), (bin_under n _ _ _ _ (omega arith) (omega arith) (omega arith), (set_under n _ _ (omega arith), (bin_under n _ _ _ _ (omega arith) (omega arith) (omega arith), (bin_under n _ _ _ _ (omega arith) (omega arith) (omega arith), tt)))))
fit_under U8 r n h = (set_under n _ _ (omega arith), (bin_under n _ _ _ _ (omega arith) (omega arith) (omega arith), tt))
fit_under I16 r n h = tt
fit_under U16 r n h = tt
fit_under I32 r n h = tt
fit_under U32 r n h = tt

widen_under : (signed : Bool) (r l n : ℕ) → r + 2 ≤ n → Under n (widen_code signed r l)
widen_under true r l n h = (set_under n _ _ (omega arith), (branch_under n _ _ _ _ (omega arith) (omega arith), (set_under n _ _ (omega arith), (label_under n _, tt))))
widen_under false r l n h = (set_under n _ _ (omega arith), tt)

high_under : (from to signed : Bool) (r l n : ℕ) → r + 2 ≤ n → Under n (high_code from to signed r l)
high_under true to signed r l n h = tt
high_under false true signed r l n h = widen_under signed r l n h
high_under false false signed r l n h = tt

convert_under : (from to : IntType) (r l n : ℕ) → r + 2 ≤ n → Under n (convert_code from to r l)
convert_under from to r l n h = under-append n (fit_code to r) _ (fit_under to r n h) (high_under (is_wide from) (is_wide to) (is_signed from) r l n h)

truth_under : (r l n : ℕ) → r + 1 ≤ n → Under n (truth_code r l)
truth_under r l n h = (set_under n _ _ (omega arith), (jump_under n _, (label_under n _, (set_under n _ _ (omega arith), (label_under n _, tt)))))

zero_under : (test : Test) (wide : Bool) (r l n : ℕ) → r + 3 ≤ n → Under n (zero_code test wide r l)
zero_under test true r l n h = (bin_under n _ _ _ _ (omega arith) (omega arith) (omega arith), (set_under n _ _ (omega arith), (branch_under n _ _ _ _ (omega arith) (omega arith), tt)))
zero_under test false r l n h = (set_under n _ _ (omega arith), (branch_under n _ _ _ _ (omega arith) (omega arith), tt))

unary_under : (op : UnOp) (wide : Bool) (r l n : ℕ) → r + 4 ≤ n → Under n (unary_code op wide r l)
unary_under un.Neg true r l n h = (set_under n _ _ (omega arith), (carry_under n _ _ _ _ (omega arith) (omega arith) (omega arith), (bin_under n _ _ _ _ (omega arith) (omega arith) (omega arith), (bin_under n _ _ _ _ (omega arith) (omega arith) (omega arith), (bin_under n _ _ _ _ (omega arith) (omega arith) (omega arith), tt)))))
unary_under un.Neg false r l n h = (set_under n _ _ (omega arith), (bin_under n _ _ _ _ (omega arith) (omega arith) (omega arith), tt))
unary_under un.Not true r l n h = (set_under n _ _ (omega arith), (bin_under n _ _ _ _ (omega arith) (omega arith) (omega arith), (bin_under n _ _ _ _ (omega arith) (omega arith) (omega arith), tt)))
unary_under un.Not false r l n h = (set_under n _ _ (omega arith), (bin_under n _ _ _ _ (omega arith) (omega arith) (omega arith), tt))
unary_under un.IsZero wide r l n h = under-append n (zero_code Eq wide r l) _ (zero_under Eq wide r l n (omega arith)) (truth_under r l n (omega arith))

sum_under : (op : Op) (wide : Bool) (r n : ℕ) → r + 5 ≤ n → Under n (sum_code op wide r)
sum_under op true r n h = (carry_under n _ _ _ _ (omega arith) (omega arith) (omega arith), (bin_under n _ _ _ _ (omega arith) (omega arith) (omega arith), (bin_under n _ _ _ _ (omega arith) (omega arith) (omega arith), (bin_under n _ _ _ _ (omega arith) (omega arith) (omega arith), tt))))
sum_under op false r n h = (bin_under n _ _ _ _ (omega arith) (omega arith) (omega arith), tt)

bits_under : (op : Op) (wide : Bool) (r n : ℕ) → r + 4 ≤ n → Under n (bits_code op wide r)
bits_under op true r n h = (bin_under n _ _ _ _ (omega arith) (omega arith) (omega arith), (bin_under n _ _ _ _ (omega arith) (omega arith) (omega arith), tt))
bits_under op false r n h = (bin_under n _ _ _ _ (omega arith) (omega arith) (omega arith), tt)

divisor_under : (wide : Bool) (r l n : ℕ) → r + 6 ≤ n → Under n (divisor_code wide r l)
divisor_under true r l n h = (bin_under n _ _ _ _ (omega arith) (omega arith) (omega arith), (set_under n _ _ (omega arith), (branch_under n _ _ _ _ (omega arith) (omega arith), (fault_under n _, (label_under n _, tt)))))
divisor_under false r l n h = (set_under n _ _ (omega arith), (branch_under n _ _ _ _ (omega arith) (omega arith), (fault_under n _, (label_under n _, tt))))

product_under : (o : HelpOp) (t : IntType) (r n : ℕ) → r + 4 ≤ n → Under n (product_code o t r)
product_under o t r n h =
    (help_under n _ _ _ (append n (values_at (is_wide t) r) _ (values_under (is_wide t) r n (omega arith)) (values_under (is_wide t) (r + 2) n (omega arith))) (values_under (is_wide t) r n (omega arith)), tt)

count_under : (wide : Bool) (r l n : ℕ) → r + 5 ≤ n → Under n (count_code wide r l)
count_under true r l n h = (set_under n _ _ (omega arith), (branch_under n _ _ _ _ (omega arith) (omega arith), (set_under n _ _ (omega arith), (label_under n _, tt))))
count_under false r l n h = tt

shift_under : (o : HelpOp) (t count : IntType) (r l n : ℕ) → r + 5 ≤ n → Under n (shift_code o t count r l)
shift_under o t count r l n h =
    under-append n (count_code (is_wide count) r l) _ (count_under (is_wide count) r l n h)
    (help_under n _ _ _ (append n (values_at (is_wide t) r) _ (values_under (is_wide t) r n (omega arith)) (one n (r + 2) (omega arith))) (values_under (is_wide t) r n (omega arith)), tt)

equal_under : (test : Test) (wide : Bool) (r l n : ℕ) → r + 4 ≤ n → Under n (equal_code test wide r l)
equal_under test true r l n h = (bin_under n _ _ _ _ (omega arith) (omega arith) (omega arith), (bin_under n _ _ _ _ (omega arith) (omega arith) (omega arith), (bin_under n _ _ _ _ (omega arith) (omega arith) (omega arith), (set_under n _ _ (omega arith), (branch_under n _ _ _ _ (omega arith) (omega arith), truth_under r l n (omega arith))))))
equal_under test false r l n h = (branch_under n _ _ _ _ (omega arith) (omega arith), truth_under r l n (omega arith))

order_under : (strict signed wide : Bool) (r l n : ℕ) → r + 4 ≤ n → Under n (order_code strict signed wide r l)
order_under strict signed true r l n h = (branch_under n _ _ _ _ (omega arith) (omega arith), (branch_under n _ _ _ _ (omega arith) (omega arith), (branch_under n _ _ _ _ (omega arith) (omega arith), (label_under n _, truth_under r l n (omega arith)))))
order_under true signed false r l n h = (branch_under n _ _ _ _ (omega arith) (omega arith), truth_under r l n (omega arith))
order_under false signed false r l n h = (branch_under n _ _ _ _ (omega arith) (omega arith), truth_under r l n (omega arith))

binary_under : (op : BinOp) (t s : IntType) (r l n : ℕ) → r + 6 ≤ n → Under n (binary_code op t s r l)
binary_under bin.Add t s r l n h = under-append n (sum_code Add (is_wide t) r) _ (sum_under Add (is_wide t) r n (omega arith)) (fit_under t r n (omega arith))
binary_under bin.Sub t s r l n h = under-append n (sum_code Sub (is_wide t) r) _ (sum_under Sub (is_wide t) r n (omega arith)) (fit_under t r n (omega arith))
binary_under bin.Mul t s r l n h = product_under help.Mul t r n (omega arith)
binary_under bin.Div t s r l n h = under-append n (divisor_code (is_wide t) r l) _ (divisor_under (is_wide t) r l n (omega arith)) (product_under help.Div t r n (omega arith))
binary_under bin.Rem t s r l n h = under-append n (divisor_code (is_wide t) r l) _ (divisor_under (is_wide t) r l n (omega arith)) (product_under help.Rem t r n (omega arith))
binary_under bin.And t s r l n h = bits_under And (is_wide t) r n (omega arith)
binary_under bin.Or t s r l n h = bits_under Or (is_wide t) r n (omega arith)
binary_under bin.Xor t s r l n h = bits_under Xor (is_wide t) r n (omega arith)
binary_under bin.Shl t s r l n h = shift_under help.Shl t s r l n (omega arith)
binary_under bin.Shr t s r l n h = shift_under help.Shr t s r l n (omega arith)
binary_under bin.Eq t s r l n h = equal_under Eq (is_wide t) r l n (omega arith)
binary_under bin.Ne t s r l n h = equal_under Ne (is_wide t) r l n (omega arith)
binary_under bin.Lt t s r l n h = order_under true (is_signed t) (is_wide t) r l n (omega arith)
binary_under bin.Le t s r l n h = order_under false (is_signed t) (is_wide t) r l n (omega arith)

scaled_by : (a b c : Bool) (size k r n : ℕ) → r + 3 ≤ n → Under n (if a then [] else if b then Bin Add r r r ∷ [] else if c then Bin Add r r r ∷ Bin Add r r r ∷ [] else Set (r + 2) size ∷ Help k (r ∷ (r + 2) ∷ []) (r ∷ []) ∷ [])
scaled_by true b c size k r n h = tt
scaled_by false true c size k r n h = (bin_under n _ _ _ _ (omega arith) (omega arith) (omega arith), tt)
scaled_by false false true size k r n h = (bin_under n _ _ _ _ (omega arith) (omega arith) (omega arith), (bin_under n _ _ _ _ (omega arith) (omega arith) (omega arith), tt))
scaled_by false false false size k r n h = (set_under n _ _ (omega arith), (help_under n _ _ _ (two n r (r + 2) (omega arith) (omega arith)) (one n r (omega arith)), tt))

scaled_under : (size r n : ℕ) → r + 3 ≤ n → Under n (scaled_code size r)
scaled_under size r n h = scaled_by (size == 1) (size == 2) (size == 4) (size % 65536) _ r n h

offset_under : (size r n : ℕ) → r + 5 ≤ n → Under n (offset_code size r)
offset_under size r n h = under-append n (scaled_code size (r + 2)) _ (scaled_under size (r + 2) n (omega arith)) (bin_under n _ _ _ _ (omega arith) (omega arith) (omega arith), tt)

wide_bound : (b : Bool) (low high r l n : ℕ) → r + 5 ≤ n → Under n (if b then [] else Set (r + 4) high ∷ Branch LtU (r + 3) (r + 4) l ∷ Branch Ne (r + 3) (r + 4) (l + 1) ∷ Set (r + 4) low ∷ Branch LtU (r + 2) (r + 4) l ∷ Label (l + 1) ∷ Fault 1 ∷ Label l ∷ [])
wide_bound true low high r l n h = tt
wide_bound false low high r l n h = (set_under n _ _ (omega arith), (branch_under n _ _ _ _ (omega arith) (omega arith), (branch_under n _ _ _ _ (omega arith) (omega arith), (set_under n _ _ (omega arith), (branch_under n _ _ _ _ (omega arith) (omega arith), (label_under n _, (fault_under n _, (label_under n _, tt))))))))

narrow_bound : (b : Bool) (bound r l n : ℕ) → r + 5 ≤ n → Under n (if b then [] else Set (r + 4) bound ∷ Branch LtU (r + 2) (r + 4) l ∷ Fault 1 ∷ Label l ∷ [])
narrow_bound true bound r l n h = tt
narrow_bound false bound r l n h = (set_under n _ _ (omega arith), (branch_under n _ _ _ _ (omega arith) (omega arith), (fault_under n _, (label_under n _, tt))))

bound_under : (wide : Bool) (bound r l n : ℕ) → r + 5 ≤ n → Under n (bound_code wide bound r l)
bound_under true bound r l n h = wide_bound (bound == 4294967296) (bound % 65536) (bound / 65536) r l n h
bound_under false bound r l n h = narrow_bound (bound == 65536) bound r l n h

element_under : (t : IntType) (count size r l n : ℕ) → r + 5 ≤ n → Under n (element_code t count size r l)
element_under t count size r l n h = under-append n (bound_code (is_wide t) (index_bound t count) r l) _ (bound_under (is_wide t) (index_bound t count) r l n h) (offset_under size r n h)

apart_by : (b : Bool) (size k r n : ℕ) → r + 3 ≤ n → Under n (Bin Sub r r (r + 2) ∷ (if b then [] else Set (r + 2) size ∷ Help k (r ∷ (r + 2) ∷ []) (r ∷ []) ∷ []))
apart_by true size k r n h = (bin_under n _ _ _ _ (omega arith) (omega arith) (omega arith), tt)
apart_by false size k r n h = (bin_under n _ _ _ _ (omega arith) (omega arith) (omega arith), (set_under n _ _ (omega arith), (help_under n _ _ _ (two n r (r + 2) (omega arith) (omega arith)) (one n r (omega arith)), tt)))

distance_under : (size r n : ℕ) → r + 3 ≤ n → Under n (distance_code size r)
distance_under size r n h = apart_by (size == 1) (size % 65536) _ r n h

-- ---- accesses

sign_under : (t : IntType) (d n : ℕ) → d + 2 ≤ n → Under n (sign_code t d)
sign_under I8 d n h = fit_under I8 d n h
sign_under U8 d n h = tt
sign_under I16 d n h = tt
sign_under U16 d n h = tt
sign_under I32 d n h = tt
sign_under U32 d n h = tt

fetched_under : (t : IntType) (d r n : ℕ) → d + 2 ≤ n → r + 2 ≤ n → Under n (load_code t d r)
fetched_under I8 d r n h g = (load_under n _ _ _ (omega arith) (omega arith), sign_under I8 d n h)
fetched_under U8 d r n h g = (load_under n _ _ _ (omega arith) (omega arith), sign_under U8 d n h)
fetched_under I16 d r n h g = (load_under n _ _ _ (omega arith) (omega arith), sign_under I16 d n h)
fetched_under U16 d r n h g = (load_under n _ _ _ (omega arith) (omega arith), sign_under U16 d n h)
fetched_under I32 d r n h g = (set_under n _ _ (omega arith), (bin_under n _ _ _ _ (omega arith) (omega arith) (omega arith), (load_under n _ _ _ (omega arith) (omega arith), (load_under n _ _ _ (omega arith) (omega arith), tt))))
fetched_under U32 d r n h g = (set_under n _ _ (omega arith), (bin_under n _ _ _ _ (omega arith) (omega arith) (omega arith), (load_under n _ _ _ (omega arith) (omega arith), (load_under n _ _ _ (omega arith) (omega arith), tt))))

peeked_under : (t : IntType) (d r n : ℕ) → d + 2 ≤ n → r + 2 ≤ n → Under n (peek_code t d r)
peeked_under I8 d r n h g = (peek_under n _ _ _ (omega arith) (omega arith), sign_under I8 d n h)
peeked_under U8 d r n h g = (peek_under n _ _ _ (omega arith) (omega arith), sign_under U8 d n h)
peeked_under I16 d r n h g = (peek_under n _ _ _ (omega arith) (omega arith), sign_under I16 d n h)
peeked_under U16 d r n h g = (peek_under n _ _ _ (omega arith) (omega arith), sign_under U16 d n h)
peeked_under I32 d r n h g = (set_under n _ _ (omega arith), (bin_under n _ _ _ _ (omega arith) (omega arith) (omega arith), (peek_under n _ _ _ (omega arith) (omega arith), (peek_under n _ _ _ (omega arith) (omega arith), tt))))
peeked_under U32 d r n h g = (set_under n _ _ (omega arith), (bin_under n _ _ _ _ (omega arith) (omega arith) (omega arith), (peek_under n _ _ _ (omega arith) (omega arith), (peek_under n _ _ _ (omega arith) (omega arith), tt))))

stored_under : (t : IntType) (v r n : ℕ) → v + 2 ≤ n → r + 2 ≤ n → Under n (store_code t v r)
stored_under I8 v r n h g = (store_under n _ _ _ (omega arith) (omega arith), tt)
stored_under U8 v r n h g = (store_under n _ _ _ (omega arith) (omega arith), tt)
stored_under I16 v r n h g = (store_under n _ _ _ (omega arith) (omega arith), tt)
stored_under U16 v r n h g = (store_under n _ _ _ (omega arith) (omega arith), tt)
stored_under I32 v r n h g = (store_under n _ _ _ (omega arith) (omega arith), (set_under n _ _ (omega arith), (bin_under n _ _ _ _ (omega arith) (omega arith) (omega arith), (store_under n _ _ _ (omega arith) (omega arith), tt))))
stored_under U32 v r n h g = (store_under n _ _ _ (omega arith) (omega arith), (set_under n _ _ (omega arith), (bin_under n _ _ _ _ (omega arith) (omega arith) (omega arith), (store_under n _ _ _ (omega arith) (omega arith), tt))))

poked_under : (t : IntType) (v r n : ℕ) → v + 2 ≤ n → r + 2 ≤ n → Under n (poke_code t v r)
poked_under I8 v r n h g = (poke_under n _ _ _ (omega arith) (omega arith), tt)
poked_under U8 v r n h g = (poke_under n _ _ _ (omega arith) (omega arith), tt)
poked_under I16 v r n h g = (poke_under n _ _ _ (omega arith) (omega arith), tt)
poked_under U16 v r n h g = (poke_under n _ _ _ (omega arith) (omega arith), tt)
poked_under I32 v r n h g = (poke_under n _ _ _ (omega arith) (omega arith), (set_under n _ _ (omega arith), (bin_under n _ _ _ _ (omega arith) (omega arith) (omega arith), (poke_under n _ _ _ (omega arith) (omega arith), tt))))
poked_under U32 v r n h g = (poke_under n _ _ _ (omega arith) (omega arith), (set_under n _ _ (omega arith), (bin_under n _ _ _ _ (omega arith) (omega arith) (omega arith), (poke_under n _ _ _ (omega arith) (omega arith), tt))))

take_under : (wide : Bool) (regs : Regs) (d n : ℕ) → AreRegsBelow n regs → d + 2 ≤ n → Under n (take_code wide regs d)
take_under true regs d n b h = (move_under n _ _ (omega arith) b.low, (move_under n _ _ (omega arith) b.high, tt))
take_under false regs d n b h = (move_under n _ _ (omega arith) b.low, tt)

keep_under : (wide : Bool) (regs : Regs) (v n : ℕ) → AreRegsBelow n regs → v + 2 ≤ n → Under n (keep_code wide regs v)
keep_under true regs v n b h = (move_under n _ _ b.low (omega arith), (move_under n _ _ b.high (omega arith), tt))
keep_under false regs v n b h = (move_under n _ _ b.low (omega arith), tt)

-- the values of a place of this kind
abbrev IsKindBelow : ℕ → Kind → Type 0
IsKindBelow n (InValues regs) = AreRegsBelow n regs
IsKindBelow n InFrame = ⊤
IsKindBelow n InMemory = ⊤

fetch_under : (kind : Kind) (t : IntType) (d r n : ℕ) → IsKindBelow n kind → d + 2 ≤ n → r + 2 ≤ n → Under n (fetch_code kind t d r)
fetch_under (InValues regs) t d r n b h g = take_under (is_wide t) regs d n b h
fetch_under InFrame t d r n b h g = peeked_under t d r n h g
fetch_under InMemory t d r n b h g = fetched_under t d r n h g

put_under : (kind : Kind) (t : IntType) (v r n : ℕ) → IsKindBelow n kind → v + 2 ≤ n → r + 2 ≤ n → Under n (put_code kind t v r)
put_under (InValues regs) t v r n b h g = keep_under (is_wide t) regs v n b h
put_under InFrame t v r n b h g = poked_under t v r n h g
put_under InMemory t v r n b h g = stored_under t v r n h g

local_under : (o : Option Spot) (r n : ℕ) → r < n → Under n (local_code o r)
local_under None r n h = (set_under n _ _ h, tt)
local_under (Some (Values regs)) r n h = tt
local_under (Some (Frame o)) r n h = (set_under n _ _ h, tt)

address_under : (kind : Kind) (r n : ℕ) → r < n → Under n (address_code kind r)
address_under (InValues regs) r n h = (set_under n _ _ h, tt)
address_under InFrame r n h = (set_under n _ _ h, tt)
address_under InMemory r n h = tt

given_under : (old : Bool) (wide : Bool) (r n : ℕ) → r + 8 ≤ n → Under n (move_code wide r (if old then r + 2 else r + 6))
given_under true wide r n h = moved_under wide r (r + 2) n (omega arith) (omega arith)
given_under false wide r n h = moved_under wide r (r + 6) n (omega arith) (omega arith)

update_under : (kind : Kind) (of : IntType) (op : BinOp) (t s : IntType) (old : Bool) (r l n : ℕ) → IsKindBelow n kind → r + 12 ≤ n → Under n (update_code kind of op t s old r l)
update_under kind of op t s old r l n b h =
    under-append n (move_code (is_wide of) (r + 6) (r + 2)) _ (moved_under (is_wide of) (r + 6) (r + 2) n (omega arith) (omega arith))
    (under-append n (convert_code of t (r + 6) l) _ (convert_under of t (r + 6) l n (omega arith))
    (under-append n (move_code (is_wide s) (r + 8) (r + 4)) _ (moved_under (is_wide s) (r + 8) (r + 4) n (omega arith) (omega arith))
    (under-append n (binary_code op t s (r + 6) (l + 1)) _ (binary_under op t s (r + 6) (l + 1) n (omega arith))
    (under-append n (convert_code t of (r + 6) (l + 4)) _ (convert_under t of (r + 6) (l + 4) n (omega arith))
    (under-append n (put_code kind of (r + 6) r) _ (put_under kind of (r + 6) r n b (omega arith) (omega arith))
    (given_under old (is_wide of) r n (omega arith)))))))

taken_by : (empty : Bool) (wide : Bool) (r n : ℕ) → r + 2 ≤ n → AreBelow n (if empty then [] else values_at wide r)
taken_by true wide r n h = none n
taken_by false wide r n h = values_under wide r n h

spot_below : (o : Option Spot) (n : ℕ) → ((regs : Regs) → o ≡ Some (Values regs) → AreRegsBelow n regs) → IsKindBelow n (kind_of_spot o)
spot_below None n h = tt
spot_below (Some (Values regs)) n h = h regs refl
spot_below (Some (Frame o)) n h = tt

-- ---- all expressions

some_levels : (e : Expr) → 1 ≤ expr_levels e
some_levels (plain.const t x) = omega arith
some_levels (plain.read place at) = omega arith
some_levels (plain.addr place) = omega arith
some_levels (plain.un op t e) = omega arith
some_levels (plain.bin op t a b) = omega arith
some_levels (plain.convert t e) = omega arith
some_levels (plain.offset a b n) = omega arith
some_levels (plain.distance a b n) = omega arith
some_levels (plain.both a b) = omega arith
some_levels (plain.either a b) = omega arith
some_levels (plain.choice a b c) = omega arith
some_levels (plain.assign place e at) = omega arith
some_levels (plain.update place op t e old at) = omega arith
some_levels (plain.call f args at) = omega arith
some_levels (plain.post k) = omega arith
some_levels (plain.port_in port) = omega arith
some_levels (plain.port_out port e) = omega arith
some_levels (plain.comma a b) = omega arith
some_levels plain.null = omega arith

module _ (p : Program) (types checks : List Ty) (spots : List Spot) where
  abbrev code : Expr → (r l : ℕ) → List Mid
  code e r l = expr_code p types checks spots e r l

  abbrev of_place : Place → (r l : ℕ) → List Mid
  of_place place r l = place_code p types checks spots place r l

  abbrev of : Expr → IntType
  of e = held p types e

  abbrev kind : Place → Kind
  kind place = kind_of p types checks spots place

  abbrev number : Place → IntType
  number place = number_of (place_type p types place)

  kind_below : (place : Place) (n : ℕ) → AreSpotsBelow n spots → IsKindBelow n (kind_of p types checks spots place)
  kind_below (plain.object k) n b = tt
  kind_below (plain.local x) n b = spot_below (slice_get spots x) n (λ regs is. b x regs is)
  kind_below (plain.deref e t) n b = tt
  kind_below (plain.index place e) n b = kind_below place n b
  kind_below (plain.field place k) n b = kind_below place n b

  passed_below : (es : Exprs) (r i at n : ℕ) → at ≡ r + 2 * i → r + (2 * exprs_levels es i + 6) ≤ n → AreBelow n (passed_at p types checks spots es at)
  passed_below no_exprs r i at n e h = none n
  passed_below (more_exprs x rest) r i at n e h =
      append n (values_at (is_wide (held p types x)) at) _ (values_under (is_wide (held p types x)) at n (omega arith))
      (passed_below rest r (i + 1) (at + 2) n (omega arith) (omega arith))

  mutual
    place_under : (place : Place) (r l n : ℕ) → AreSpotsBelow n spots → r + (2 * place_levels place + 6) ≤ n → Under n (of_place place r l)
    place_under (plain.object k) r l n b h = (set_under n _ _ (omega arith), tt)
    place_under (plain.local x) r l n b h = local_under (slice_get spots x) r n (omega arith)
    place_under (plain.deref e t) r l n b h = under-append n (code e r l) _ (expr_under e r l n b (omega arith)) (help_under n _ _ _ (one n r (omega arith)) (none n), tt)
    place_under (plain.index place e) r l n b h =
        under-append n (of_place place r (l + 2)) _ (place_under place r (l + 2) n b (omega arith))
        (under-append n (code e (r + 2) (l + 2 + place_labels place)) _ (expr_under e (r + 2) (l + 2 + place_labels place) n b (omega arith))
        (element_under (of e) (count_of (place_type p types place)) (size_of p (element_of (place_type p types place))) r l n (omega arith)))
    place_under (plain.field place k) r l n b h =
        under-append n (of_place place r l) _ (place_under place r l n b (omega arith)) (set_under n _ _ (omega arith), (bin_under n _ _ _ _ (omega arith) (omega arith) (omega arith), tt))

    expr_under : (e : Expr) (r l n : ℕ) → AreSpotsBelow n spots → r + (2 * expr_levels e + 6) ≤ n → Under n (code e r l)
    expr_under (plain.const t x) r l n b h = const_under t x r n (omega arith)
    expr_under plain.null r l n b h = (set_under n _ _ (omega arith), tt)
    expr_under (plain.read place at) r l n b h =
        under-append n (of_place place r l) _ (place_under place r l n b (omega arith)) (fetch_under (kind place) (number place) r r n (kind_below place n b) (omega arith) (omega arith))
    expr_under (plain.addr place) r l n b h =
        under-append n (of_place place r l) _ (place_under place r l n b (omega arith)) (address_under (kind place) r n (omega arith))
    expr_under (plain.un op t e) r l n b h =
        under-append n (code e r (l + 2)) _ (expr_under e r (l + 2) n b (omega arith)) (unary_under op (is_wide t) r l n (omega arith))
    expr_under (plain.bin op t x y) r l n b h =
        under-append n (code x r (l + 3)) _ (expr_under x r (l + 3) n b (omega arith))
        (under-append n (code y (r + 2) (l + 3 + labels x)) _ (expr_under y (r + 2) (l + 3 + labels x) n b (omega arith)) (binary_under op t (of y) r l n (omega arith)))
    expr_under (plain.convert t e) r l n b h =
        under-append n (code e r (l + 1)) _ (expr_under e r (l + 1) n b (omega arith)) (convert_under (of e) t r l n (omega arith))
    expr_under (plain.offset x y size) r l n b h =
        under-append n (code x r l) _ (expr_under x r l n b (omega arith))
        (under-append n (code y (r + 2) (l + labels x)) _ (expr_under y (r + 2) (l + labels x) n b (omega arith)) (offset_under size r n (omega arith)))
    expr_under (plain.distance x y size) r l n b h =
        under-append n (code x r l) _ (expr_under x r l n b (omega arith))
        (under-append n (code y (r + 2) (l + labels x)) _ (expr_under y (r + 2) (l + labels x) n b (omega arith)) (distance_under size r n (omega arith)))
    expr_under (plain.both x y) r l n b h =
        under-append n (code x r (l + 2)) _ (expr_under x r (l + 2) n b (omega arith))
        (under-append n (zero_code Eq (is_wide (of x)) r l) _ (zero_under Eq (is_wide (of x)) r l n (omega arith))
        (under-append n (code y r (l + 2 + labels x)) _ (expr_under y r (l + 2 + labels x) n b (omega arith))
        (under-append n (zero_code Eq (is_wide (of y)) r l) _ (zero_under Eq (is_wide (of y)) r l n (omega arith))
        (set_under n _ _ (omega arith), (jump_under n _, (label_under n _, (set_under n _ _ (omega arith), (label_under n _, tt))))))))
    expr_under (plain.either x y) r l n b h =
        under-append n (code x r (l + 2)) _ (expr_under x r (l + 2) n b (omega arith))
        (under-append n (zero_code Ne (is_wide (of x)) r l) _ (zero_under Ne (is_wide (of x)) r l n (omega arith))
        (under-append n (code y r (l + 2 + labels x)) _ (expr_under y r (l + 2 + labels x) n b (omega arith))
        (under-append n (zero_code Ne (is_wide (of y)) r l) _ (zero_under Ne (is_wide (of y)) r l n (omega arith)) (truth_under r l n (omega arith)))))
    expr_under (plain.choice test x y) r l n b h =
        under-append n (code test r (l + 2)) _ (expr_under test r (l + 2) n b (omega arith))
        (under-append n (zero_code Eq (is_wide (of test)) r l) _ (zero_under Eq (is_wide (of test)) r l n (omega arith))
        (under-append n (code x r (l + 2 + labels test)) _ (expr_under x r (l + 2 + labels test) n b (omega arith)) (
          jump_under n _,
          (
            label_under n _,
            under-append n (code y r (l + 2 + labels test + labels x)) _ (expr_under y r (l + 2 + labels test + labels x) n b (omega arith)) (label_under n _, tt),
          ),
        )))
    expr_under (plain.assign place e at) r l n b h =
        let some = some_levels e in
        under-append n (of_place place r l) _ (place_under place r l n b (omega arith))
        (under-append n (code e (r + 2) (l + place_labels place)) _ (expr_under e (r + 2) (l + place_labels place) n b (omega arith))
        (under-append n (put_code (kind_of p types checks spots place) (number_of (place_type p types place)) (r + 2) r) _ (put_under (kind place) (number place) (r + 2) r n (kind_below place n b) (omega arith) (omega arith))
        (moved_under (is_wide (number place)) r (r + 2) n (omega arith) (omega arith))))
    expr_under (plain.update place op t e gives_old at) r l n b h =
        let some = some_levels e in
        under-append n (of_place place r (l + 5)) _ (place_under place r (l + 5) n b (omega arith))
        (under-append n (fetch_code (kind_of p types checks spots place) (number_of (place_type p types place)) (r + 2) r) _ (fetch_under (kind place) (number place) (r + 2) r n (kind_below place n b) (omega arith) (omega arith))
        (under-append n (code e (r + 4) (l + 5 + place_labels place)) _ (expr_under e (r + 4) (l + 5 + place_labels place) n b (omega arith))
        (update_under (kind place) (number place) op t (of e) gives_old r l n (kind_below place n b) (omega arith))))
    expr_under (plain.call f arguments at) r l n b h =
        under-append n (args_code p types checks spots arguments r l) _ (args_under arguments r 0 r l n b (omega arith) (omega arith))
        (tick_under n, (record { written = taken_by (is_void (result_of (slice_get p.bodies f))) (is_wide (number_of (result_of (slice_get p.bodies f)))) r n (omega arith); read = passed_below arguments r 0 r n (omega arith) (omega arith) }, (tick_under n, tt)))
    expr_under (plain.post k) r l n b h = (post_under n _ _ (omega arith), fit_under U8 r n (omega arith))
    expr_under (plain.port_in port) r l n b h = (in_under n _ _ (omega arith), tt)
    expr_under (plain.port_out port e) r l n b h = under-append n (code e r l) _ (expr_under e r l n b (omega arith)) (out_under n _ _ (omega arith), tt)
    expr_under (plain.comma x y) r l n b h =
        under-append n (code x r l) _ (expr_under x r l n b (omega arith)) (expr_under y r (l + labels x) n b (omega arith))

    args_under : (es : Exprs) (r i at l n : ℕ) → AreSpotsBelow n spots → at ≡ r + 2 * i → r + (2 * exprs_levels es i + 6) ≤ n → Under n (args_code p types checks spots es at l)
    args_under no_exprs r i at l n b e h = tt
    args_under (more_exprs x rest) r i at l n b e h =
        under-append n (code x at l) _ (expr_under x at l n b (omega arith)) (args_under rest r (i + 1) (at + 2) (l + labels x) n b (omega arith) (omega arith))

  pub names_below : (e : Expr) (r l n : ℕ) → AreSpotsBelow n spots → r + (2 * expr_levels e + 6) ≤ n → All (NamesBelow n) (code e r l)
  names_below e r l n b h = all_under n (code e r l) (expr_under e r l n b h)
