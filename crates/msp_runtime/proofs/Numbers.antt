-- From the code of each number to the routine that a Help asks for.
use Rattle.std.proofs.Common.{Some, None, ◌≡◌, Option, ℕ, ◌*◌, ◌/◌, ◌%◌, ◌^◌, ◌<◌, ◌≤◌, Bool, true, false, cond, nat_lt, List, [], ◌∷◌, length, refl, sym, ◌∙◌, subst, arith}
use Rattle.std.specs.Prelude.{ℤ, pos, negsuc}
use Rattle.std.proofs.lemmas.Bool.Decides.{nat_tests}
use Rattle.std.proofs.lemmas.Nat.{mod_below}
use Rattle.nm_base.specs.declared.int_type.IntType.{IntType}
use Rattle.nm_base.specs.declared.int_type.IntType.TheVariants.{I8, U8, I16, U16, I32, U32}
use Rattle.mid_code.specs.declared.code.MidCode.{MidCode}
use Rattle.mid_code.specs.declared.help.HelpOp.{HelpOp}
use Rattle.mid_code.specs.declared.help.HelpOp.TheVariants.{Mul, Div, Rem, Shl, Shr}
use Rattle.mid_code.specs.Form.{KindFits, OperationFits, passed_to}
use Rattle.mid_code.specs.Help.{computed, first_check, helped, is_wide, operation, operation_at, residue, type_at}
use Rattle.msp_select.specs.Routine.{Hold, IsPassed}
use Rattle.msp_runtime.specs.Code.{Code, Registers}
use Rattle.msp_runtime.specs.Routines.{code_at, code_for, code_of}
use Rattle.msp_runtime.specs.Laws.{RoutinesAreRoutines}
use Rattle.msp_runtime.proofs.Laid.{IsRoutineCode, code_is_routine}
use Rattle.msp_runtime.proofs.Meets.{HoldsNumber, after, byte_signed, byte_unsigned, residue_small, word_signed, word_unsigned}
use Rattle.msp_runtime.proofs.Returning.{Meets}
use Rattle.msp_runtime.proofs.Steps.{Ends}
use Rattle.msp_runtime.proofs.WideProducts.{IsWideNumber, multiply_wide_does, shift_left_wide_does, shifted_left_wide, wide}
use Rattle.msp_runtime.proofs.GivenWide.{quotient_signed_wide, quotient_unsigned_wide, remainder_signed_wide, remainder_unsigned_wide}
use Rattle.msp_runtime.proofs.WideSigned.{quotient_signed_wide_does, quotient_wide_does, remainder_signed_wide_does, remainder_wide_does}
use Rattle.msp_runtime.proofs.WideShifts.{right_signed_wide, right_unsigned_wide, shift_right_wide_does}

-- ---- what is so of all code

is_byte_signed : (o : HelpOp) → IsRoutineCode (code_for I8 o)
is_byte_signed Mul = record { formed = refl; shallow = omega arith; others = refl }
is_byte_signed Div = record { formed = refl; shallow = omega arith; others = refl }
is_byte_signed Rem = record { formed = refl; shallow = omega arith; others = refl }
is_byte_signed Shl = record { formed = refl; shallow = omega arith; others = refl }
is_byte_signed Shr = record { formed = refl; shallow = omega arith; others = refl }

is_byte_unsigned : (o : HelpOp) → IsRoutineCode (code_for U8 o)
is_byte_unsigned Mul = record { formed = refl; shallow = omega arith; others = refl }
is_byte_unsigned Div = record { formed = refl; shallow = omega arith; others = refl }
is_byte_unsigned Rem = record { formed = refl; shallow = omega arith; others = refl }
is_byte_unsigned Shl = record { formed = refl; shallow = omega arith; others = refl }
is_byte_unsigned Shr = record { formed = refl; shallow = omega arith; others = refl }

is_word_signed : (o : HelpOp) → IsRoutineCode (code_for I16 o)
is_word_signed Mul = record { formed = refl; shallow = omega arith; others = refl }
is_word_signed Div = record { formed = refl; shallow = omega arith; others = refl }
is_word_signed Rem = record { formed = refl; shallow = omega arith; others = refl }
is_word_signed Shl = record { formed = refl; shallow = omega arith; others = refl }
is_word_signed Shr = record { formed = refl; shallow = omega arith; others = refl }

is_word_unsigned : (o : HelpOp) → IsRoutineCode (code_for U16 o)
is_word_unsigned Mul = record { formed = refl; shallow = omega arith; others = refl }
is_word_unsigned Div = record { formed = refl; shallow = omega arith; others = refl }
is_word_unsigned Rem = record { formed = refl; shallow = omega arith; others = refl }
is_word_unsigned Shl = record { formed = refl; shallow = omega arith; others = refl }
is_word_unsigned Shr = record { formed = refl; shallow = omega arith; others = refl }

is_wide_signed : (o : HelpOp) → IsRoutineCode (code_for I32 o)
is_wide_signed Mul = record { formed = refl; shallow = omega arith; others = refl }
is_wide_signed Div = record { formed = refl; shallow = omega arith; others = refl }
is_wide_signed Rem = record { formed = refl; shallow = omega arith; others = refl }
is_wide_signed Shl = record { formed = refl; shallow = omega arith; others = refl }
is_wide_signed Shr = record { formed = refl; shallow = omega arith; others = refl }

is_wide_unsigned : (o : HelpOp) → IsRoutineCode (code_for U32 o)
is_wide_unsigned Mul = record { formed = refl; shallow = omega arith; others = refl }
is_wide_unsigned Div = record { formed = refl; shallow = omega arith; others = refl }
is_wide_unsigned Rem = record { formed = refl; shallow = omega arith; others = refl }
is_wide_unsigned Shl = record { formed = refl; shallow = omega arith; others = refl }
is_wide_unsigned Shr = record { formed = refl; shallow = omega arith; others = refl }

is_code_for : (t : IntType) (o : HelpOp) → IsRoutineCode (code_for t o)
is_code_for I8 o = is_byte_signed o
is_code_for U8 o = is_byte_unsigned o
is_code_for I16 o = is_word_signed o
is_code_for U16 o = is_word_unsigned o
is_code_for I32 o = is_wide_signed o
is_code_for U32 o = is_wide_unsigned o

pub is_code : (t : Option IntType) (o : Option HelpOp) → IsRoutineCode (code_of t o)
is_code (Some t) (Some o) = is_code_for t o
is_code None o = record { formed = refl; shallow = omega arith; others = refl }
is_code (Some t) None = record { formed = refl; shallow = omega arith; others = refl }

-- ---- values

residue_byte : (z : ℤ) → residue 8 z < 0x10000
residue_byte (pos a) = omega arith
residue_byte (negsuc a) = omega arith

small_if : (b : Bool) (m k : ℕ) → 0 < k → k ≤ 0x10000 → cond b (m % k) 0 < 0x10000
small_if true m k lt le = let r = mod_below m k lt in omega (arith, r, le)
small_if false m k lt le = omega arith

small_word : (o : HelpOp) (x y : ℕ) → (operation o I16 x y < 0x10000) × (operation o U16 x y < 0x10000) × (operation o I8 x y < 0x10000) × (operation o U8 x y < 0x10000)
small_word Mul x y = (omega arith, omega arith, omega arith, omega arith)
small_word Div x y = (residue_small _, residue_small _, residue_byte _, residue_byte _)
small_word Rem x y = (residue_small _, residue_small _, residue_byte _, residue_byte _)
small_word Shl x y = (small_if (nat_lt y 16) _ 0x10000 (omega arith) (omega arith), small_if (nat_lt y 16) _ 0x10000 (omega arith) (omega arith), small_if (nat_lt y 8) _ 256 (omega arith) (omega arith), small_if (nat_lt y 8) _ 256 (omega arith) (omega arith))
small_word Shr x y = (residue_small _, residue_small _, residue_byte _, residue_byte _)

one_held : {c : Code} {st : Registers} (r : ℕ) → r < 0x10000 → Ends c st (HoldsNumber r) → Ends c st (λ s. Hold 12 (r % 65536 ∷ []) s.regs)
one_held r lt e = after e (λ s g. (g ∙ (let z : r % 65536 ≡ r = omega (arith, lt) in sym z), omega arith, tt))

two : (o : HelpOp) → passed_to o U16 ≡ 2
two Mul = refl
two Div = refl
two Rem = refl
two Shl = refl
two Shr = refl

-- what a routine gives for values of its number
abbrev HoldsComputed : IntType → HelpOp → List ℕ → Registers → Type 0
HoldsComputed t o values s = Hold 12 (computed (Some t) (Some o) values) s.regs

pair_given : (t : IntType) → is_wide t ≡ false → (o : HelpOp) (x y : ℕ) (st : Registers) → Hold 12 (x ∷ y ∷ []) st.regs → Ends (code_for t o) st (HoldsComputed t o (x ∷ y ∷ []))
pair_given I8 n o x y st h = one_held (operation o I8 x y) (small_word o x y).2 (byte_signed st x y h.0 h.1 h.2.0 h.2.1 o)
pair_given U8 n o x y st h = one_held (operation o U8 x y) (small_word o x y).3 (byte_unsigned st x y h.0 h.1 h.2.0 h.2.1 o)
pair_given I16 n o x y st h = one_held (operation o I16 x y) (small_word o x y).0 (word_signed st x y h.0 h.1 h.2.0 h.2.1 o)
pair_given U16 n o x y st h = one_held (operation o U16 x y) (small_word o x y).1 (word_unsigned st x y h.0 h.1 h.2.0 h.2.1 o)
pair_given I32 n o x y st h = absurd (let z : ⊥ = cc in z)
pair_given U32 n o x y st h = absurd (let z : ⊥ = cc in z)

narrow_given : (t : IntType) → is_wide t ≡ false → (o : HelpOp) (values : List ℕ) (st : Registers) → length values ≡ 2 → Hold 12 values st.regs → Ends (code_for t o) st (HoldsComputed t o values)
narrow_given t n o (x ∷ y ∷ []) st e h = pair_given t n o x y st h
narrow_given t n o [] st e h = absurd (omega (arith, e))
narrow_given t n o (x ∷ []) st e h = absurd (omega (arith, e))
narrow_given t n o (x ∷ y ∷ z ∷ more) st e h = absurd (omega (arith, e))

few_halves : (t : IntType) (o : HelpOp) (values : List ℕ) → length (computed (Some t) (Some o) values) ≤ 4
few_halves I8 o values = omega arith
few_halves U8 o values = omega arith
few_halves I16 o values = omega arith
few_halves U16 o values = omega arith
few_halves I32 o values = omega arith
few_halves U32 o values = omega arith

-- ---- 32 bits

wide_held : {c : Code} {st : Registers} (r : ℕ) → r < 0x100000000 → Ends c st (IsWideNumber r) → Ends c st (λ s. Hold 12 (r % 65536 ∷ r / 65536 ∷ []) s.regs)
wide_held r lt e = after e (λ s w. let a = w.small in let b = w.small_high in let i = w.is in
    (w.in_12 ∙ (let z : w.low ≡ r % 65536 = omega (arith, a, b, i) in z), omega arith, (w.in_13 ∙ (let z : w.high ≡ r / 65536 = omega (arith, a, b, i) in z), omega (arith, lt), tt)))

residue_wide : (z : ℤ) → residue 32 z < 0x100000000
residue_wide (pos a) = omega arith
residue_wide (negsuc a) = omega arith

small_left : (b : Bool) (m : ℕ) → cond b (m % 0x100000000) 0 < 0x100000000
small_left true m = omega arith
small_left false m = omega arith

product_given : (values : List ℕ) (st : Registers) → length values ≡ 4 → Hold 12 values st.regs → Ends (code_for U32 Mul) st (HoldsComputed U32 Mul values)
product_given (x0 ∷ x1 ∷ y0 ∷ y1 ∷ []) st e h =
    wide_held ((wide x0 x1 * wide y0 y1) % 0x100000000) (omega arith) (multiply_wide_does st x0 x1 y0 y1 h.0 h.1 h.2.0 h.2.1 h.2.2.0 h.2.2.1 h.2.2.2.0 h.2.2.2.1)
product_given [] st e h = absurd (omega (arith, e))
product_given (a ∷ []) st e h = absurd (omega (arith, e))
product_given (a ∷ b ∷ []) st e h = absurd (omega (arith, e))
product_given (a ∷ b ∷ c ∷ []) st e h = absurd (omega (arith, e))
product_given (a ∷ b ∷ c ∷ d ∷ f ∷ more) st e h = absurd (omega (arith, e))

left_given : (values : List ℕ) (st : Registers) → length values ≡ 3 → Hold 12 values st.regs → Ends (code_for U32 Shl) st (HoldsComputed U32 Shl values)
left_given (x0 ∷ x1 ∷ n ∷ []) st e h =
    wide_held (shifted_left_wide (wide x0 x1) n) (small_left (nat_lt n 32) (wide x0 x1 * 2 ^ n)) (shift_left_wide_does st x0 x1 n h.0 h.1 h.2.0 h.2.1 h.2.2.0 h.2.2.1)
left_given [] st e h = absurd (omega (arith, e))
left_given (a ∷ []) st e h = absurd (omega (arith, e))
left_given (a ∷ b ∷ []) st e h = absurd (omega (arith, e))
left_given (a ∷ b ∷ c ∷ d ∷ more) st e h = absurd (omega (arith, e))

right_given : (values : List ℕ) (st : Registers) → length values ≡ 3 → Hold 12 values st.regs → Ends (code_for U32 Shr) st (HoldsComputed U32 Shr values)
right_given (x0 ∷ x1 ∷ n ∷ []) st e h =
    let l0 = h.1 in let l1 = h.2.1 in
    wide_held (operation Shr U32 (wide x0 x1) n) (residue_wide _)
    (subst (λ r. Ends (code_for U32 Shr) st (IsWideNumber r)) (right_unsigned_wide (wide x0 x1) n (omega (arith, l0, l1))) (shift_right_wide_does false st x0 x1 n h.0 h.1 h.2.0 h.2.1 h.2.2.0 h.2.2.1))
right_given [] st e h = absurd (omega (arith, e))
right_given (a ∷ []) st e h = absurd (omega (arith, e))
right_given (a ∷ b ∷ []) st e h = absurd (omega (arith, e))
right_given (a ∷ b ∷ c ∷ d ∷ more) st e h = absurd (omega (arith, e))

right_signed_given : (values : List ℕ) (st : Registers) → length values ≡ 3 → Hold 12 values st.regs → Ends (code_for I32 Shr) st (HoldsComputed I32 Shr values)
right_signed_given (x0 ∷ x1 ∷ n ∷ []) st e h =
    wide_held (operation Shr I32 (wide x0 x1) n) (residue_wide _)
    (subst (λ r. Ends (code_for I32 Shr) st (IsWideNumber r)) (right_signed_wide x0 x1 n h.1 h.2.1) (shift_right_wide_does true st x0 x1 n h.0 h.1 h.2.0 h.2.1 h.2.2.0 h.2.2.1))
right_signed_given [] st e h = absurd (omega (arith, e))
right_signed_given (a ∷ []) st e h = absurd (omega (arith, e))
right_signed_given (a ∷ b ∷ []) st e h = absurd (omega (arith, e))
right_signed_given (a ∷ b ∷ c ∷ d ∷ more) st e h = absurd (omega (arith, e))

quotient_given : (values : List ℕ) (st : Registers) → length values ≡ 4 → Hold 12 values st.regs → Ends (code_for U32 Div) st (HoldsComputed U32 Div values)
quotient_given (x0 ∷ x1 ∷ y0 ∷ y1 ∷ []) st e h =
    let l0 = h.1 in let l1 = h.2.1 in let l2 = h.2.2.1 in let l3 = h.2.2.2.1 in
    wide_held (operation Div U32 (wide x0 x1) (wide y0 y1)) (residue_wide _)
    (subst (λ r. Ends (code_for U32 Div) st (IsWideNumber r)) (quotient_unsigned_wide (wide x0 x1) (wide y0 y1) (omega (arith, l0, l1)) (omega (arith, l2, l3))) (quotient_wide_does st x0 x1 y0 y1 h.0 h.1 h.2.0 h.2.1 h.2.2.0 h.2.2.1 h.2.2.2.0 h.2.2.2.1))
quotient_given [] st e h = absurd (omega (arith, e))
quotient_given (a ∷ []) st e h = absurd (omega (arith, e))
quotient_given (a ∷ b ∷ []) st e h = absurd (omega (arith, e))
quotient_given (a ∷ b ∷ c ∷ []) st e h = absurd (omega (arith, e))
quotient_given (a ∷ b ∷ c ∷ d ∷ f ∷ more) st e h = absurd (omega (arith, e))

remainder_given : (values : List ℕ) (st : Registers) → length values ≡ 4 → Hold 12 values st.regs → Ends (code_for U32 Rem) st (HoldsComputed U32 Rem values)
remainder_given (x0 ∷ x1 ∷ y0 ∷ y1 ∷ []) st e h =
    let l0 = h.1 in let l1 = h.2.1 in let l2 = h.2.2.1 in let l3 = h.2.2.2.1 in
    wide_held (operation Rem U32 (wide x0 x1) (wide y0 y1)) (residue_wide _)
    (subst (λ r. Ends (code_for U32 Rem) st (IsWideNumber r)) (remainder_unsigned_wide (wide x0 x1) (wide y0 y1) (omega (arith, l0, l1)) (omega (arith, l2, l3))) (remainder_wide_does st x0 x1 y0 y1 h.0 h.1 h.2.0 h.2.1 h.2.2.0 h.2.2.1 h.2.2.2.0 h.2.2.2.1))
remainder_given [] st e h = absurd (omega (arith, e))
remainder_given (a ∷ []) st e h = absurd (omega (arith, e))
remainder_given (a ∷ b ∷ []) st e h = absurd (omega (arith, e))
remainder_given (a ∷ b ∷ c ∷ []) st e h = absurd (omega (arith, e))
remainder_given (a ∷ b ∷ c ∷ d ∷ f ∷ more) st e h = absurd (omega (arith, e))

quotient_signed_given : (values : List ℕ) (st : Registers) → length values ≡ 4 → Hold 12 values st.regs → Ends (code_for I32 Div) st (HoldsComputed I32 Div values)
quotient_signed_given (x0 ∷ x1 ∷ y0 ∷ y1 ∷ []) st e h =
    let l0 = h.1 in let l1 = h.2.1 in let l2 = h.2.2.1 in let l3 = h.2.2.2.1 in
    wide_held (operation Div I32 (wide x0 x1) (wide y0 y1)) (residue_wide _)
    (subst (λ r. Ends (code_for I32 Div) st (IsWideNumber r)) (quotient_signed_wide (wide x0 x1) (wide y0 y1) (omega (arith, l0, l1)) (omega (arith, l2, l3))) (quotient_signed_wide_does st x0 x1 y0 y1 h.0 h.1 h.2.0 h.2.1 h.2.2.0 h.2.2.1 h.2.2.2.0 h.2.2.2.1))
quotient_signed_given [] st e h = absurd (omega (arith, e))
quotient_signed_given (a ∷ []) st e h = absurd (omega (arith, e))
quotient_signed_given (a ∷ b ∷ []) st e h = absurd (omega (arith, e))
quotient_signed_given (a ∷ b ∷ c ∷ []) st e h = absurd (omega (arith, e))
quotient_signed_given (a ∷ b ∷ c ∷ d ∷ f ∷ more) st e h = absurd (omega (arith, e))

remainder_signed_given : (values : List ℕ) (st : Registers) → length values ≡ 4 → Hold 12 values st.regs → Ends (code_for I32 Rem) st (HoldsComputed I32 Rem values)
remainder_signed_given (x0 ∷ x1 ∷ y0 ∷ y1 ∷ []) st e h =
    let l0 = h.1 in let l1 = h.2.1 in let l2 = h.2.2.1 in let l3 = h.2.2.2.1 in
    wide_held (operation Rem I32 (wide x0 x1) (wide y0 y1)) (residue_wide _)
    (subst (λ r. Ends (code_for I32 Rem) st (IsWideNumber r)) (remainder_signed_wide (wide x0 x1) (wide y0 y1) (omega (arith, l0, l1)) (omega (arith, l2, l3))) (remainder_signed_wide_does st x0 x1 y0 y1 h.0 h.1 h.2.0 h.2.1 h.2.2.0 h.2.2.1 h.2.2.2.0 h.2.2.2.1))
remainder_signed_given [] st e h = absurd (omega (arith, e))
remainder_signed_given (a ∷ []) st e h = absurd (omega (arith, e))
remainder_signed_given (a ∷ b ∷ []) st e h = absurd (omega (arith, e))
remainder_signed_given (a ∷ b ∷ c ∷ []) st e h = absurd (omega (arith, e))
remainder_signed_given (a ∷ b ∷ c ∷ d ∷ f ∷ more) st e h = absurd (omega (arith, e))

wide_given : (o : HelpOp) (values : List ℕ) (st : Registers) → length values ≡ passed_to o U32 → Hold 12 values st.regs → Ends (code_for U32 o) st (HoldsComputed U32 o values)
wide_given Mul values st e h = product_given values st e h
wide_given Shl values st e h = left_given values st e h
wide_given Shr values st e h = right_given values st e h
wide_given Div values st e h = quotient_given values st e h
wide_given Rem values st e h = remainder_given values st e h

wide_signed_given : (o : HelpOp) (values : List ℕ) (st : Registers) → length values ≡ passed_to o I32 → Hold 12 values st.regs → Ends (code_for I32 o) st (HoldsComputed I32 o values)
wide_signed_given Mul values st e h = product_given values st e h
wide_signed_given Shl values st e h = left_given values st e h
wide_signed_given Shr values st e h = right_signed_given values st e h
wide_signed_given Div values st e h = quotient_signed_given values st e h
wide_signed_given Rem values st e h = remainder_signed_given values st e h

-- ---- all

each_given : (t : IntType) (o : HelpOp) (values : List ℕ) (st : Registers) → length values ≡ passed_to o t → Hold 12 values st.regs → Ends (code_for t o) st (HoldsComputed t o values)
each_given I8 o values st e h = narrow_given I8 refl o values st (e ∙ two o) h
each_given U8 o values st e h = narrow_given U8 refl o values st (e ∙ two o) h
each_given I16 o values st e h = narrow_given I16 refl o values st (e ∙ two o) h
each_given U16 o values st e h = narrow_given U16 refl o values st (e ∙ two o) h
each_given I32 o values st e h = wide_signed_given o values st e h
each_given U32 o values st e h = wide_given o values st e h

given : (t : Option IntType) (o : Option HelpOp) (values : List ℕ) (outs : ℕ) (st : Registers) → OperationFits t o (length values) outs → Hold 12 values st.regs →
    Ends (code_of t o) st (λ s. Hold 12 (computed t o values) s.regs) × (length (computed t o values) ≤ 4)
given (Some t) (Some o) values outs st fits h = (each_given t o values st fits.0 h, few_halves t o values)
given None o values outs st fits h = absurd fits
given (Some t) None values outs st fits h = absurd fits

meets : (c : MidCode) (h : ℕ) → h < 48 → Meets (code_at h) (IsPassed c h) (helped c h)
meets c h lt values takes st words held =
    let t : nat_lt h first_check ≡ true = grind (arith, nat_tests) in
    let fits : OperationFits (type_at (h / 8)) (operation_at (h % 8)) (length values) takes.0 = subst (λ b. KindFits b (length c.checks) h (length values) takes.0) t takes.1 in
    let g = given (type_at (h / 8)) (operation_at (h % 8)) values takes.0 st fits held in
    record { bounded = g.0.bounded; given = computed (type_at (h / 8)) (operation_at (h % 8)) values; few = g.1; some = rw t refl; held = g.0.after }

pub routines_are_routines : RoutinesAreRoutines
routines_are_routines c image data_end marks entries out laid f h lt objects inside written unmarked is_even small =
    code_is_routine (code_at h) (is_code (type_at (h / 8)) (operation_at (h % 8))) (IsPassed c h) (helped c h) (meets c h lt) image data_end marks entries out laid f inside written unmarked objects is_even small
