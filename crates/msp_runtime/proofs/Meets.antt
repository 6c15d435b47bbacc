-- The code of each operation of 8 and 16 bits gives what the helper gives.
use Rattle.std.proofs.Common.{◌≡◌, ℕ, ◌*◌, ◌%◌, ◌^◌, ◌<◌, ◌≤◌, Bool, true, false, cond, nat_lt, [], ◌∷◌, refl, ap, ◌∙◌, arith}
use Rattle.std.proofs.lemmas.Bool.Decides.{nat_tests}
use Rattle.std.specs.Prelude.{ℤ, pos, negsuc, int_div, int_rem}
use Rattle.nm_base.specs.declared.int_type.IntType.TheVariants.{I8, U8, I16, U16}
use Rattle.nm_base.specs.IntType.{wrapped}
use Rattle.mid_code.specs.declared.help.HelpOp.{HelpOp}
use Rattle.mid_code.specs.declared.help.HelpOp.TheVariants.{Mul, Div, Rem, Shl, Shr}
use Rattle.mid_code.specs.Help.{operation, residue, shifted_right, unless_zero}
use Rattle.msp_runtime.specs.Code.{Code, Registers}
use Rattle.msp_runtime.specs.Routines.{all, byte_code, extend, multiply, narrow, narrow_division, narrow_right, quotient, remainder, shift_left, shift_right, word_code}
use Rattle.msp_runtime.proofs.Steps.{Ends, does, nothing, then}
use Rattle.msp_runtime.proofs.Shifts.{shift_left_does, shift_right_does, shifted_left}
use Rattle.msp_runtime.proofs.Multiply.{multiply_does}
use Rattle.msp_runtime.proofs.Divide.{divide_does}
use Rattle.msp_runtime.proofs.Signed.{quotient_does, remainder_does}
use Rattle.msp_runtime.proofs.GivenWords.{each16, quotient_signed, quotient_unsigned, remainder_signed, remainder_unsigned, right_signed, right_unsigned}
use Rattle.msp_runtime.proofs.Narrow.{extend_12, extend_13, extended, masked, residue_8, right_signed_byte, right_unsigned_byte, signed_byte, small_extended, unsigned_byte}

pub residue_small : (z : ℤ) → residue 16 z < 0x10000
residue_small (pos a) = omega arith
residue_small (negsuc a) = omega arith

pub after : {c : Code} {st : Registers} {P Q : Registers → Type 0} → Ends c st P → ((s : Registers) → P s → Q s) → Ends c st Q
after {c} {st} e more = record { bounded = e.bounded; after = more _ e.after }

-- a register holds a number below 2 ^ 16
abbrev pub HoldsNumber : ℕ → Registers → Type 0
HoldsNumber r s = s.regs 12 ≡ r

module _ (st : Registers) (x y : ℕ) (ex : st.regs 12 ≡ x) (lx : x < 0x10000) (ey : st.regs 13 ≡ y) (ly : y < 0x10000) where
  -- ---- 16 bits

  product_word : Ends multiply st (HoldsNumber ((x * y) % 0x10000))
  product_word = multiply_does st x y ex lx ey ly

  left_word : Ends shift_left st (HoldsNumber (operation Shl U16 x y))
  left_word = shift_left_does st x y ex lx ey ly

  right_signed_word : Ends (shift_right true) st (HoldsNumber (operation Shr I16 x y))
  right_signed_word = after (shift_right_does true st x y ex lx ey ly) (λ s e. e ∙ right_signed x y lx ly)

  right_unsigned_word : Ends (shift_right false) st (HoldsNumber (operation Shr U16 x y))
  right_unsigned_word = after (shift_right_does false st x y ex lx ey ly) (λ s e. e ∙ right_unsigned x y lx ly)

  quotient_signed_word : Ends (quotient true) st (HoldsNumber (operation Div I16 x y))
  quotient_signed_word = after (quotient_does st x y ex lx ey ly) (λ s e. e ∙ quotient_signed x y lx ly)

  quotient_unsigned_word : Ends (quotient false) st (HoldsNumber (operation Div U16 x y))
  quotient_unsigned_word = after (divide_does st x y ex lx ey ly) (λ s e. e.0 ∙ quotient_unsigned x y lx ly)

  remainder_signed_word : Ends (remainder true) st (HoldsNumber (operation Rem I16 x y))
  remainder_signed_word = after (remainder_does st x y ex lx ey ly) (λ s e. e ∙ remainder_signed x y lx ly)

  remainder_unsigned_word : Ends (remainder false) st (HoldsNumber (operation Rem U16 x y))
  remainder_unsigned_word = then (after (divide_does st x y ex lx ey ly) (λ s e. then (does (nothing (e.1 ∙ remainder_unsigned x y lx ly)))))

  pub word_signed : (o : HelpOp) → Ends (word_code true o) st (HoldsNumber (operation o I16 x y))
  word_signed Mul = product_word
  word_signed Div = quotient_signed_word
  word_signed Rem = remainder_signed_word
  word_signed Shl = left_word
  word_signed Shr = right_signed_word

  pub word_unsigned : (o : HelpOp) → Ends (word_code false o) st (HoldsNumber (operation o U16 x y))
  word_unsigned Mul = product_word
  word_unsigned Div = quotient_unsigned_word
  word_unsigned Rem = remainder_unsigned_word
  word_unsigned Shl = left_word
  word_unsigned Shr = right_unsigned_word

  -- ---- 8 bits

  left_byte : shifted_left x y % 256 ≡ operation Shl U8 x y
  left_byte = by (nat_lt y 8) (nat_lt y 16) refl refl
    where
      by : (b c : Bool) → nat_lt y 8 ≡ b → nat_lt y 16 ≡ c → cond c ((x * 2 ^ y) % 0x10000) 0 % 256 ≡ cond b ((x * 2 ^ y) % 256) 0
      by true true e f = omega arith
      by true false e f = absurd (let l : y < 8 = grind (arith, nat_tests) in let m : 16 ≤ y = grind (arith, nat_tests) in omega (arith, l, m))
      by false true e f = each16 (λ k. 8 ≤ k → (x * 2 ^ k) % 0x10000 % 256 ≡ 0) (λ h. omega (arith, h)) (λ h. omega (arith, h)) (λ h. omega (arith, h)) (λ h. omega (arith, h)) (λ h. omega (arith, h)) (λ h. omega (arith, h)) (λ h. omega (arith, h)) (λ h. omega (arith, h)) (λ h. omega (arith, h)) (λ h. omega (arith, h)) (λ h. omega (arith, h)) (λ h. omega (arith, h)) (λ h. omega (arith, h)) (λ h. omega (arith, h)) (λ h. omega (arith, h)) (λ h. omega (arith, h)) y (grind (arith, nat_tests)) (grind (arith, nat_tests))
      by false false e f = refl

  product_byte : Ends (narrow multiply) st (HoldsNumber (operation Mul U8 x y))
  product_byte = after (masked ((x * y) % 0x10000) product_word) (λ s e. e ∙ omega arith)

  shifted_byte : Ends (narrow shift_left) st (HoldsNumber (operation Shl U8 x y))
  shifted_byte = after (masked (shifted_left x y) left_word) (λ s e. e ∙ left_byte)

-- what words give of extended bytes
module _ (st : Registers) (x y : ℕ) (ex : st.regs 12 ≡ x) (lx : x < 0x10000) (ey : st.regs 13 ≡ y) (ly : y < 0x10000) where
  right_bytes : (s : Bool) → Ends (all (extend s 12 ∷ shift_right s ∷ [])) st (HoldsNumber (operation Shr (cond s I16 U16) (extended s x) y))
  right_bytes true = then (extend_12 true st x y (λ s. Ends (all (shift_right true ∷ [])) s (HoldsNumber (operation Shr I16 (extended true x) y))) ex ey (λ s e f. then (after (right_signed_word s (extended true x) y e (small_extended true x) f ly) (λ s' g. nothing g))))
  right_bytes false = then (extend_12 false st x y (λ s. Ends (all (shift_right false ∷ [])) s (HoldsNumber (operation Shr U16 (extended false x) y))) ex ey (λ s e f. then (after (right_unsigned_word s (extended false x) y e (small_extended false x) f ly) (λ s' g. nothing g))))

  -- both bytes
  extends : (s : Bool) (c : Code) (r : ℕ) → ((st' : Registers) → st'.regs 12 ≡ extended s x → st'.regs 13 ≡ extended s y → Ends c st' (HoldsNumber r)) → Ends (all (extend s 12 ∷ extend s 13 ∷ c ∷ [])) st (HoldsNumber r)
  extends s c r more =
      then (extend_12 s st x y (λ s1. Ends (all (extend s 13 ∷ c ∷ [])) s1 (HoldsNumber r)) ex ey (λ s1 e f.
      then (extend_13 s s1 (extended s x) y (λ s2. Ends (all (c ∷ [])) s2 (HoldsNumber r)) e f (λ s2 g h. then (after (more s2 g h) (λ s3 k. nothing k))))))

  quotient_signed_byte : Ends (narrow_division true (quotient true)) st (HoldsNumber (operation Div I8 x y))
  quotient_signed_byte = after (masked (operation Div I16 (extended true x) (extended true y)) (extends true (quotient true) (operation Div I16 (extended true x) (extended true y)) (λ s e f. quotient_signed_word s (extended true x) (extended true y) e (small_extended true x) f (small_extended true y))))
      (λ s e. e ∙ residue_8 _ ∙ ap (λ z. residue 8 (unless_zero z (int_div (wrapped I16 (pos (extended true x))) z))) (signed_byte y) ∙ ap (λ z. residue 8 (unless_zero (wrapped I8 (pos y)) (int_div z (wrapped I8 (pos y))))) (signed_byte x))

  quotient_unsigned_byte : Ends (narrow_division false (quotient false)) st (HoldsNumber (operation Div U8 x y))
  quotient_unsigned_byte = after (masked (operation Div U16 (extended false x) (extended false y)) (extends false (quotient false) (operation Div U16 (extended false x) (extended false y)) (λ s e f. quotient_unsigned_word s (extended false x) (extended false y) e (small_extended false x) f (small_extended false y))))
      (λ s e. e ∙ residue_8 _ ∙ ap (λ z. residue 8 (unless_zero z (int_div (wrapped U16 (pos (extended false x))) z))) (unsigned_byte y) ∙ ap (λ z. residue 8 (unless_zero (wrapped U8 (pos y)) (int_div z (wrapped U8 (pos y))))) (unsigned_byte x))

  remainder_signed_byte : Ends (narrow_division true (remainder true)) st (HoldsNumber (operation Rem I8 x y))
  remainder_signed_byte = after (masked (operation Rem I16 (extended true x) (extended true y)) (extends true (remainder true) (operation Rem I16 (extended true x) (extended true y)) (λ s e f. remainder_signed_word s (extended true x) (extended true y) e (small_extended true x) f (small_extended true y))))
      (λ s e. e ∙ residue_8 _ ∙ ap (λ z. residue 8 (unless_zero z (int_rem (wrapped I16 (pos (extended true x))) z))) (signed_byte y) ∙ ap (λ z. residue 8 (unless_zero (wrapped I8 (pos y)) (int_rem z (wrapped I8 (pos y))))) (signed_byte x))

  remainder_unsigned_byte : Ends (narrow_division false (remainder false)) st (HoldsNumber (operation Rem U8 x y))
  remainder_unsigned_byte = after (masked (operation Rem U16 (extended false x) (extended false y)) (extends false (remainder false) (operation Rem U16 (extended false x) (extended false y)) (λ s e f. remainder_unsigned_word s (extended false x) (extended false y) e (small_extended false x) f (small_extended false y))))
      (λ s e. e ∙ residue_8 _ ∙ ap (λ z. residue 8 (unless_zero z (int_rem (wrapped U16 (pos (extended false x))) z))) (unsigned_byte y) ∙ ap (λ z. residue 8 (unless_zero (wrapped U8 (pos y)) (int_rem z (wrapped U8 (pos y))))) (unsigned_byte x))

  right_signed_byte_does : Ends (narrow_right true) st (HoldsNumber (operation Shr I8 x y))
  right_signed_byte_does = after (masked (operation Shr I16 (extended true x) y) (right_bytes true))
      (λ s e. e ∙ residue_8 _ ∙ ap (λ z. residue 8 (shifted_right I16 z y)) (signed_byte x) ∙ ap (residue 8) (right_signed_byte x y))

  right_unsigned_byte_does : Ends (narrow_right false) st (HoldsNumber (operation Shr U8 x y))
  right_unsigned_byte_does = after (masked (operation Shr U16 (extended false x) y) (right_bytes false))
      (λ s e. e ∙ residue_8 _ ∙ ap (λ z. residue 8 (shifted_right U16 z y)) (unsigned_byte x) ∙ ap (residue 8) (right_unsigned_byte x y))

  pub byte_signed : (o : HelpOp) → Ends (byte_code true o) st (HoldsNumber (operation o I8 x y))
  byte_signed Mul = product_byte st x y ex lx ey ly
  byte_signed Div = quotient_signed_byte
  byte_signed Rem = remainder_signed_byte
  byte_signed Shl = shifted_byte st x y ex lx ey ly
  byte_signed Shr = right_signed_byte_does

  pub byte_unsigned : (o : HelpOp) → Ends (byte_code false o) st (HoldsNumber (operation o U8 x y))
  byte_unsigned Mul = product_byte st x y ex lx ey ly
  byte_unsigned Div = quotient_unsigned_byte
  byte_unsigned Rem = remainder_unsigned_byte
  byte_unsigned Shl = shifted_byte st x y ex lx ey ly
  byte_unsigned Shr = right_unsigned_byte_does
