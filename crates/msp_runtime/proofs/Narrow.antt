-- Routines of 8 bits, by way of 16.
use Rattle.std.proofs.Common.{◌≡◌, ℕ, ◌+◌, ◌-◌, ◌/◌, ◌%◌, ◌^◌, ◌<◌, ◌≤◌, Bool, true, false, cond, nat_le, nat_lt, refl, sym, ap, ◌∙◌, arith, bit_and}
use Rattle.std.specs.Prelude.{ℤ, pos, negsuc}
use Rattle.std.proofs.lemmas.Bool.Decides.{nat_tests}
use Rattle.std.proofs.lemmas.Int.{ints}
use Rattle.std.proofs.lemmas.Nat.{and_mask}
use Rattle.nm_base.specs.declared.int_type.IntType.TheVariants.{I8, U8, I16, U16}
use Rattle.nm_base.specs.IntType.{signed_part, wrapped}
use Rattle.mid_code.specs.Help.{residue, shifted_right}
use Rattle.msp_runtime.specs.Code.{Code, Registers}
use Rattle.msp_runtime.specs.Routines.{extend, narrow}
use Rattle.msp_runtime.proofs.Steps.{Ends, does, nothing, then}
use Rattle.msp_runtime.proofs.GivenWords.{each16, signed_word, unsigned_word}

-- ---- numbers

pub residue_8 : (z : ℤ) → residue 16 z % 256 ≡ residue 8 z
residue_8 (pos a) = omega arith
residue_8 (negsuc a) = omega arith

-- a byte as a word
abbrev pub extended : (is_signed : Bool) → ℕ → ℕ
extended true x = cond (nat_le 128 (x % 256)) (x % 256 + 65280) (x % 256)
extended false x = x % 256

pub small_extended : (s : Bool) (x : ℕ) → extended s x < 0x10000
small_extended false x = omega arith
small_extended true x = by (nat_le 128 (x % 256))
  where
    by : (b : Bool) → cond b (x % 256 + 65280) (x % 256) < 0x10000
    by true = omega arith
    by false = omega arith

-- 128 more, the low byte of that, and 128 less
turned_over : (x : ℕ) → ((x + 128 + 0) % 0x10000 % 256 + (0x10000 - 1 - 128) + 1) % 0x10000 ≡ extended true x
turned_over x = by (nat_le 128 (x % 256)) refl
  where
    by : (b : Bool) → nat_le 128 (x % 256) ≡ b → ((x + 128 + 0) % 0x10000 % 256 + (0x10000 - 1 - 128) + 1) % 0x10000 ≡ cond b (x % 256 + 65280) (x % 256)
    by true e = let le : 128 ≤ x % 256 = grind (arith, nat_tests) in omega (arith, le)
    by false e = let lt : x % 256 < 128 = grind (arith, nat_tests) in omega (arith, lt)

pub signed_byte : (x : ℕ) → wrapped I16 (pos (extended true x)) ≡ wrapped I8 (pos x)
signed_byte x = by (nat_le 128 (x % 256)) refl
  where
    y : ℕ
    y = x % 256

    by : (b : Bool) → nat_le 128 (x % 256) ≡ b → wrapped I16 (pos (cond b (x % 256 + 65280) (x % 256))) ≡ signed_part (pos (x % 256)) (pos 128)
    by true e =
        let le : 128 ≤ x % 256 = grind (arith, nat_tests) in let t : nat_lt (x % 256) 128 ≡ false = grind (arith, nat_tests) in
        let up : nat_le 0x8000 (x % 256 + 65280) ≡ true = grind (arith, nat_tests) in
        signed_word (x % 256 + 65280) (omega arith) ∙ ap (λ b. cond b (negsuc (65535 - (x % 256 + 65280))) (pos (x % 256 + 65280))) up ∙ rw t (omega (arith, ints, le))
    by false e =
        let lt : x % 256 < 128 = grind (arith, nat_tests) in let t : nat_lt (x % 256) 128 ≡ true = grind (arith, nat_tests) in
        let low : nat_le 0x8000 (x % 256) ≡ false = grind (arith, nat_tests) in
        signed_word (x % 256) (omega arith) ∙ ap (λ b. cond b (negsuc (65535 - x % 256)) (pos (x % 256))) low ∙ rw t refl

pub unsigned_byte : (x : ℕ) → wrapped U16 (pos (extended false x)) ≡ wrapped U8 (pos x)
unsigned_byte x = unsigned_word (x % 256) (omega arith)

-- a shift of a byte by 8 or more leaves its sign, as one by 16 does
gone : (a n : ℕ) → a < 256 → n < 16 → 8 ≤ n → a / 2 ^ n ≡ 0
gone a n lt l le = each16 (λ k. 8 ≤ k → a / 2 ^ k ≡ 0) (λ h. omega (arith, h, lt)) (λ h. omega (arith, h, lt)) (λ h. omega (arith, h, lt)) (λ h. omega (arith, h, lt)) (λ h. omega (arith, h, lt)) (λ h. omega (arith, h, lt)) (λ h. omega (arith, h, lt)) (λ h. omega (arith, h, lt)) (λ h. omega (arith, h, lt)) (λ h. omega (arith, h, lt)) (λ h. omega (arith, h, lt)) (λ h. omega (arith, h, lt)) (λ h. omega (arith, h, lt)) (λ h. omega (arith, h, lt)) (λ h. omega (arith, h, lt)) (λ h. omega (arith, h, lt)) n l le

same_positive : (a n : ℕ) → a < 256 → cond (nat_lt n 16) (pos (a / 2 ^ n)) (pos 0) ≡ cond (nat_lt n 8) (pos (a / 2 ^ n)) (pos 0)
same_positive a n lt = by (nat_lt n 8) (nat_lt n 16) refl refl
  where
    by : (b c : Bool) → nat_lt n 8 ≡ b → nat_lt n 16 ≡ c → cond c (pos (a / 2 ^ n)) (pos 0) ≡ cond b (pos (a / 2 ^ n)) (pos 0)
    by true true e f = refl
    by true false e f = absurd (let l : n < 8 = grind (arith, nat_tests) in let m : 16 ≤ n = grind (arith, nat_tests) in omega (arith, l, m))
    by false true e f = ap pos (gone a n lt (grind (arith, nat_tests)) (grind (arith, nat_tests)))
    by false false e f = refl

same_negative : (a n : ℕ) → a < 256 → cond (nat_lt n 16) (negsuc (a / 2 ^ n)) (negsuc 0) ≡ cond (nat_lt n 8) (negsuc (a / 2 ^ n)) (negsuc 0)
same_negative a n lt = by (nat_lt n 8) (nat_lt n 16) refl refl
  where
    by : (b c : Bool) → nat_lt n 8 ≡ b → nat_lt n 16 ≡ c → cond c (negsuc (a / 2 ^ n)) (negsuc 0) ≡ cond b (negsuc (a / 2 ^ n)) (negsuc 0)
    by true true e f = refl
    by true false e f = absurd (let l : n < 8 = grind (arith, nat_tests) in let m : 16 ≤ n = grind (arith, nat_tests) in omega (arith, l, m))
    by false true e f = ap negsuc (gone a n lt (grind (arith, nat_tests)) (grind (arith, nat_tests)))
    by false false e f = refl

byte_is : (x : ℕ) → wrapped I8 (pos x) ≡ cond (nat_le 128 (x % 256)) (negsuc (255 - x % 256)) (pos (x % 256))
byte_is x = by (nat_le 128 (x % 256)) refl
  where
    by : (b : Bool) → nat_le 128 (x % 256) ≡ b → signed_part (pos (x % 256)) (pos 128) ≡ cond b (negsuc (255 - x % 256)) (pos (x % 256))
    by true e = let le : 128 ≤ x % 256 = grind (arith, nat_tests) in let t : nat_lt (x % 256) 128 ≡ false = grind (arith, nat_tests) in rw t (omega (arith, ints, le))
    by false e = let t : nat_lt (x % 256) 128 ≡ true = grind (arith, nat_tests) in rw t refl

pub right_signed_byte : (x n : ℕ) → shifted_right I16 (wrapped I8 (pos x)) n ≡ shifted_right I8 (wrapped I8 (pos x)) n
right_signed_byte x n = by (nat_le 128 (x % 256)) (byte_is x)
  where
    by : (b : Bool) → wrapped I8 (pos x) ≡ cond b (negsuc (255 - x % 256)) (pos (x % 256)) → shifted_right I16 (wrapped I8 (pos x)) n ≡ shifted_right I8 (wrapped I8 (pos x)) n
    by true e = ap (λ z. shifted_right I16 z n) e ∙ same_negative (255 - x % 256) n (omega arith) ∙ ap (λ z. shifted_right I8 z n) (sym e)
    by false e = ap (λ z. shifted_right I16 z n) e ∙ same_positive (x % 256) n (omega arith) ∙ ap (λ z. shifted_right I8 z n) (sym e)

pub right_unsigned_byte : (x n : ℕ) → shifted_right U16 (wrapped U8 (pos x)) n ≡ shifted_right U8 (wrapped U8 (pos x)) n
right_unsigned_byte x n = same_positive (x % 256) n (omega arith)

-- ---- code

pub masked : {c : Code} {st : Registers} (r : ℕ) → Ends c st (λ s. s.regs 12 ≡ r) → Ends (narrow c) st (λ s. s.regs 12 ≡ r % 256)
masked {c} {st} r e = then (record { bounded = e.bounded; after = then (does (nothing (ap (λ n. bit_and n 255) e.after ∙ and_mask r 8))) })

pub extend_12 : (is_signed : Bool) (st : Registers) (x y : ℕ) (P : Registers → Type 0) → st.regs 12 ≡ x → st.regs 13 ≡ y → ((s : Registers) → s.regs 12 ≡ extended is_signed x → s.regs 13 ≡ y → P s) → Ends (extend is_signed 12) st P
extend_12 false st x y P ex ey more = does (more _ (ap (λ n. bit_and n 255) ex ∙ and_mask x 8) ey)
extend_12 true st x y P ex ey more =
    then (does (then (does (then (does (nothing (more _
    (ap (λ n. (bit_and ((n + 128 + 0) % 0x10000) 255 + (0x10000 - 1 - 128) + 1) % 0x10000) ex ∙ ap (λ n. (n + (0x10000 - 1 - 128) + 1) % 0x10000) (and_mask ((x + 128 + 0) % 0x10000) 8) ∙ turned_over x) ey)))))))

pub extend_13 : (is_signed : Bool) (st : Registers) (x y : ℕ) (P : Registers → Type 0) → st.regs 12 ≡ x → st.regs 13 ≡ y → ((s : Registers) → s.regs 12 ≡ x → s.regs 13 ≡ extended is_signed y → P s) → Ends (extend is_signed 13) st P
extend_13 false st x y P ex ey more = does (more _ ex (ap (λ n. bit_and n 255) ey ∙ and_mask y 8))
extend_13 true st x y P ex ey more =
    then (does (then (does (then (does (nothing (more _ ex
    (ap (λ n. (bit_and ((n + 128 + 0) % 0x10000) 255 + (0x10000 - 1 - 128) + 1) % 0x10000) ey ∙ ap (λ n. (n + (0x10000 - 1 - 128) + 1) % 0x10000) (and_mask ((y + 128 + 0) % 0x10000) 8) ∙ turned_over y))))))))
