-- What operations leave in SR, and what they give.
use Rattle.std.proofs.Common.{◌≡◌, ℕ, ◌+◌, ◌-◌, ◌%◌, ◌<◌, Bool, true, false, cond, nat_lt, nat_le, refl, ap, ◌∙◌, arith}
use Rattle.std.proofs.lemmas.Bool.Decides.{nat_tests}
use Rattle.std.proofs.lemmas.Nat.{and_le_r, or_lt, xor_lt}
use Rattle.nm_base.specs.Lists.{bit, number_of}
use Rattle.msp_isa.specs.declared.instr.Op2.TheVariants as op2
use Rattle.msp430_cpu.specs.Operate.{operate, reads_destination, with_flags}
use Rattle.mid_code.specs.declared.instr.Op.{Op}
use Rattle.mid_code.specs.declared.instr.Op.TheVariants as op
use Rattle.mid_code.specs.Words as words
use Rattle.open_law.proofs.Homes.{small_flags, flags_gie, flags_cpuoff, flags_carry}
use Rattle.open_law.specs.Homes.{Made, Number, is_made, literal}
use Rattle.open_law.proofs.Quiet.{HasAt}
use Rattle.msp_select.specs.Select.{operator}

-- flags alone have changed
pub record Tame (sr sr' : ℕ) : Type 0 where
  pub gie : bit sr' 3 ≡ bit sr 3
  pub off : bit sr' 4 ≡ bit sr 4
  pub small : sr' < 0x10000

pub tame : (sr : ℕ) (c z n v : Bool) → Tame sr (with_flags sr c z n v)
tame sr c z n v = record { gie = flags_gie sr c z n v; off = flags_cpuoff sr c z n v; small = small_flags sr c z n v }

pub tame_operator : (o : Op) (sr y x : ℕ) → sr < 0x10000 → Tame sr (operate (operator o) false sr y x).sr
tame_operator op.Add sr y x small = tame sr _ _ _ _
tame_operator op.Sub sr y x small = tame sr _ _ _ _
tame_operator op.And sr y x small = tame sr _ _ _ false
tame_operator op.Or sr y x small = record { gie = refl; off = refl; small = small }
tame_operator op.Xor sr y x small = tame sr _ _ _ _

pub operator_reads : (o : Op) → reads_destination (operator o) ≡ true
operator_reads op.Add = refl
operator_reads op.Sub = refl
operator_reads op.And = refl
operator_reads op.Or = refl
operator_reads op.Xor = refl

pub word_of : (o : Op) (x y : ℕ) → x < 0x10000 → y < 0x10000 → words.operate o x y < 0x10000
word_of op.Add x y lx ly = omega arith
word_of op.Sub x y lx ly = omega arith
word_of op.And x y lx ly = let b = and_le_r x y in omega arith
word_of op.Or x y lx ly = or_lt 16 x y lx ly
word_of op.Xor x y lx ly = xor_lt 16 x y lx ly

pub operator_is : (o : Op) (sr x y : ℕ) → x < 0x10000 → y < 0x10000 → operate (operator o) false sr y x ≡ record { result = words.operate o x y; is_written = true; sr = (operate (operator o) false sr y x).sr }
operator_is op.Add sr x y lx ly = let e : (x + y + 0) % 0x10000 ≡ (x + y) % 65536 = omega arith in ap (λ n. record { result = n; is_written = true; sr = (operate op2.Add false sr y x).sr }) e
operator_is op.Sub sr x y lx ly = let e : (x + (0x10000 - 1 - y) + 1) % 0x10000 ≡ (x + (65536 - y)) % 65536 = omega arith in ap (λ n. record { result = n; is_written = true; sr = (operate op2.Sub false sr y x).sr }) e
operator_is op.And sr x y lx ly = refl
operator_is op.Or sr x y lx ly = refl
operator_is op.Xor sr x y lx ly = refl

-- the shortest source of a number has it
pub has_literal : (top sp : ℕ) (regs stack : ℕ → ℕ) (n : ℕ) → n < 0x10000 → HasAt top sp regs stack (literal n) n
has_literal top sp regs stack n small = by (is_made n)
  where
    by : (b : Bool) → HasAt top sp regs stack (cond b (Made n) (Number n)) n
    by true = (refl, small)
    by false = (refl, small)

-- ---- carries

-- C behind ADD, added to 0
pub carry_of_add : (sr x y : ℕ) → x < 0x10000 → y < 0x10000 → (operate op2.Add false sr y x).sr % 2 ≡ words.carry op.Add x y
carry_of_add sr x y lx ly = low_bit (operate op2.Add false sr y x).sr (nat_lt 65535 (x + y)) (flags_carry sr _ _ _ _ ∙ same)
  where
    same : nat_le 0x10000 (x + y + 0) ≡ nat_lt 65535 (x + y)
    same = grind (arith, nat_tests)

    low_bit : (n : ℕ) (b : Bool) → bit n 0 ≡ b → n % 2 ≡ number_of b
    low_bit n true e = grind (arith, nat_tests)
    low_bit n false e = grind (arith, nat_tests)
