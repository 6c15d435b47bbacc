-- What a home holds after a value was put into one.
use Rattle.std.proofs.Common.{◌≡◌, ◌≢◌, ℕ, ◌+◌, ◌*◌, ◌/◌, ◌%◌, ◌<◌, ◌≤◌, ◌==◌, Bool, true, false, cond, refl, sym, ap, ◌∙◌, arith, bit_and}
use Rattle.std.proofs.lemmas.Bool.{eq-eqb, ne_eqb}
use Rattle.std.proofs.lemmas.Nat.{and_le_r}
use Rattle.std.proofs.lemmas.Nat.Bits.{bit_at_and, bit_at-lt}
use Rattle.std.specs.Prelude.{min}
use Rattle.nm_base.specs.Lists.{bit, number_of}
use Rattle.msp430_cpu.specs.Cpu.{even}
use Rattle.msp430_cpu.specs.Memory.{with_word_at}
use Rattle.msp430_cpu.specs.Operate.{with_flags}
use Rattle.open_law.specs.Homes.{Home, InRegister, InFrame, IsKept, Apart}
use Rattle.msp_isa.specs.Stands.{word_in}
use Rattle.open_law.proofs.Quiet.{held_at, put_regs, put_stack}

pub word_same : (stack : ℕ → ℕ) (a n : ℕ) → n < 0x10000 → word_in (with_word_at stack a n) a ≡ n
word_same stack a n small =
    let e : (a == a) ≡ true = eq-eqb a a refl in
    let e1 : (a + 1 == a + 1) ≡ true = eq-eqb (a + 1) (a + 1) refl in
    let n1 : (a == a + 1) ≡ false = ne_eqb a (a + 1) (λ p. omega (arith, p)) in
    rw (e1, n1, e) (omega arith)

pub word_other : (stack : ℕ → ℕ) (a b n : ℕ) → even a ≡ a → even b ≡ b → a ≢ b → word_in (with_word_at stack a n) b ≡ word_in stack b
word_other stack a b n ea eb ne =
    let n0 : (b == a) ≡ false = ne_eqb b a (λ p. ne (sym p)) in
    let n1 : (b == a + 1) ≡ false = ne_eqb b (a + 1) (λ p. omega (arith, ea, eb, p)) in
    let n2 : (b + 1 == a) ≡ false = ne_eqb (b + 1) a (λ p. omega (arith, ea, eb, p)) in
    let n3 : (b + 1 == a + 1) ≡ false = ne_eqb (b + 1) (a + 1) (λ p. ne (let q : a ≡ b = omega (arith, p) in q)) in
    rw (n1, n0, n3, n2) refl

pub word_above : (stack : ℕ → ℕ) (a n b : ℕ) → a + 2 ≤ b → with_word_at stack a n b ≡ stack b
word_above stack a n b le =
    let n0 : (b == a) ≡ false = ne_eqb b a (λ p. omega (arith, p)) in
    let n1 : (b == a + 1) ≡ false = ne_eqb b (a + 1) (λ p. omega (arith, p)) in
    rw (n1, n0) refl

module _ (sp : ℕ) (regs stack : ℕ → ℕ) where
  pub held_same : (h : Home) (n : ℕ) → n < 0x10000 → held_at sp (put_regs h n regs) (put_stack h n sp stack) h ≡ n
  held_same (InRegister r) n small = ap (λ b. cond b n (regs r)) (eq-eqb r r refl)
  held_same (InFrame x) n small = word_same stack (sp + x) n small

  pub held_other : (size : ℕ) (h k : Home) (n : ℕ) → even sp ≡ sp → IsKept size h → IsKept size k → Apart h k → held_at sp (put_regs h n regs) (put_stack h n sp stack) k ≡ held_at sp regs stack k
  held_other size (InRegister r) (InRegister q) n es kh kk apart = ap (λ b. cond b n (regs q)) (ne_eqb q r (λ p. apart (sym p)))
  held_other size (InRegister r) (InFrame y) n es kh kk apart = refl
  held_other size (InFrame x) (InRegister q) n es kh kk apart = refl
  held_other size (InFrame x) (InFrame y) n es kh kk apart =
      let ex = kh.0 in let ey = kk.0 in
      word_other stack (sp + x) (sp + y) n (omega (arith, es, ex)) (omega (arith, es, ey)) (λ p. apart (omega (arith, p)))

  pub above : (size : ℕ) (h : Home) (n a : ℕ) → IsKept size h → sp + size ≤ a → put_stack h n sp stack a ≡ stack a
  above size (InRegister r) n a kept le = refl
  above size (InFrame x) n a kept le = let k = kept.1 in word_above stack (sp + x) n a (omega arith)

-- registers below R12 do not tell a write to R12
pub held_scratch : (sp : ℕ) (regs regs' stack : ℕ → ℕ) (size : ℕ) (h : Home) → IsKept size h → ((r : ℕ) → r < 12 → regs' r ≡ regs r) → held_at sp regs' stack h ≡ held_at sp regs stack h
held_scratch sp regs regs' stack size (InRegister r) kept same = same r kept.1
held_scratch sp regs regs' stack size (InFrame x) kept same = refl

-- SR and its flags
one : (t : Bool) → number_of t ≤ 1
one true = omega arith
one false = omega arith

pub small_flags : (sr : ℕ) (c z n v : Bool) → with_flags sr c z n v < 0x10000
small_flags sr c z n v =
    let b = and_le_r sr 0xFEF8 in let h1 = one c in let h2 = one z in let h3 = one n in let h4 = one v in omega arith

min_zero : (x : ℕ) → min x 0 ≡ 0
min_zero x = omega arith

min_one : (x : ℕ) → x < 2 → min x 1 ≡ x
min_one x lt = omega arith

-- what the mask leaves
masked : (sr : ℕ) → (bit_and sr 0xFEF8 % 8 ≡ 0) × (bit_and sr 0xFEF8 / 256 % 2 ≡ 0) × (bit_and sr 0xFEF8 / 8 % 2 ≡ sr / 8 % 2) × (bit_and sr 0xFEF8 / 16 % 2 ≡ sr / 16 % 2)
masked sr =
    let x = bit_and sr 0xFEF8 in
    let b0 : x / 1 % 2 ≡ 0 = bit_at_and sr 0xFEF8 0 ∙ min_zero (sr / 1 % 2) in
    let b1 : x / 2 % 2 ≡ 0 = bit_at_and sr 0xFEF8 1 ∙ min_zero (sr / 2 % 2) in
    let b2 : x / 4 % 2 ≡ 0 = bit_at_and sr 0xFEF8 2 ∙ min_zero (sr / 4 % 2) in
    let b8 : x / 256 % 2 ≡ 0 = bit_at_and sr 0xFEF8 8 ∙ min_zero (sr / 256 % 2) in
    let b3 : x / 8 % 2 ≡ sr / 8 % 2 = bit_at_and sr 0xFEF8 3 ∙ min_one (sr / 8 % 2) (bit_at-lt sr 3) in
    let b4 : x / 16 % 2 ≡ sr / 16 % 2 = bit_at_and sr 0xFEF8 4 ∙ min_one (sr / 16 % 2) (bit_at-lt sr 4) in
    (omega (arith, b0, b1, b2), b8, b3, b4)

-- sums of flags on a number that has none of them
flag_sum : (x c z n v : ℕ) → x % 8 ≡ 0 → x / 256 % 2 ≡ 0 → c ≤ 1 → z ≤ 1 → n ≤ 1 → v ≤ 1 →
    ((x + c + 2 * z + 4 * n + 256 * v) / 8 % 2 ≡ x / 8 % 2) × ((x + c + 2 * z + 4 * n + 256 * v) / 16 % 2 ≡ x / 16 % 2) × ((x + c + 2 * z + 4 * n + 256 * v) / 2 % 2 ≡ z) × ((x + c + 2 * z + 4 * n + 256 * v) / 1 % 2 ≡ c)
    × ((x + c + 2 * z + 4 * n + 256 * v) / 4 % 2 ≡ n) × ((x + c + 2 * z + 4 * n + 256 * v) / 256 % 2 ≡ v)
flag_sum x c z n v e8 e256 hc hz hn hv = (omega arith, omega arith, omega arith, omega arith, omega arith, omega arith)

number_back : (t : Bool) → (number_of t == 1) ≡ t
number_back true = refl
number_back false = refl

module _ (sr : ℕ) (c z n v : Bool) where
  sum : (with_flags sr c z n v / 8 % 2 ≡ bit_and sr 0xFEF8 / 8 % 2) × (with_flags sr c z n v / 16 % 2 ≡ bit_and sr 0xFEF8 / 16 % 2) × (with_flags sr c z n v / 2 % 2 ≡ number_of z) × (with_flags sr c z n v / 1 % 2 ≡ number_of c)
      × (with_flags sr c z n v / 4 % 2 ≡ number_of n) × (with_flags sr c z n v / 256 % 2 ≡ number_of v)
  sum = flag_sum (bit_and sr 0xFEF8) (number_of c) (number_of z) (number_of n) (number_of v) (masked sr).0 (masked sr).1 (one c) (one z) (one n) (one v)

  pub flags_gie : bit (with_flags sr c z n v) 3 ≡ bit sr 3
  flags_gie = ap (λ x. x == 1) (sum.0 ∙ (masked sr).2)

  pub flags_cpuoff : bit (with_flags sr c z n v) 4 ≡ bit sr 4
  flags_cpuoff = ap (λ x. x == 1) (sum.1 ∙ (masked sr).3)

  pub flags_zero : bit (with_flags sr c z n v) 1 ≡ z
  flags_zero = ap (λ x. x == 1) sum.2 ∙ number_back z

  pub flags_carry : bit (with_flags sr c z n v) 0 ≡ c
  flags_carry = ap (λ x. x == 1) sum.3 ∙ number_back c

  pub flags_negative : bit (with_flags sr c z n v) 2 ≡ n
  flags_negative = ap (λ x. x == 1) sum.4 ∙ number_back n

  pub flags_overflow : bit (with_flags sr c z n v) 8 ≡ v
  flags_overflow = ap (λ x. x == 1) sum.5 ∙ number_back v

pub closed_gie : (sr : ℕ) → bit (bit_and sr 0xFFF7) 3 ≡ false
closed_gie sr = ap (λ x. x == 1) (bit_at_and sr 0xFFF7 3 ∙ min_zero (sr / 8 % 2))

pub closed_cpuoff : (sr : ℕ) → bit (bit_and sr 0xFFF7) 4 ≡ bit sr 4
closed_cpuoff sr = ap (λ x. x == 1) (bit_at_and sr 0xFFF7 4 ∙ min_one (sr / 16 % 2) (bit_at-lt sr 4))

pub closed_small : (sr : ℕ) → bit_and sr 0xFFF7 < 0x10000
closed_small sr = let b = and_le_r sr 0xFFF7 in omega arith
