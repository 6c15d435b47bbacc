-- What the steps of routines leave: carries as numbers, comparisons as conditions.
use Rattle.std.proofs.Common.{◌≡◌, ℕ, zero, suc, ◌+◌, ◌-◌, ◌*◌, ◌/◌, ◌%◌, ◌<◌, ◌≤◌, Bool, true, false, cond, not, nat_le, subst, refl, sym, ap, ◌∙◌, arith}
use Rattle.std.proofs.lemmas.Bool.Decides.{nat_tests}
use Rattle.nm_base.specs.Lists.{bit, number_of}
use Rattle.msp_isa.specs.declared.instr.Cond.TheVariants.{Jnc, Jc}
use Rattle.msp_isa.specs.declared.instr.Cond.{Cond}
use Rattle.msp_isa.specs.declared.instr.Op2.{Op2}
use Rattle.msp_isa.specs.declared.instr.Op2.TheVariants as op2
use Rattle.msp430_cpu.specs.Operate.{is_taken, operate, with_flags}
use Rattle.open_law.specs.Homes.{Source, Made, literal}
use Rattle.open_law.proofs.Homes.{flags_carry}
use Rattle.msp_runtime.specs.Code.{Code, Nothing, Do, Then, Skip, Times, Keeping, IsBounded, Registers, done, meaning, popped, pushed, repeated, value_of}
use Rattle.msp_runtime.specs.Routines.{where_below, where_least}

-- the lowest bit of SR is C
low_bit : (n : ℕ) (b : Bool) → bit n 0 ≡ b → n % 2 ≡ number_of b
low_bit n true e = grind (arith, nat_tests)
low_bit n false e = grind (arith, nat_tests)

as_number : (t : ℕ) → t < 0x20000 → number_of (nat_le 0x10000 t) ≡ t / 0x10000
as_number t lt = by (nat_le 0x10000 t) refl
  where
    by : (b : Bool) → nat_le 0x10000 t ≡ b → number_of b ≡ t / 0x10000
    by true e = let l : 0x10000 ≤ t = grind (arith, nat_tests) in omega (arith, l, lt)
    by false e = let l : t < 0x10000 = grind (arith, nat_tests) in omega (arith, l)

-- C behind a sum of two words and a carry
pub carry_out : (sr t : ℕ) (z n v : Bool) → t < 0x20000 → with_flags sr (nat_le 0x10000 t) z n v % 2 ≡ t / 0x10000
carry_out sr t z n v lt = low_bit (with_flags sr (nat_le 0x10000 t) z n v) (nat_le 0x10000 t) (flags_carry sr (nat_le 0x10000 t) z n v) ∙ as_number t lt

-- behind CMP, JNC and JC tell which is less
compared : (s d : ℕ) → s < 0x10000 → nat_le 0x10000 (d + (0x10000 - 1 - s) + 1) ≡ nat_le s d
compared s d ls = grind (arith, nat_tests)

pub least_taken : (sr s d : ℕ) → s < 0x10000 → is_taken Jnc (operate op2.Cmp false sr s d).sr ≡ not (nat_le s d)
least_taken sr s d ls = ap not (flags_carry sr _ _ _ _ ∙ compared s d ls)

pub below_taken : (sr s d : ℕ) → s < 0x10000 → is_taken Jc (operate op2.Cmp false sr s d).sr ≡ nat_le s d
below_taken sr s d ls = flags_carry sr _ _ _ _ ∙ compared s d ls

pub doubled : (x y p q : ℕ) → y + q * 0x10000 ≡ x + x → (y * p) % 0x10000 ≡ (x * (p * 2)) % 0x10000
doubled x y p q e = let f = ap (λ n. n * p) e in omega (arith, f)

-- 32 bits, of which the high half is asked
pub doubled_high : (w y p q : ℕ) → y + q * 0x100000000 ≡ w + w → (y * p / 0x10000) % 0x10000 ≡ (w * (p * 2) / 0x10000) % 0x10000
doubled_high w y p q e = let f = ap (λ n. n * p) e in omega (arith, f)

-- ---- rules

-- code comes to its end, where this holds
pub record Ends (c : Code) (st : Registers) (P : Registers → Type 0) : Type 0 where
  pub bounded : IsBounded c st
  pub after : P (meaning c st)

pub nothing : {st : Registers} {P : Registers → Type 0} → P st → Ends Nothing st P
nothing p = record { bounded = tt; after = p }

pub does : {op : Op2} {s : Source} {r : ℕ} {st : Registers} {P : Registers → Type 0} → P (done op s r st) → Ends (Do op s r) st P
does p = record { bounded = tt; after = p }

pub then : {a b : Code} {st : Registers} {P : Registers → Type 0} → Ends a st (λ s. Ends b s P) → Ends (Then a b) st P
then e = record { bounded = (e.bounded, e.after.bounded); after = e.after.after }

pub skips : {c : Cond} {a : Code} {st : Registers} {P : Registers → Type 0} → IsBounded a st → (taken : Bool) → is_taken c st.sr ≡ taken → (taken ≡ true → P st) → (taken ≡ false → P (meaning a st)) → Ends (Skip c a) st P
skips {c} {a} {st} {P} bounded taken e over into = record { bounded = bounded; after = subst (λ t. P (cond t st (meaning a st))) (sym e) (by taken over into) }
  where
    by : (t : Bool) → (t ≡ true → P st) → (t ≡ false → P (meaning a st)) → P (cond t st (meaning a st))
    by true o i = o refl
    by false o i = i refl

pub keeps : {r : ℕ} {a : Code} {st : Registers} {P : Registers → Type 0} → Ends a (pushed st) (λ s. P (popped r (st.regs r) st.sp s)) → Ends (Keeping r a) st P
keeps e = record { bounded = e.bounded; after = e.after }

-- a register's value is n or more, or less
pub at_least : {r : ℕ} {a : Code} {st : Registers} {P : Registers → Type 0} (n d : ℕ) → value_of (literal n) st.regs ≡ n → n < 0x10000 → st.regs r ≡ d → IsBounded a (done op2.Cmp (literal n) r st) →
    (n ≤ d → P (meaning a (done op2.Cmp (literal n) r st))) → (d < n → P (done op2.Cmp (literal n) r st)) → Ends (where_least n r a) st P
at_least {r} {a} {st} {P} n d v small e bounded into over =
    then (does (skips bounded (not (nat_le n d))
    (ap (λ m. is_taken Jnc (operate op2.Cmp false st.sr m (st.regs r)).sr) v ∙ least_taken st.sr n (st.regs r) small ∙ ap (λ m. not (nat_le n m)) e)
    (λ t. over (grind (arith, nat_tests))) (λ t. into (grind (arith, nat_tests)))))

pub is_below : {r : ℕ} {a : Code} {st : Registers} {P : Registers → Type 0} (n d : ℕ) → value_of (literal n) st.regs ≡ n → n < 0x10000 → st.regs r ≡ d → IsBounded a (done op2.Cmp (literal n) r st) →
    (d < n → P (meaning a (done op2.Cmp (literal n) r st))) → (n ≤ d → P (done op2.Cmp (literal n) r st)) → Ends (where_below n r a) st P
is_below {r} {a} {st} {P} n d v small e bounded into over =
    then (does (skips bounded (nat_le n d)
    (ap (λ m. is_taken Jc (operate op2.Cmp false st.sr m (st.regs r)).sr) v ∙ below_taken st.sr n (st.regs r) small ∙ ap (nat_le n) e)
    (λ t. over (grind (arith, nat_tests))) (λ t. into (grind (arith, nat_tests)))))

-- a loop keeps what holds where so many turns are left
pub turns : (Inv : ℕ → (ℕ → ℕ) → Type 0) (r : ℕ) (a : Code) → ((j : ℕ) (s : Registers) → Inv (suc j) s.regs → Ends a s (λ s'. Inv j (done op2.Sub (Made 1) r s').regs)) → (k : ℕ) (s : Registers) → Inv k s.regs → Inv 0 (repeated (meaning a) r k s).regs
turns Inv r a turn zero s i = i
turns Inv r a turn (suc k) s i = turns Inv r a turn k (done op2.Sub (Made 1) r (meaning a s)) (turn k s i).after

pub loops : {most r : ℕ} {a : Code} {st : Registers} {P : Registers → Type 0} (Inv : ℕ → (ℕ → ℕ) → Type 0) (k : ℕ) → st.regs r ≡ k → k ≤ most → Inv k st.regs →
    ((j : ℕ) (s : Registers) → Inv (suc j) s.regs → Ends a s (λ s'. Inv j (done op2.Sub (Made 1) r s').regs)) → ((s : Registers) → Inv 0 s.regs → P s) → Ends (Times most r a) st P
loops {most} {r} {a} {st} {P} Inv k e le i turn more = record {
  bounded = omega (arith, e, le);
  after = more (meaning (Times most r a) st) (turns Inv r a turn (st.regs r) (done op2.Cmp (Made 0) r st) (subst (λ n. Inv n st.regs) (sym e) i));
}
