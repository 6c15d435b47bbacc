-- Bytes of a frame, where one or two of them are written.
use Rattle.std.proofs.Common.{◌≡◌, ◌≢◌, ⊎_elim, ℕ, ◌+◌, ◌/◌, ◌%◌, ◌<◌, ◌≤◌, ◌==◌, Bool, true, false, cond, nat_lt, refl, sym, ap, ◌∙◌, arith}
use Rattle.std.proofs.lemmas.Bool.{eq-eqb, ne_eqb}
use Rattle.std.proofs.lemmas.Bool.Decides.{nat_tests, eqb_tells}
use Rattle.msp430_cpu.specs.Cpu.{changed_at}
use Rattle.msp430_cpu.specs.Memory.{with_word_at}
use Rattle.mid_code.specs.Machine.{poked}

pub byte_other : (stack : ℕ → ℕ) (a n b : ℕ) → a ≢ b → changed_at stack a n b ≡ stack b
byte_other stack a n b ne = let e : (b == a) ≡ false = ne_eqb b a (λ z. ne (sym z)) in rw e refl

-- places are told apart from SP on as they are from 0 on
same_test : (sp o q : ℕ) → (sp + o == sp + q) ≡ (o == q)
same_test sp o q = ⊎_elim
    (λ t. let e = t.1 in eq-eqb (sp + o) (sp + q) (omega (arith, e)) ∙ sym t.0)
    (λ t. ne_eqb (sp + o) (sp + q) (λ z. t.1 (omega (arith, z))) ∙ sym t.0)
    (eqb_tells o q)

small_by : (t : Bool) (x y : ℕ) → x < 0x100 → y < 0x100 → cond t x y < 0x100
small_by true x y lx ly = lx
small_by false x y lx ly = ly

pub byte_poked : (stack frame : ℕ → ℕ) (size sp q o n : ℕ) → q + 1 ≤ size → (stack (sp + o) ≡ frame o) × (frame o < 0x100) →
    (changed_at stack (sp + q) (n % 256) (sp + o) ≡ poked false size frame q n o) × (poked false size frame q n o < 0x100)
byte_poked stack frame size sp q o n fits old =
    let t : nat_lt q size ≡ true = grind (arith, nat_tests) in (
      rw (t, same_test sp o q) (ap (λ x. cond (o == q) (n % 256) x) old.0),
      rw t (small_by (o == q) (n % 256) (frame o) (omega arith) old.1),
    )

pub word_poked : (stack frame : ℕ → ℕ) (size sp q o n : ℕ) → q + 2 ≤ size → n < 0x10000 → (stack (sp + o) ≡ frame o) × (frame o < 0x100) →
    (with_word_at stack (sp + q) n (sp + o) ≡ poked true size frame q n o) × (poked true size frame q n o < 0x100)
word_poked stack frame size sp q o n fits small old =
    let t : nat_lt q size ≡ true = grind (arith, nat_tests) in
    let t1 : nat_lt (q + 1) size ≡ true = grind (arith, nat_tests) in
    let high : n / 256 % 256 ≡ n / 256 = omega arith in
    let next : sp + q + 1 ≡ sp + (q + 1) = omega arith in
    let test : (sp + o == sp + q + 1) ≡ (o == q + 1) = ap (λ x. sp + o == x) next ∙ same_test sp o (q + 1) in (
      rw (t, t1, test, same_test sp o q, high) (ap (λ x. cond (o == q + 1) (n / 256) (cond (o == q) (n % 256) x)) old.0),
      rw (t, t1) (small_by (o == q + 1) (n / 256) (cond (o == q) (n % 256) (frame o)) (omega arith) (small_by (o == q) (n % 256) (frame o) (omega arith) old.1)),
    )
