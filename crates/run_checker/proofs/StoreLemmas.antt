-- The store as bytes at addresses.
use Rattle.std.proofs.Common.{◌≡◌, ℕ, zero, suc, ◌+◌, ◌<◌, ◌/◌, ◌%◌, ◌==◌, true, false, if◌then◌else◌, List, [], ◌∷◌, length, arith, refl, slice_set, ap, sym, ◌∙◌}
use Rattle.std.specs.Prelude.{replicate}
use Rattle.std.proofs.Math.Path.{fun_ext}
use Rattle.std.proofs.lemmas.Bool.Decides.{nat_tests}
use Rattle.run_meaning.specs.State.{stored}
use Rattle.run_checker.specs.States.{byte_at, bytes}

pub set_size : (xs : List ℕ) (k y : ℕ) → length (slice_set xs k y) ≡ length xs
set_size [] k y = refl
set_size (x ∷ xs) zero y = refl
set_size (x ∷ xs) (suc k) y = omega (arith, set_size xs k y)

byte_set : (xs : List ℕ) (k y a : ℕ) → k < length xs → byte_at (slice_set xs k y) a ≡ (if a == k then y else byte_at xs a)
byte_set [] k y a inside = absurd (omega (arith, inside))
byte_set (x ∷ xs) zero y zero inside = refl
byte_set (x ∷ xs) zero y (suc a) inside =
    let other : (suc a == 0) ≡ false = grind (arith, nat_tests) in sym (ap (λ t. if t then y else byte_at xs a) other)
byte_set (x ∷ xs) (suc k) y zero inside =
    let other : (0 == suc k) ≡ false = grind (arith, nat_tests) in sym (ap (λ t. if t then y else x) other)
byte_set (x ∷ xs) (suc k) y (suc a) inside =
    let same : (a == k) ≡ (suc a == suc k) = grind (arith, nat_tests) in
    byte_set xs k y a (omega (arith, inside)) ∙ ap (λ t. if t then y else byte_at xs a) same

pub byte_stored : (xs ys : List ℕ) (x v : ℕ) → length xs ≡ 65537 → x < 65536 → ys ≡ slice_set xs x (v % 256) → bytes ys ≡ stored (bytes xs) x false v
byte_stored xs ys x v size small is = ap bytes is ∙ fun_ext (λ a. byte_set xs x (v % 256) a (omega (arith, size, small)))

pub word_stored : (xs ys : List ℕ) (x v : ℕ) → length xs ≡ 65537 → x < 65536 → v < 65536 → ys ≡ slice_set (slice_set xs (x + 1) (v / 256)) x (v % 256) → bytes ys ≡ stored (bytes xs) x true v
word_stored xs ys x v size small word is =
    let high : v / 256 ≡ v / 256 % 256 = omega (arith, word) in
    ap bytes is
    ∙ fun_ext (λ a.
    byte_set (slice_set xs (x + 1) (v / 256)) x (v % 256) a (omega (arith, size, small, set_size xs (x + 1) (v / 256)))
    ∙ ap (λ b. if a == x then v % 256 else b) (byte_set xs (x + 1) (v / 256) a (omega (arith, size, small)) ∙ ap (λ h. if a == x + 1 then h else byte_at xs a) high))

zero_at : (n a : ℕ) → byte_at (replicate n 0) a ≡ 0
zero_at zero a = refl
zero_at (suc n) zero = refl
zero_at (suc n) (suc a) = zero_at n a

pub all_zero : (n : ℕ) (xs : List ℕ) → xs ≡ replicate n 0 → bytes xs ≡ (λ a. 0)
all_zero n xs is = ap bytes is ∙ fun_ext (λ a. zero_at n a)

pub ruleset stores = (byte_stored, word_stored, set_size)
