-- Reading digits from the front.
use Rattle.std.proofs.Common.{◌≡◌, ℕ, suc, ◌+◌, ◌*◌, ◌^◌, ◌<◌, ◌≤◌, Bool, true, false, cond, List, [], ◌∷◌, length, get_or, drop, refl, sym, ap, ◌∙◌, arith, drop-cons, inl, inr, Some, None}
use Rattle.std.specs.Prelude.{nat_lt}
use Rattle.std.specs.Char.{digit_value, is_digit}
use Rattle.std.proofs.lemmas.Bool.{cases_Bool, lt-ltb, le-ltb, ltb-true, ltb-false}
use Rattle.std.proofs.Math.ListN.{drop_of_length-le}
use Rattle.std.proofs.Math.Nat.{le-mul_of_pos_right}
use Rattle.nesc_conditions.specs.Literals.{digits_onto, digits_of, bounded}

-- ---- the bound

bounded_below : (n : ℕ) → n < 2 ^ 128 → bounded n ≡ Some n
bounded_below n less = ap (λ (b : Bool). cond b (Some n) None) (lt-ltb n (2 ^ 128) less)

bounded_from : (n : ℕ) → 2 ^ 128 ≤ n → bounded n ≡ None
bounded_from n more = ap (λ (b : Bool). cond b (Some n) None) (le-ltb n (2 ^ 128) more)

from_bounded : (n : ℕ) → bounded n ≡ None → 2 ^ 128 ≤ n
from_bounded n none = elim (cases_Bool (nat_lt n (2 ^ 128))) [
  | inl less ↦ let some : bounded n ≡ Some n = bounded_below n (ltb-true n (2 ^ 128) less) in absurd (cc)
  | inr more ↦ ltb-false n (2 ^ 128) more
]

-- ---- one digit

not_digit : (radix n b : ℕ) (bs : List ℕ) → is_digit b radix ≡ false → digits_onto radix n (b ∷ bs) ≡ n
not_digit radix n b bs e = rw (e, digits_onto) refl

digit_read : (radix n b : ℕ) (bs : List ℕ) → is_digit b radix ≡ true → digits_onto radix n (b ∷ bs) ≡ digits_onto radix (n * radix + digit_value b) bs
digit_read radix n b bs e = rw (e, digits_onto) refl

digits_grow : (radix n : ℕ) (bytes : List ℕ) → 0 < radix → n ≤ digits_onto radix n bytes
digits_grow radix n [] some = omega arith
digits_grow radix n (b ∷ bs) some = elim (cases_Bool (is_digit b radix)) [
  | inl digit ↦
      let more : n * radix + digit_value b ≤ digits_onto radix (n * radix + digit_value b) bs = digits_grow radix (n * radix + digit_value b) bs some in
      let less : n ≤ n * radix = le-mul_of_pos_right n some in
      let same : digits_onto radix n (b ∷ bs) ≡ digits_onto radix (n * radix + digit_value b) bs = digit_read radix n b bs digit in
      omega arith
  | inr other ↦ let same : digits_onto radix n (b ∷ bs) ≡ n = not_digit radix n b bs other in omega arith
]

-- ---- digits from an index on

pub digits_stop : (radix n i : ℕ) (bytes : List ℕ) → digits_onto radix 0 bytes ≡ digits_onto radix n (drop i bytes) → n < 2 ^ 128 → i < length bytes → is_digit (get_or bytes i 0) radix ≡ false → Some n ≡ digits_of radix bytes
digits_stop radix n i bytes so_far fits within other =
    sym (ap bounded (so_far ∙ ap (digits_onto radix n) (drop-cons bytes i 0 within) ∙ not_digit radix n (get_or bytes i 0) (drop (suc i) bytes) other) ∙ bounded_below n fits)

pub digits_end : (radix n i : ℕ) (bytes : List ℕ) → digits_onto radix 0 bytes ≡ digits_onto radix n (drop i bytes) → n < 2 ^ 128 → length bytes ≤ i → Some n ≡ digits_of radix bytes
digits_end radix n i bytes so_far fits over =
    sym (ap bounded (so_far ∙ ap (digits_onto radix n) (drop_of_length-le bytes over)) ∙ bounded_below n fits)

pub digits_overflow : (radix n i : ℕ) (bytes : List ℕ) → digits_onto radix 0 bytes ≡ digits_onto radix n (drop i bytes) → 0 < radix → i < length bytes → is_digit (get_or bytes i 0) radix ≡ true → bounded (n * radix + digit_value (get_or bytes i 0)) ≡ None → digits_of radix bytes ≡ None
digits_overflow radix n i bytes so_far some within digit none =
    let more : 2 ^ 128 ≤ n * radix + digit_value (get_or bytes i 0) = from_bounded (n * radix + digit_value (get_or bytes i 0)) none in
    let grows : n * radix + digit_value (get_or bytes i 0) ≤ digits_onto radix (n * radix + digit_value (get_or bytes i 0)) (drop (suc i) bytes) =
    digits_grow radix (n * radix + digit_value (get_or bytes i 0)) (drop (suc i) bytes) some
    in
    let same : digits_onto radix 0 bytes ≡ digits_onto radix (n * radix + digit_value (get_or bytes i 0)) (drop (suc i) bytes) =
    so_far ∙ ap (digits_onto radix n) (drop-cons bytes i 0 within) ∙ digit_read radix n (get_or bytes i 0) (drop (suc i) bytes) digit
    in
    bounded_from (digits_onto radix 0 bytes) (omega arith)
