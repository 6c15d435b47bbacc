-- The longest number at the front.
use Rattle.std.proofs.Common.{◌≡◌, ℕ, zero, suc, ◌+◌, ◌<◌, ◌≤◌, Bool, true, false, ◌&&◌, ◌||◌, List, [], ◌∷◌, length, take, drop, refl, sym, ap, subst, ◌∙◌, arith, inl, inr}
use Rattle.std.specs.Prelude.{slice_index, nat_le, ◌==◌}
use Rattle.std.specs.Char.{is_ascii_digit, is_ascii_hexdigit}
use Rattle.std.proofs.lemmas.Bool.{cases_order, and_parts, and_left, and_from, eqb-true, ne_eqb, le-leb, leb-true}
use Rattle.nm_base.specs.declared.token.Kind.TheVariants.{Number}
use Rattle.nesc_tokens.specs.CodePoints.{is_octal_digit, is_nonzero_digit}
use Rattle.nesc_tokens.specs.Spelling.{is_number, is_octal, is_hexadecimal, is_digits_and_suffix, suffixes}
use Rattle.nesc_tokens.specs.Longest.{IsDigits, IsLongestOf, begins_hexadecimal, kind_at}
use Rattle.nesc_tokens.proofs.LexemeKinds.{digit_of}

no_hexadecimal : (b : ℕ) (bs : List ℕ) → (b == 48) ≡ false → is_hexadecimal (b ∷ bs) ≡ false
no_hexadecimal b [] other = refl
no_hexadecimal b (x ∷ []) other = refl
no_hexadecimal b (x ∷ d ∷ bs) other = and_left _ _ (and_left _ _ (and_left _ _ other))

-- ---- decimal

decimal_fronts : (b : ℕ) (bs : List ℕ) → is_nonzero_digit b ≡ true → (b == 48) ≡ false → is_number (b ∷ bs) ≡ is_digits_and_suffix is_ascii_digit bs
decimal_fronts b bs digit other = rw (digit, other, no_hexadecimal b bs other) (or_two (is_digits_and_suffix is_ascii_digit bs))
  where
    or_two : (x : Bool) → (x || false || false) ≡ x
    or_two true = refl
    or_two false = refl

-- where a number's fronts are told by the digits behind its first byte
by_digits : (digit : ℕ → Bool) (b : ℕ) (bs : List ℕ) (n : ℕ) → ((k : ℕ) → is_number (b ∷ take k bs) ≡ is_digits_and_suffix digit (take k bs)) → IsDigits digit n bs → IsLongestOf Number (1 + n) (b ∷ bs)
by_digits digit b bs n fronts digits = record {
  some = omega arith;
  within = omega (arith, digits.within);
  spelled = let next : 1 + n ≡ suc n = omega arith in ap (λ (k : ℕ). is_number (take k (b ∷ bs))) next ∙ fronts n ∙ digits.spelled;
  longest = longer digit b bs n fronts digits;
}
  where
    longer : (digit : ℕ → Bool) (b : ℕ) (bs : List ℕ) (n : ℕ) → ((k : ℕ) → is_number (b ∷ take k bs) ≡ is_digits_and_suffix digit (take k bs)) → IsDigits digit n bs → (m : ℕ) → 1 + n < m → m ≤ length (b ∷ bs) → is_number (take m (b ∷ bs)) ≡ false
    longer digit b bs n fronts digits zero lt le = absurd (omega arith)
    longer digit b bs n fronts digits (suc m) lt le = fronts m ∙ digits.longest m (omega arith) (omega arith)

nonzero : (b : ℕ) → is_ascii_digit b ≡ true → (b ≡ 48 → ⊥) → is_nonzero_digit b ≡ true
nonzero b digit other =
    let range = and_parts (nat_le 48 b) (nat_le b 57) digit in
    let low : 48 ≤ b = leb-true 48 b range.0 in
    let more : 49 ≤ b = elim (cases_order 48 b) [
      | inl same ↦ absurd (other (sym same))
      | inr (inl less) ↦ omega arith
      | inr (inr above) ↦ omega arith
    ] in
    and_from (nat_le 49 b) (nat_le b 57) (le-leb 49 b more) range.1

pub decimal_longest : (bytes rest : List ℕ) (n : ℕ) → rest ≡ drop 1 bytes → 0 < length bytes → kind_at (slice_index bytes 0) ≡ Number → (slice_index bytes 0 ≡ 48 → ⊥) → IsDigits is_ascii_digit n rest → IsLongestOf Number (1 + n) bytes
decimal_longest [] rest n is some at other digits = absurd (omega arith)
decimal_longest (b ∷ bs) rest n is some at other digits =
    let digit = nonzero b (digit_of b at) other in
    by_digits is_ascii_digit b bs n (λ k. decimal_fronts b (take k bs) digit (ne_eqb b 48 other)) (subst (λ (l : List ℕ). IsDigits is_ascii_digit n l) is digits)

-- ---- octal

octal_front : (bs : List ℕ) (k : ℕ) → begins_hexadecimal (48 ∷ bs) ≡ false → is_hexadecimal (48 ∷ take k bs) ≡ false
octal_front bs zero none = refl
octal_front [] (suc k) none = refl
octal_front (x ∷ bs) (suc zero) none = refl
octal_front (x ∷ []) (suc (suc k)) none = refl
octal_front (x ∷ d ∷ bs) (suc (suc k)) none =
    let long : nat_le 3 (length (48 ∷ x ∷ d ∷ bs)) ≡ true = le-leb 3 (length (48 ∷ x ∷ d ∷ bs)) (omega arith) in
    let here : (x == 120 && is_ascii_hexdigit d) ≡ false = rw long at none in
    and_left _ _ here

octal_fronts : (bs : List ℕ) (k : ℕ) → begins_hexadecimal (48 ∷ bs) ≡ false → is_number (48 ∷ take k bs) ≡ is_digits_and_suffix is_octal_digit (take k bs)
octal_fronts bs k none = rw (octal_front bs k none) (or_one (is_digits_and_suffix is_octal_digit (take k bs)))
  where
    or_one : (x : Bool) → (x || false) ≡ x
    or_one true = refl
    or_one false = refl

pub octal_longest : (bytes rest : List ℕ) (n : ℕ) → rest ≡ drop 1 bytes → 0 < length bytes → slice_index bytes 0 ≡ 48 → begins_hexadecimal bytes ≡ false → IsDigits is_octal_digit n rest → IsLongestOf Number (1 + n) bytes
octal_longest [] rest n is some zero-first none digits = absurd (omega arith)
octal_longest (b ∷ bs) rest n is some zero-first none digits =
    let none-here : begins_hexadecimal (48 ∷ bs) ≡ false = ap (λ (x : ℕ). begins_hexadecimal (x ∷ bs)) (sym zero-first) ∙ none in
    subst (λ (x : ℕ). IsLongestOf Number (1 + n) (x ∷ bs)) (sym zero-first) (by_digits is_octal_digit 48 bs n (λ k. octal_fronts bs k none-here) (subst (λ (l : List ℕ). IsDigits is_octal_digit n l) is digits))

-- ---- hexadecimal

no_octal : (d : ℕ) (ds : List ℕ) → is_octal (48 ∷ 120 ∷ d ∷ ds) ≡ false
unfolding suffixes
no_octal d ds = refl

hexadecimal_fronts : (d : ℕ) (ds : List ℕ) → is_ascii_hexdigit d ≡ true → is_number (48 ∷ 120 ∷ d ∷ ds) ≡ is_digits_and_suffix is_ascii_hexdigit ds
hexadecimal_fronts d ds digit = rw (no_octal d ds, digit) refl

hexadecimal_here : (d : ℕ) (ds : List ℕ) (n : ℕ) → is_ascii_hexdigit d ≡ true → IsDigits is_ascii_hexdigit n ds → IsLongestOf Number (3 + n) (48 ∷ 120 ∷ d ∷ ds)
hexadecimal_here d ds n digit digits = record {
  some = omega arith;
  within = omega (arith, digits.within);
  spelled = let next : 3 + n ≡ suc (suc (suc n)) = omega arith in ap (λ (k : ℕ). is_number (take k (48 ∷ 120 ∷ d ∷ ds))) next ∙ hexadecimal_fronts d (take n ds) digit ∙ digits.spelled;
  longest = longer d ds n digit digits;
}
  where
    longer : (d : ℕ) (ds : List ℕ) (n : ℕ) → is_ascii_hexdigit d ≡ true → IsDigits is_ascii_hexdigit n ds → (m : ℕ) → 3 + n < m → m ≤ length (48 ∷ 120 ∷ d ∷ ds) → is_number (take m (48 ∷ 120 ∷ d ∷ ds)) ≡ false
    longer d ds n digit digits zero lt le = absurd (omega arith)
    longer d ds n digit digits (suc zero) lt le = absurd (omega arith)
    longer d ds n digit digits (suc (suc zero)) lt le = absurd (omega arith)
    longer d ds n digit digits (suc (suc (suc m))) lt le = hexadecimal_fronts d (take m ds) digit ∙ digits.longest m (omega arith) (omega arith)

pub hexadecimal_longest : (bytes rest : List ℕ) (n : ℕ) → rest ≡ drop 3 bytes → begins_hexadecimal bytes ≡ true → IsDigits is_ascii_hexdigit n rest → IsLongestOf Number (3 + n) bytes
hexadecimal_longest [] rest n is begun digits = absurd cc
hexadecimal_longest (b ∷ []) rest n is begun digits = absurd cc
hexadecimal_longest (b ∷ x ∷ []) rest n is begun digits = absurd cc
hexadecimal_longest (b ∷ x ∷ d ∷ ds) rest n is begun digits =
    let parts = and_parts _ (is_ascii_hexdigit d) begun in
    let pair = and_parts _ (x == 120) parts.0 in
    let first = and_parts (nat_le 3 (length (b ∷ x ∷ d ∷ ds))) (b == 48) pair.0 in
    let is-b : b ≡ 48 = eqb-true b 48 first.1 in
    let is-x : x ≡ 120 = eqb-true x 120 pair.1 in
    subst (λ (y : ℕ). IsLongestOf Number (3 + n) (y ∷ x ∷ d ∷ ds)) (sym is-b) (subst (λ (y : ℕ). IsLongestOf Number (3 + n) (48 ∷ y ∷ d ∷ ds)) (sym is-x) (hexadecimal_here d ds n parts.1 (subst (λ (l : List ℕ). IsDigits is_ascii_hexdigit n l) is digits)))
