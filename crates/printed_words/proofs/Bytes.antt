-- Bytes of tokens.
use Rattle.std.proofs.Common.{◌≡◌, ℕ, Bool, true, false, ◌&&◌, ◌||◌, List, [], ◌∷◌, ◌++◌, refl, arith, inl, inr, one-add}
use Rattle.std.specs.Prelude.{◌==◌, nat_le}
use Rattle.std.specs.List.{list_all}
use Rattle.std.specs.Char.{is_ascii_digit, is_ascii_hexdigit}
use Rattle.std.proofs.lemmas.Bool.{cases_Bool, and_parts, and_from, or_left, or_right, or_cases, leb-true, eqb-true}
use Rattle.std.proofs.lemmas.Bool.Decides.{nat_tests}
use Rattle.nesc_tokens.specs.CodePoints.{is_letter, is_word_byte, is_octal_digit}
use Rattle.nesc_tokens.specs.Spelling.{suffixes, is_word, is_number, is_decimal, is_octal, is_hexadecimal, is_digits_and_suffix}
use Rattle.nesc_tokens.proofs.Runs.{not_both, one_of_all}
use Rattle.printed_words.specs.LaidOut.{is_apart, may_follow}

-- ---- lists of bytes

pub all_at : (p : ℕ → Bool) (xs : List ℕ) (b : ℕ) (ys : List ℕ) → list_all p (xs ++ b ∷ ys) ≡ true → p b ≡ true
all_at p [] b ys all = (and_parts _ _ all).0
all_at p (x ∷ xs) b ys all = all_at p xs b ys (and_parts (p x) _ all).1

-- ---- words and numbers are made of the bytes of words

word_digit : (b : ℕ) → is_ascii_digit b ≡ true → is_word_byte b ≡ true
word_digit b is = or_right (is_letter b) (is_ascii_digit b) is

word_octal : (b : ℕ) → is_octal_digit b ≡ true → is_word_byte b ≡ true
word_octal b is =
    let both = and_parts (nat_le 48 b) (nat_le b 55) is in
    let low = leb-true 48 b both.0 in
    let high = leb-true b 55 both.1 in
    grind (arith, nat_tests)

word_hexadecimal : (b : ℕ) → is_ascii_hexdigit b ≡ true → is_word_byte b ≡ true
word_hexadecimal b is = grind (arith, nat_tests)

digits_all : (digit : ℕ → Bool) → ((b : ℕ) → digit b ≡ true → is_word_byte b ≡ true) → (xs : List ℕ) → is_digits_and_suffix digit xs ≡ true → list_all is_word_byte xs ≡ true
unfolding suffixes
digits_all digit of [] is = refl
digits_all digit of (x ∷ xs) is = elim (cases_Bool (digit x)) [
  | inl passes ↦ and_from _ _ (of x passes) (digits_all digit of xs (rw (passes, one-add) at is))
  | inr fails ↦ one_of_all (list_all is_word_byte) suffixes (x ∷ xs) refl (rw fails at is)
]

decimal_all : (xs : List ℕ) → is_decimal xs ≡ true → list_all is_word_byte xs ≡ true
decimal_all [] is = refl
decimal_all (b ∷ bs) is =
    let both = and_parts (nat_le 49 b && nat_le b 57) (is_digits_and_suffix is_ascii_digit bs) is in
    let range = and_parts (nat_le 49 b) (nat_le b 57) both.0 in
    let low = leb-true 49 b range.0 in
    let high = leb-true b 57 range.1 in
    let first : is_word_byte b ≡ true = grind (arith, nat_tests) in
    and_from _ _ first (digits_all is_ascii_digit word_digit bs both.1)

octal_all : (xs : List ℕ) → is_octal xs ≡ true → list_all is_word_byte xs ≡ true
octal_all [] is = refl
octal_all (b ∷ bs) is =
    let both = and_parts (b == 48) (is_digits_and_suffix is_octal_digit bs) is in
    let at : b ≡ 48 = eqb-true b 48 both.0 in
    let first : is_word_byte b ≡ true = rw at refl in
    and_from _ _ first (digits_all is_octal_digit word_octal bs both.1)

hexadecimal_all : (xs : List ℕ) → is_hexadecimal xs ≡ true → list_all is_word_byte xs ≡ true
hexadecimal_all [] is = refl
hexadecimal_all (z ∷ []) is = absurd cc
hexadecimal_all (z ∷ x ∷ []) is = absurd cc
hexadecimal_all (z ∷ x ∷ d ∷ bs) is =
    let last = and_parts (z == 48 && x == 120 && is_ascii_hexdigit d) (is_digits_and_suffix is_ascii_hexdigit bs) is in
    let third = and_parts (z == 48 && x == 120) (is_ascii_hexdigit d) last.0 in
    let second = and_parts (z == 48) (x == 120) third.0 in
    let at : z ≡ 48 = eqb-true z 48 second.0 in
    let by : x ≡ 120 = eqb-true x 120 second.1 in
    let first : is_word_byte z ≡ true = rw at refl in
    let next : is_word_byte x ≡ true = rw by refl in
    and_from _ _ first (and_from _ _ next (and_from _ _ (word_hexadecimal d third.1) (digits_all is_ascii_hexdigit word_hexadecimal bs last.1)))

pub number_all : (xs : List ℕ) → is_number xs ≡ true → list_all is_word_byte xs ≡ true
number_all xs is = elim (or_cases (is_decimal xs || is_octal xs) (is_hexadecimal xs) is) [
  | inl short ↦ elim (or_cases (is_decimal xs) (is_octal xs) short) [
    | inl one ↦ decimal_all xs one
    | inr one ↦ octal_all xs one
  ]
  | inr one ↦ hexadecimal_all xs one
]

pub word_all : (xs : List ℕ) → is_word xs ≡ true → list_all is_word_byte xs ≡ true
word_all [] is = refl
word_all (b ∷ bs) is = let both = and_parts (is_letter b) (list_all is_word_byte bs) is in and_from _ _ (or_left (is_letter b) _ both.0) both.1

-- behind them stands no byte of a word
behind_word_byte : (a b : ℕ) → is_word_byte a ≡ true → is_apart a b ≡ true → is_word_byte b ≡ false
behind_word_byte a b word apart = elim (cases_Bool (is_word_byte b)) [
  | inl is ↦ let e = rw (word, is) at apart in absurd cc
  | inr is_not ↦ is_not
]

pub behind_word : (x : ℕ) (xs : List ℕ) (b : ℕ) → list_all is_word_byte (x ∷ xs) ≡ true → may_follow (x ∷ xs) b ≡ true → is_word_byte b ≡ false
behind_word x [] b all apart = behind_word_byte x b (and_parts (is_word_byte x) _ all).0 apart
behind_word x (y ∷ xs) b all apart = behind_word y xs b (and_parts (is_word_byte x) _ all).1 apart

pub never_word : (x : ℕ) (xs : List ℕ) (b : ℕ) (tail : List ℕ) → list_all is_word_byte (x ∷ xs) ≡ true → may_follow (x ∷ xs) b ≡ true → list_all is_word_byte ((x ∷ xs) ++ b ∷ tail) ≡ true → ⊥
never_word x xs b tail all apart longer = not_both (is_word_byte b) (all_at is_word_byte (x ∷ xs) b tail longer) (behind_word x xs b all apart)
