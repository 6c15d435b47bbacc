-- The kind of a lexeme is told by its first byte.
use Rattle.std.proofs.Common.{◌≡◌, ℕ, zero, suc, ◌<◌, ◌≤◌, Bool, true, false, cond, ◌&&◌, ◌||◌, List, [], ◌∷◌, length, take, Some, refl, sym, subst, ◌∙◌, arith, inl, inr}
use Rattle.std.specs.Prelude.{nat_le, ◌==◌, slice_index}
use Rattle.std.specs.Char.{is_ascii_digit}
use Rattle.std.proofs.lemmas.Bool.{cases_Bool, and_parts, or_cases, false_from_ne_true, eqb-true, leb-true}
use Rattle.std.proofs.lemmas.Bool.Decides.{nat_tests}
use Rattle.nm_base.specs.declared.token.Kind.{Kind}
use Rattle.nm_base.specs.declared.token.Kind.TheVariants.{Word, Number, Char, Text, Sign}
use Rattle.nesc_tokens.specs.CodePoints.{is_letter}
use Rattle.nesc_tokens.specs.Spelling.{is_one_of, is_word, signs, is_number, is_decimal, is_octal, is_hexadecimal, is_digits_and_suffix, is_quoted, is_char_body, is_text_body, spells}
use Rattle.nesc_tokens.specs.Longest.{kind_at, IsLongestOf, NoneOf, LongestOf}
use Rattle.nesc_tokens.specs.Lexes.{IsLongest}
use Rattle.nesc_tokens.proofs.Runs.{not_both, one_of_all}

digit_kind : (b : ℕ) → 48 ≤ b → b ≤ 57 → kind_at b ≡ Number
digit_kind b lo hi = grind (arith, nat_tests)

is_sign_kind : Kind → Bool
is_sign_kind Word = false
is_sign_kind Number = false
is_sign_kind Char = false
is_sign_kind Text = false
is_sign_kind Sign = true

begins_sign : List ℕ → Bool
begins_sign bytes = is_sign_kind (kind_at (slice_index bytes 0))

is_sign_kind_tells : (kind : Kind) → is_sign_kind kind ≡ true → kind ≡ Sign
unfolding is_sign_kind
is_sign_kind_tells Word e = absurd cc
is_sign_kind_tells Number e = absurd cc
is_sign_kind_tells Char e = absurd cc
is_sign_kind_tells Text e = absurd cc
is_sign_kind_tells Sign e = refl

sign_kind : (b : ℕ) (bs : List ℕ) → is_one_of signs (b ∷ bs) ≡ true → kind_at b ≡ Sign
unfolding begins_sign signs is_sign_kind
sign_kind b bs e = is_sign_kind_tells _ (one_of_all begins_sign signs (b ∷ bs) refl e)

word_kind : (b : ℕ) (bs : List ℕ) → is_word (b ∷ bs) ≡ true → kind_at b ≡ Word
word_kind b bs e = let letter : is_letter b ≡ true = (and_parts _ _ e).0 in rw letter refl

decimal_kind : (b : ℕ) (bs : List ℕ) → is_decimal (b ∷ bs) ≡ true → kind_at b ≡ Number
decimal_kind b bs e =
    let both = and_parts (nat_le 49 b && nat_le b 57) (is_digits_and_suffix is_ascii_digit bs) e in
    let range = and_parts (nat_le 49 b) (nat_le b 57) both.0 in
    digit_kind b (omega (arith, leb-true 49 b range.0)) (leb-true b 57 range.1)

octal_kind : (b : ℕ) (bs : List ℕ) → is_octal (b ∷ bs) ≡ true → kind_at b ≡ Number
octal_kind b bs e = let is : b ≡ 48 = eqb-true _ _ (and_parts _ _ e).0 in digit_kind b (omega arith) (omega arith)

hexadecimal_kind : (b : ℕ) (bs : List ℕ) → is_hexadecimal (b ∷ bs) ≡ true → kind_at b ≡ Number
hexadecimal_kind b [] e = absurd cc
hexadecimal_kind b (x ∷ []) e = absurd cc
hexadecimal_kind b (x ∷ d ∷ bs) e =
    let is : b ≡ 48 = eqb-true _ _ (and_parts _ _ (and_parts _ _ (and_parts _ _ e).0).0).0 in
    digit_kind b (omega arith) (omega arith)

number_kind : (b : ℕ) (bs : List ℕ) → is_number (b ∷ bs) ≡ true → kind_at b ≡ Number
number_kind b bs e =
    elim (or_cases (is_decimal (b ∷ bs) || is_octal (b ∷ bs)) (is_hexadecimal (b ∷ bs)) e) [
      | inl short ↦ elim (or_cases (is_decimal (b ∷ bs)) (is_octal (b ∷ bs)) short) [
        | inl dec ↦ decimal_kind b bs dec
        | inr oct ↦ octal_kind b bs oct
      ]
      | inr hex ↦ hexadecimal_kind b bs hex
    ]

-- the first byte of what is quoted
quoted_first : (quote : ℕ) (test : List ℕ → Bool) (b : ℕ) (bs : List ℕ) → is_quoted quote test (b ∷ bs) ≡ true → b ≡ quote
quoted_first quote test b bs e = eqb-true b quote (and_parts _ _ (and_parts _ _ (and_parts _ _ e).0).0).1

quote_kind : (b : ℕ) → b ≡ 39 → kind_at b ≡ Char
quote_kind b e = rw e refl

double_kind : (b : ℕ) → b ≡ 34 → kind_at b ≡ Text
double_kind b e = rw e refl

pub kind_is : (kind : Kind) (b : ℕ) (bs : List ℕ) → spells kind (b ∷ bs) ≡ true → kind_at b ≡ kind
kind_is Word b bs e = word_kind b bs e
kind_is Number b bs e = number_kind b bs e
kind_is Char b bs e = quote_kind b (quoted_first 39 is_char_body b bs e)
kind_is Text b bs e = double_kind b (quoted_first 34 is_text_body b bs e)
kind_is Sign b bs e = sign_kind b bs e

pub empty_is_none : (kind : Kind) → spells kind [] ≡ false
unfolding signs
empty_is_none Word = refl
empty_is_none Number = refl
empty_is_none Char = refl
empty_is_none Text = refl
empty_is_none Sign = refl

other_kind : (kind other : Kind) (m b : ℕ) (bs : List ℕ) → kind_at b ≡ kind → (spells kind (take m (b ∷ bs)) ≡ false) → spells other (take m (b ∷ bs)) ≡ false
other_kind kind other zero b bs at none = empty_is_none other
other_kind kind other (suc m) b bs at none = false_from_ne_true _ (λ tokens_of_piece. let same : kind ≡ other = sym at ∙ kind_is other b (take m bs) tokens_of_piece in not_both _ (subst (λ (k : Kind). spells k (b ∷ take m bs) ≡ true) (sym same) tokens_of_piece) none)

-- the longest of the one kind that can begin there is the longest
pub longest_alone : (kind : Kind) (n : ℕ) (bytes : List ℕ) → kind_at (slice_index bytes 0) ≡ kind → 0 < length bytes → IsLongestOf kind n bytes → IsLongest kind n bytes
longest_alone kind n [] at some is = absurd (omega arith)
longest_alone kind n (b ∷ bs) at some is = record { within = is.within; spelled = is.spelled; longest = λ other m lt le. other_kind kind other m b bs at (is.longest m lt le) }

pub none_alone : (kind : Kind) (bytes : List ℕ) → kind_at (slice_index bytes 0) ≡ kind → 0 < length bytes → NoneOf kind bytes → (other : Kind) (n : ℕ) → n ≤ length bytes → spells other (take n bytes) ≡ false
none_alone kind [] at some none = absurd (omega arith)
none_alone kind (b ∷ bs) at some none = λ other m le. other_kind kind other m b bs at (none m le)

pub longest_found : (kind : Kind) (n : ℕ) (bytes : List ℕ) → kind_at (slice_index bytes 0) ≡ kind → 0 < length bytes → LongestOf kind (Some n) bytes → (0 < n) × IsLongest kind n bytes
longest_found kind n bytes at some is = (is.some, longest_alone kind n bytes at some is)

-- ---- what the kind tells of the byte

not_word : (a b c : Bool) → cond a Number (cond b Char (cond c Text Sign)) ≡ Word → ⊥
not_word true b c e = cc
not_word false true c e = cc
not_word false false true e = cc
not_word false false false e = cc

pub letter_of : (b : ℕ) → kind_at b ≡ Word → is_letter b ≡ true
letter_of b e = elim (cases_Bool (is_letter b)) [
  | inl is ↦ is
  | inr is_not ↦ absurd (not_word (is_ascii_digit b) (b == 39) (b == 34) (rw is_not at e))
]

no_text : (b : ℕ) → (b == 34) ≡ false → kind_at b ≡ Text → ⊥
no_text b other e = let none = rw other at e in cases (is_letter b) (is_ascii_digit b) (b == 39) none
  where
    cases : (x y z : Bool) → cond x Word (cond y Number (cond z Char Sign)) ≡ Text → ⊥
    cases true y z e = cc
    cases false true z e = cc
    cases false false true e = cc
    cases false false false e = cc

pub quote_of : (b : ℕ) → kind_at b ≡ Text → b ≡ 34
quote_of b e = elim (cases_Bool (b == 34)) [
  | inl is ↦ eqb-true b 34 is
  | inr other ↦ absurd (no_text b other e)
]

no_digit : (b : ℕ) → is_ascii_digit b ≡ false → kind_at b ≡ Number → ⊥
no_digit b other e = let none = rw other at e in cases (is_letter b) (b == 39) (b == 34) none
  where
    cases : (x y z : Bool) → cond x Word (cond false Number (cond y Char (cond z Text Sign))) ≡ Number → ⊥
    cases true y z e = cc
    cases false true z e = cc
    cases false false true e = cc
    cases false false false e = cc

pub digit_of : (b : ℕ) → kind_at b ≡ Number → is_ascii_digit b ≡ true
digit_of b e = elim (cases_Bool (is_ascii_digit b)) [
  | inl is ↦ is
  | inr other ↦ absurd (no_digit b other e)
]
