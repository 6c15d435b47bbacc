-- The longest digits with a suffix.
use Rattle.std.proofs.Common.{◌≡◌, ℕ, zero, suc, ◌+◌, ◌-◌, ◌<◌, ◌≤◌, Bool, true, false, ◌&&◌, List, [], ◌∷◌, length, take, drop, refl, sym, ap, subst, ◌∙◌, arith, length-take-le, length-drop, inl, inr}
use Rattle.std.specs.Prelude.{nat_le}
use Rattle.std.specs.List.{prefix_len}
use Rattle.std.proofs.lemmas.List.{drop-take}
use Rattle.std.proofs.lemmas.List.Sums.{prefix_len-le-length}
use Rattle.std.proofs.lemmas.Bool.{cases_Bool, false_from_ne_true, leb-true, le-leb, and_parts, cases_lt}
use Rattle.nesc_tokens.specs.Spelling.{suffixes, is_one_of, is_digits_and_suffix}
use Rattle.nesc_tokens.specs.Longest.{IsSuffix, IsDigits}
use Rattle.nesc_tokens.proofs.Runs.{one_of_all}

prefix_take : (p : ℕ → Bool) (xs : List ℕ) (m : ℕ) → prefix_len p xs ≤ m → prefix_len p (take m xs) ≡ prefix_len p xs
prefix_take p [] zero le = refl
prefix_take p [] (suc m) le = refl
prefix_take p (x ∷ xs) zero le = elim (cases_Bool (p x)) [
  | inl passes ↦ let big = rw passes at le in absurd (omega (arith, big))
  | inr fails ↦ rw fails refl
]
prefix_take p (x ∷ xs) (suc m) le = elim (cases_Bool (p x)) [
  | inl passes ↦ let le2 = rw passes at le in rw passes (ap (λ (n : ℕ). 1 + n) (prefix_take p xs m (omega (arith, le2))))
  | inr fails ↦ rw fails refl
]

-- what is behind the digits of a front
behind_digits : (p : ℕ → Bool) (xs : List ℕ) (n : ℕ) → is_digits_and_suffix p (take (prefix_len p xs + n) xs) ≡ is_one_of suffixes (take n (drop (prefix_len p xs) xs))
behind_digits p xs n =
    ap (λ (k : ℕ). is_one_of suffixes (drop k (take (prefix_len p xs + n) xs))) (prefix_take p xs (prefix_len p xs + n) (omega arith))
    ∙ ap (λ (l : List ℕ). is_one_of suffixes l) (drop-take (prefix_len p xs) n xs)

pub digits_are : (p : ℕ → Bool) (xs : List ℕ) (run n : ℕ) → run ≡ prefix_len p xs → IsSuffix n (drop run xs) → IsDigits p (run + n) xs
digits_are p xs run n run-is tail =
    let most = prefix_len-le-length p xs in
    record {
      within = omega (arith, tail.within, length-drop run xs, most, run-is);
      spelled = ap (λ (k : ℕ). is_digits_and_suffix p (take (k + n) xs)) run-is ∙ behind_digits p xs n ∙ ap (λ (k : ℕ). is_one_of suffixes (take n (drop k xs))) (sym run-is) ∙ tail.spelled;
      longest = λ m lt le.
          let at : prefix_len p xs + (m - run) ≡ m = omega (arith, run-is) in
          ap (λ (k : ℕ). is_digits_and_suffix p (take k xs)) (sym at) ∙ behind_digits p xs (m - run) ∙ ap (λ (k : ℕ). is_one_of suffixes (take (m - run) (drop k xs))) (sym run-is) ∙ tail.longest (m - run) (omega arith) (omega (arith, length-drop run xs));
    }

-- ---- suffixes

is_short : List ℕ → Bool
is_short bytes = nat_le (length bytes) 2

no_long_suffix : (bytes : List ℕ) → 2 < length bytes → is_one_of suffixes bytes ≡ false
unfolding suffixes is_short
no_long_suffix bytes long = false_from_ne_true _ (λ tokens_of_piece. let short : length bytes ≤ 2 = leb-true (length bytes) 2 (one_of_all is_short suffixes bytes refl tokens_of_piece) in omega arith)

abbrev Test : ℕ → List ℕ → Bool
Test m bytes = nat_le m (length bytes) && is_one_of suffixes (take m bytes)

past_two : (bytes : List ℕ) (m : ℕ) → 2 < m → m ≤ length bytes → is_one_of suffixes (take m bytes) ≡ false
past_two bytes m lt le = no_long_suffix (take m bytes) (omega (arith, length-take-le m bytes le))

not_suffix : (m : ℕ) (bytes : List ℕ) → Test m bytes ≡ false → m ≤ length bytes → is_one_of suffixes (take m bytes) ≡ false
not_suffix m bytes e le = let long : nat_le m (length bytes) ≡ true = le-leb m (length bytes) le in rw long at e

pub tail_two : (bytes : List ℕ) → Test 2 bytes ≡ true → IsSuffix 2 bytes
tail_two bytes e = let both = and_parts (nat_le 2 (length bytes)) (is_one_of suffixes (take 2 bytes)) e in record { within = leb-true 2 (length bytes) both.0; spelled = both.1; longest = past_two bytes }

pub tail_one : (bytes : List ℕ) → Test 2 bytes ≡ false → Test 1 bytes ≡ true → IsSuffix 1 bytes
tail_one bytes two e = let both = and_parts (nat_le 1 (length bytes)) (is_one_of suffixes (take 1 bytes)) e in record {
  within = leb-true 1 (length bytes) both.0;
  spelled = both.1;
  longest = λ m lt le. elim (cases_lt 2 m) [
    | inl more ↦ past_two bytes m more le
    | inr most ↦ let at : m ≡ 2 = omega arith in subst (λ (k : ℕ). is_one_of suffixes (take k bytes) ≡ false) (sym at) (not_suffix 2 bytes two (omega arith))
  ];
}

pub tail_none : (bytes : List ℕ) → Test 2 bytes ≡ false → Test 1 bytes ≡ false → IsSuffix 0 bytes
unfolding suffixes
tail_none bytes two one = record {
  within = omega arith;
  spelled = refl;
  longest = λ m lt le. elim (cases_lt 2 m) [
    | inl more ↦ past_two bytes m more le
    | inr most ↦ elim (cases_lt 1 m) [
      | inl more ↦ let at : m ≡ 2 = omega arith in subst (λ (k : ℕ). is_one_of suffixes (take k bytes) ≡ false) (sym at) (not_suffix 2 bytes two (omega arith))
      | inr least ↦ let at : m ≡ 1 = omega arith in subst (λ (k : ℕ). is_one_of suffixes (take k bytes) ≡ false) (sym at) (not_suffix 1 bytes one (omega arith))
    ]
  ];
}
