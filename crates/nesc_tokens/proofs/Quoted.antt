-- Fronts of the bytes that are quoted.
use Rattle.std.proofs.Common.{◌≡◌, ℕ, ◌+◌, ◌-◌, ◌<◌, ◌≤◌, Bool, true, false, ◌&&◌, List, [], ◌∷◌, length, take, drop, refl, sym, ap, subst, ◌∙◌, arith, inl, inr, length-drop, length-take-le}
use Rattle.std.specs.Prelude.{slice_index, nat_lt, nat_le, ◌==◌}
use Rattle.std.proofs.lemmas.List.{drop-take, take-take, get_or-take, get_or-drop, length-take}
use Rattle.std.proofs.lemmas.Bool.{cases_order, cases_lt, and_parts, and_left, and_right, and_from, eq-eqb, le-leb, lt-leb, ltb-true, lt-ltb}
use Rattle.nm_base.specs.declared.token.Kind.TheVariants.{Text}
use Rattle.nesc_tokens.specs.Spelling.{is_quoted, is_text_body, is_char_body}
use Rattle.nesc_tokens.specs.Longest.{IsTextRun, IsLongestOf, NoneOf}

short_quoted : (quote : ℕ) (test : List ℕ → Bool) (m : ℕ) (bytes : List ℕ) → m < 2 → is_quoted quote test (take m bytes) ≡ false
short_quoted quote test m bytes lt =
    let short : nat_le 2 (length (take m bytes)) ≡ false = lt-leb 2 (length (take m bytes)) (omega (arith, length-take m bytes)) in
    and_left _ _ (and_left _ _ (and_left _ _ short))

-- the quotes and what is between them, in a front of j + 2 bytes
quoted_at : (quote : ℕ) (test : List ℕ → Bool) (j : ℕ) (bytes : List ℕ) → j + 2 ≤ length bytes → is_quoted quote test (take (j + 2) bytes) ≡ (slice_index bytes 0 == quote && slice_index bytes (j + 1) == quote && test (take j (drop 1 bytes)))
quoted_at quote test j bytes le =
    let len : length (take (j + 2) bytes) ≡ j + 2 = length-take-le (j + 2) bytes le in
    let long : nat_le 2 (length (take (j + 2) bytes)) ≡ true = le-leb 2 (length (take (j + 2) bytes)) (omega arith) in
    let last : length (take (j + 2) bytes) - 1 ≡ j + 1 = omega arith in
    let inner : length (take (j + 2) bytes) - 2 ≡ j = omega arith in
    let first-is : slice_index (take (j + 2) bytes) 0 ≡ slice_index bytes 0 = get_or-take (j + 2) bytes 0 0 (omega arith) in
    let last-is : slice_index (take (j + 2) bytes) (length (take (j + 2) bytes) - 1) ≡ slice_index bytes (j + 1) = ap (slice_index (take (j + 2) bytes)) last ∙ get_or-take (j + 2) bytes (j + 1) 0 (omega arith) in
    let regroup : j + 2 ≡ 1 + (j + 1) = omega arith in
    let tail : drop 1 (take (j + 2) bytes) ≡ take (j + 1) (drop 1 bytes) = ap (λ (n : ℕ). drop 1 (take n bytes)) regroup ∙ drop-take 1 (j + 1) bytes in
    let body : take (length (take (j + 2) bytes) - 2) (drop 1 (take (j + 2) bytes)) ≡ take j (drop 1 bytes) = (λ i. take (inner i) (tail i)) ∙ take-take j (j + 1) (drop 1 bytes) (omega arith) in
    λ i. long i && first-is i == quote && last-is i == quote && test (body i)

-- a longest front is told by the places of the closing quote
other_quoted : (quote : ℕ) (test : List ℕ → Bool) (bytes : List ℕ) (m : ℕ) → m ≤ length bytes → ((j : ℕ) → j + 2 ≡ m → (slice_index bytes (j + 1) == quote && test (take j (drop 1 bytes))) ≡ false) → is_quoted quote test (take m bytes) ≡ false
other_quoted quote test bytes m le none = elim (cases_lt m 2) [
  | inl short ↦ short_quoted quote test m bytes short
  | inr long ↦
      let is : m - 2 + 2 ≡ m = omega arith in
      let here = none (m - 2) is in
      ap (λ (k : ℕ). is_quoted quote test (take k bytes)) (sym is) ∙ quoted_at quote test (m - 2) bytes (omega arith) ∙ regroup_false (slice_index bytes 0 == quote) (slice_index bytes (m - 2 + 1) == quote) (test (take (m - 2) (drop 1 bytes))) here
]
  where
    regroup_false : (a b c : Bool) → (b && c) ≡ false → (a && b && c) ≡ false
    regroup_false true b c e = e
    regroup_false false b c e = refl

-- ---- text literals

behind_run : (n j : ℕ) (xs : List ℕ) → n < j → j ≤ length xs → IsTextRun n xs → is_text_body (take j xs) ≡ false
behind_run n j xs lt le run =
    let place : n + (j - n) ≡ j = omega arith in
    ap (λ (k : ℕ). is_text_body (take k xs)) (sym place) ∙ run.0.neutral (j - n) ∙ run.1 (j - n) (omega arith) (omega (arith, length-drop n xs))

pub text_found : (bytes xs : List ℕ) (n : ℕ) → xs ≡ drop 1 bytes → IsTextRun n xs → slice_index bytes 0 ≡ 34 → (nat_lt (n + 1) (length bytes) && slice_index bytes (n + 1) == 34) ≡ true → IsLongestOf Text (n + 2) bytes
text_found bytes xs n is run first closed =
    let both = and_parts (nat_lt (n + 1) (length bytes)) (slice_index bytes (n + 1) == 34) closed in
    let within : n + 1 < length bytes = ltb-true (n + 1) (length bytes) both.0 in
    let run-here : IsTextRun n (drop 1 bytes) = subst (IsTextRun n) is run in
    let body : is_text_body (take n (drop 1 bytes)) ≡ true = ap (λ (k : ℕ). is_text_body (take k (drop 1 bytes))) (sym-plus n) ∙ run-here.0.neutral 0 in
    record {
      some = omega arith;
      within = omega arith;
      spelled = quoted_at 34 is_text_body n bytes (omega arith) ∙ and_from _ _ (and_from _ _ (eq-eqb (slice_index bytes 0) 34 first) both.1) body;
      longest = λ m lt le. other_quoted 34 is_text_body bytes m le (λ j is-j. and_right _ _ (behind_run n j (drop 1 bytes) (omega arith) (omega (arith, length-drop 1 bytes)) run-here));
    }
  where
    sym-plus : (n : ℕ) → n ≡ n + 0
    sym-plus n = omega arith

pub text_none : (bytes xs : List ℕ) (n : ℕ) → xs ≡ drop 1 bytes → IsTextRun n xs → (nat_lt (n + 1) (length bytes) && slice_index bytes (n + 1) == 34) ≡ false → NoneOf Text bytes
text_none bytes xs n is run open_ m le =
    let run-here : IsTextRun n (drop 1 bytes) = subst (IsTextRun n) is run in
    other_quoted 34 is_text_body bytes m le (λ j is-j. elim (cases_order j n) [
      | inl same ↦
          let within : nat_lt (n + 1) (length bytes) ≡ true = lt-ltb (n + 1) (length bytes) (omega arith) in
          let no-quote : (slice_index bytes (n + 1) == 34) ≡ false = rw within at open_ in
          and_left _ _ (ap (λ (k : ℕ). slice_index bytes (k + 1) == 34) same ∙ no-quote)
      | inr (inl before) ↦ ap (λ (b : ℕ). b == 34 && is_text_body (take j (drop 1 bytes))) (behind_first bytes j) ∙ run-here.0.unclosed j before
      | inr (inr behind) ↦ and_right _ _ (behind_run n j (drop 1 bytes) behind (omega (arith, length-drop 1 bytes)) run-here)
    ])
  where
    behind_first : (bytes : List ℕ) (j : ℕ) → slice_index bytes (j + 1) ≡ slice_index (drop 1 bytes) j
    behind_first bytes j = let regroup : j + 1 ≡ 1 + j = omega arith in ap (slice_index bytes) regroup ∙ sym (get_or-drop 1 bytes j 0)

-- ---- character literals

long_char_body : (bytes : List ℕ) → 4 < length bytes → is_char_body bytes ≡ false
long_char_body [] long = refl
long_char_body (a ∷ []) long = absurd (omega arith)
long_char_body (a ∷ b ∷ []) long = absurd (omega arith)
long_char_body (a ∷ b ∷ c ∷ []) long = absurd (omega arith)
long_char_body (a ∷ b ∷ c ∷ d ∷ []) long = absurd (omega arith)
long_char_body (a ∷ b ∷ c ∷ d ∷ e ∷ bs) long = and_right _ _ refl

pub long_character : (bytes : List ℕ) (m : ℕ) → 6 < m → m ≤ length bytes → is_quoted 39 is_char_body (take m bytes) ≡ false
long_character bytes m long le = other_quoted 39 is_char_body bytes m le (λ j is-j.
    let inner : length (take j (drop 1 bytes)) ≡ j = length-take-le j (drop 1 bytes) (omega (arith, length-drop 1 bytes)) in
    and_right _ _ (long_char_body (take j (drop 1 bytes)) (omega arith)))
