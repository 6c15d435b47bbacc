-- Text literals, one byte or escape at a time.
use Rattle.std.proofs.Common.{◌≡◌, ℕ, zero, suc, ◌+◌, ◌-◌, ◌<◌, ◌≤◌, Bool, true, false, ◌&&◌, ◌||◌, List, [], ◌∷◌, length, take, drop, refl, sym, ap, subst, ◌∙◌, arith, inl, inr, length-drop}
use Rattle.std.specs.Prelude.{slice_index, nat_le, ◌==◌}
use Rattle.std.specs.Char.{is_ascii_hexdigit}
use Rattle.std.proofs.lemmas.List.{drop-drop, get_or-drop}
use Rattle.std.proofs.lemmas.Bool.{cases_lt, and_parts, and_left, and_right, or_parts, or_cases, not-true, le-leb, leb-true}
use Rattle.nesc_tokens.specs.CodePoints.{is_octal_digit, is_plain}
use Rattle.nesc_tokens.specs.Spelling.{is_escape, is_text_body, is_one_of, simple_escapes}
use Rattle.nesc_tokens.specs.Longest.{IsTextItem, NoTextItem, TextItem}

-- ---- a body by its first byte or escape

body_plain : (a : ℕ) (bs : List ℕ) → is_plain 34 a ≡ true → is_text_body (a ∷ bs) ≡ is_text_body bs
body_plain a [] plain = plain
body_plain a (b ∷ []) plain = rw (plain, is_text_body) refl
body_plain a (b ∷ c ∷ bs) plain = rw (plain, is_text_body) refl

body_simple : (b : ℕ) (bs : List ℕ) → is_escape (b ∷ []) ≡ true → is_text_body (92 ∷ b ∷ bs) ≡ is_text_body bs
body_simple b [] escape = escape
body_simple b (c ∷ bs) escape = rw (escape, is_text_body) refl

-- where one byte behind the backslash is no escape and two are one, they are `x` and a hexadecimal digit
hexadecimal_escape : (b c : ℕ) → is_escape (b ∷ []) ≡ false → is_escape (b ∷ c ∷ []) ≡ true → (b == 120 && is_ascii_hexdigit c) ≡ true
hexadecimal_escape b c short long = elim (or_cases (is_octal_digit b && is_octal_digit c) (b == 120 && is_ascii_hexdigit c) long) [
  | inl octal ↦ absurd (let digit = (and_parts (is_octal_digit b) (is_octal_digit c) octal).0 in let none = (or_parts (is_one_of simple_escapes (b ∷ [])) (is_octal_digit b) short).1 in cc)
  | inr is ↦ is
]

body_hexadecimal : (b c : ℕ) (bs : List ℕ) → is_escape (b ∷ []) ≡ false → is_escape (b ∷ c ∷ []) ≡ true → is_text_body (92 ∷ b ∷ c ∷ bs) ≡ is_text_body bs
body_hexadecimal b c bs short long = let is = hexadecimal_escape b c short long in rw (short, is_text_body) (rw is refl)

body_bad : (a : ℕ) (bs : List ℕ) → is_plain 34 a ≡ false → (a == 92) ≡ false → is_text_body (a ∷ bs) ≡ false
body_bad a [] plain back = plain
body_bad a (b ∷ []) plain back = rw (plain, is_text_body) (rw back refl)
body_bad a (b ∷ c ∷ bs) plain back = rw (plain, is_text_body) (rw (back, is_text_body) (rw back refl))

body_no_escape : (b : ℕ) (c : ℕ) (bs : List ℕ) → is_escape (b ∷ []) ≡ false → is_escape (b ∷ c ∷ []) ≡ false → is_text_body (92 ∷ b ∷ c ∷ bs) ≡ false
body_no_escape b c bs short long =
    let none : (b == 120 && is_ascii_hexdigit c) ≡ false = (or_parts (is_octal_digit b && is_octal_digit c) (b == 120 && is_ascii_hexdigit c) long).1 in
    rw (short, is_text_body) (rw none refl)

-- ---- items

plain_no_quote : (a : ℕ) → is_plain 34 a ≡ true → (a == 34) ≡ false
plain_no_quote a plain = (or_parts (a == 34) (a == 92) (or_parts (a == 34 || a == 92) (a == 10) (not-true _ plain)).0).0

plain_item : (a : ℕ) (bs : List ℕ) → is_plain 34 a ≡ true → IsTextItem 1 (a ∷ bs)
plain_item a bs plain = record {
  within = omega arith;
  neutral = λ k. let next : 1 + k ≡ suc k = omega arith in rw next (body_plain a (take k bs) plain);
  unclosed = λ k lt. let first : k ≡ 0 = omega arith in rw first (and_left _ _ (plain_no_quote a plain));
}

simple_item : (b : ℕ) (bs : List ℕ) → is_escape (b ∷ []) ≡ true → IsTextItem 2 (92 ∷ b ∷ bs)
simple_item b bs escape = record {
  within = omega arith;
  neutral = λ k. let next : 2 + k ≡ suc (suc k) = omega arith in rw next (body_simple b (take k bs) escape);
  unclosed = λ k lt. below_two b bs k lt;
}
  where
    below_two : (b : ℕ) (bs : List ℕ) (k : ℕ) → k < 2 → (slice_index (92 ∷ b ∷ bs) k == 34 && is_text_body (take k (92 ∷ b ∷ bs))) ≡ false
    below_two b bs zero lt = refl
    below_two b bs (suc zero) lt = and_right _ _ refl
    below_two b bs (suc (suc k)) lt = absurd (omega arith)

below_three : (b c : ℕ) (bs : List ℕ) (k : ℕ) → is_escape (b ∷ []) ≡ false → k < 3 → (slice_index (92 ∷ b ∷ c ∷ bs) k == 34 && is_text_body (take k (92 ∷ b ∷ c ∷ bs))) ≡ false
below_three b c bs zero short lt = refl
below_three b c bs (suc zero) short lt = and_right _ _ refl
below_three b c bs (suc (suc zero)) short lt = and_right _ _ short
below_three b c bs (suc (suc (suc k))) short lt = absurd (omega arith)

hexadecimal_item : (b c : ℕ) (bs : List ℕ) → is_escape (b ∷ []) ≡ false → is_escape (b ∷ c ∷ []) ≡ true → IsTextItem 3 (92 ∷ b ∷ c ∷ bs)
hexadecimal_item b c bs short long = record {
  within = omega arith;
  neutral = λ k. let next : 3 + k ≡ suc (suc (suc k)) = omega arith in rw next (body_hexadecimal b c (take k bs) short long);
  unclosed = λ k lt. below_three b c bs k short lt;
}

-- ---- the same, by the tests of the code

pub item_plain : (l : List ℕ) → (length l == 0) ≡ false → is_plain 34 (slice_index l 0) ≡ true → IsTextItem 1 l
item_plain [] some plain = absurd cc
item_plain (a ∷ bs) some plain = plain_item a bs plain

pub item_simple : (l : List ℕ) → 2 ≤ length l → slice_index l 0 ≡ 92 → is_escape (take 1 (drop 1 l)) ≡ true → IsTextItem 2 l
item_simple [] some back escape = absurd (omega arith)
item_simple (a ∷ []) some back escape = absurd (omega arith)
item_simple (a ∷ b ∷ bs) some back escape = subst (λ (x : ℕ). IsTextItem 2 (x ∷ b ∷ bs)) (sym back) (simple_item b bs escape)

pub item_hexadecimal : (l : List ℕ) → 3 ≤ length l → slice_index l 0 ≡ 92 → is_escape (take 1 (drop 1 l)) ≡ false → is_escape (take 2 (drop 1 l)) ≡ true → IsTextItem 3 l
item_hexadecimal [] some back short long = absurd (omega arith)
item_hexadecimal (a ∷ []) some back short long = absurd (omega arith)
item_hexadecimal (a ∷ b ∷ []) some back short long = absurd (omega arith)
item_hexadecimal (a ∷ b ∷ c ∷ bs) some back short long = subst (λ (x : ℕ). IsTextItem 3 (x ∷ b ∷ c ∷ bs)) (sym back) (hexadecimal_item b c bs short long)

pub no_item_empty : (l : List ℕ) → length l ≡ 0 → NoTextItem l
no_item_empty l none k some le = absurd (omega arith)

pub no_item_bad : (l : List ℕ) → is_plain 34 (slice_index l 0) ≡ false → (slice_index l 0 == 92) ≡ false → NoTextItem l
no_item_bad [] plain back k some le = absurd (let e : length {A = ℕ} [] ≡ 0 = refl in omega (arith, e, some, le))
no_item_bad (a ∷ bs) plain back zero some le = absurd (omega arith)
no_item_bad (a ∷ bs) plain back (suc k) some le = body_bad a (take k bs) plain back

no_escape_front : (b : ℕ) (bs : List ℕ) → is_escape (b ∷ []) ≡ false → is_escape (take 2 (b ∷ bs)) ≡ false → NoTextItem (92 ∷ b ∷ bs)
no_escape_front b bs short long zero some le = absurd (omega arith)
no_escape_front b bs short long (suc zero) some le = refl
no_escape_front b bs short long (suc (suc zero)) some le = short
no_escape_front b [] short long (suc (suc (suc k))) some le = short
no_escape_front b (c ∷ bs) short long (suc (suc (suc k))) some le = body_no_escape b c (take k bs) short long

pub no_item_escape : (l : List ℕ) → slice_index l 0 ≡ 92 → is_escape (take 1 (drop 1 l)) ≡ false → is_escape (take 2 (drop 1 l)) ≡ false → NoTextItem l
no_item_escape [] back short long k some le = absurd (omega (arith, some, le))
no_item_escape (a ∷ []) back short long zero some le = absurd (omega arith)
no_item_escape (a ∷ []) back short long (suc k) some le = let is : a ≡ 92 = back in subst (λ (x : ℕ). is_text_body (x ∷ take k []) ≡ false) (sym is) (alone k)
  where
    alone : (k : ℕ) → is_text_body (92 ∷ take k []) ≡ false
    alone zero = refl
    alone (suc k) = refl
no_item_escape (a ∷ b ∷ bs) back short long k some le = subst (λ (x : ℕ). is_text_body (take k (x ∷ b ∷ bs)) ≡ false) (sym back) (no_escape_front b bs short long k some le)

tests_one : (xs : List ℕ) → (nat_le 1 (length xs) && is_escape (take 1 xs)) ≡ false → is_escape (take 1 xs) ≡ false
tests_one [] e = refl
tests_one (b ∷ bs) e = let long : nat_le 1 (length (b ∷ bs)) ≡ true = le-leb 1 (length (b ∷ bs)) (omega arith) in rw long at e

tests_two : (xs : List ℕ) → is_escape (take 1 xs) ≡ false → (nat_le 2 (length xs) && is_escape (take 2 xs)) ≡ false → is_escape (take 2 xs) ≡ false
tests_two [] short e = refl
tests_two (b ∷ []) short e = short
tests_two (b ∷ c ∷ bs) short e = let long : nat_le 2 (length (b ∷ c ∷ bs)) ≡ true = le-leb 2 (length (b ∷ c ∷ bs)) (omega arith) in rw long at e

pub tested_simple : (l rest : List ℕ) → rest ≡ drop 1 l → slice_index l 0 ≡ 92 → (nat_le 1 (length rest) && is_escape (take 1 rest)) ≡ true → IsTextItem 2 l
tested_simple l rest is back test =
    let both = and_parts (nat_le 1 (length rest)) (is_escape (take 1 rest)) test in
    item_simple l (omega (arith, leb-true 1 (length rest) both.0, ap length is, length-drop 1 l)) back (ap (λ (r : List ℕ). is_escape (take 1 r)) (sym is) ∙ both.1)

pub tested_hexadecimal : (l rest : List ℕ) → rest ≡ drop 1 l → slice_index l 0 ≡ 92 → (nat_le 1 (length rest) && is_escape (take 1 rest)) ≡ false → (nat_le 2 (length rest) && is_escape (take 2 rest)) ≡ true → IsTextItem 3 l
tested_hexadecimal l rest is back short long =
    let both = and_parts (nat_le 2 (length rest)) (is_escape (take 2 rest)) long in
    let none : is_escape (take 1 (drop 1 l)) ≡ false = ap (λ (r : List ℕ). is_escape (take 1 r)) (sym is) ∙ tests_one rest short in
    item_hexadecimal l (omega (arith, leb-true 2 (length rest) both.0, ap length is, length-drop 1 l)) back none (ap (λ (r : List ℕ). is_escape (take 2 r)) (sym is) ∙ both.1)

pub tested_none : (l rest : List ℕ) → rest ≡ drop 1 l → slice_index l 0 ≡ 92 → (nat_le 1 (length rest) && is_escape (take 1 rest)) ≡ false → (nat_le 2 (length rest) && is_escape (take 2 rest)) ≡ false → NoTextItem l
tested_none l rest is back short long =
    let one = tests_one rest short in
    let none-one : is_escape (take 1 (drop 1 l)) ≡ false = ap (λ (r : List ℕ). is_escape (take 1 r)) (sym is) ∙ one in
    let none-two : is_escape (take 2 (drop 1 l)) ≡ false = ap (λ (r : List ℕ). is_escape (take 2 r)) (sym is) ∙ tests_two rest one long in
    no_item_escape l back none-one none-two

-- ---- runs of items

pub run_none : (l : List ℕ) → IsTextItem 0 l
run_none l = record {
  within = omega arith;
  neutral = λ k. let same : 0 + k ≡ k = omega arith in rw same refl;
  unclosed = λ k lt. absurd (omega arith);
}

item_at : (n : ℕ) (l : List ℕ) → 0 < n → TextItem n l → IsTextItem n l
item_at zero l some item = absurd (omega arith)
item_at (suc n) l some item = item

pub no_item_at : (n : ℕ) (l : List ℕ) → n ≡ 0 → TextItem n l → NoTextItem l
no_item_at n l none item = subst (λ (k : ℕ). TextItem k l) none item

-- one more item
pub run_more : (at n : ℕ) (l : List ℕ) → 0 < n → IsTextItem at l → TextItem n (drop at l) → IsTextItem (at + n) l
run_more at n l some run item =
    let more = item_at n (drop at l) some item in
    record {
      within = omega (arith, run.within, more.within, length-drop at l);
      neutral = λ k.
          let regroup : at + n + k ≡ at + (n + k) = omega arith in
          ap (λ (i : ℕ). is_text_body (take i l)) regroup ∙ run.neutral (n + k) ∙ more.neutral k ∙ ap (λ (r : List ℕ). is_text_body (take k r)) (drop-drop n at l);
      unclosed = λ k lt. elim (cases_lt k at) [
        | inl before ↦ run.unclosed k before
        | inr behind ↦
            let place : k ≡ at + (k - at) = omega arith in
            let inner = more.unclosed (k - at) (omega arith) in
            ap (λ (i : ℕ). slice_index l i == 34 && is_text_body (take i l)) place
            ∙ ap (λ (b : Bool). slice_index l (at + (k - at)) == 34 && b) (run.neutral (k - at))
            ∙ ap (λ (b : ℕ). b == 34 && is_text_body (take (k - at) (drop at l))) (sym (get_or-drop at l (k - at) 0))
            ∙ inner
      ];
    }
