-- Characters and texts end with their closing quote.
use Rattle.std.proofs.Common.{◌≡◌, ℕ, suc, ◌-◌, Bool, true, false, ◌&&◌, ◌||◌, List, [], ◌∷◌, ◌++◌, length, take, refl, sym, ap, subst, ◌∙◌, arith, inl, inr}
use Rattle.std.specs.Prelude.{◌==◌, nat_le, slice_index}
use Rattle.std.specs.Char.{is_ascii_hexdigit}
use Rattle.std.proofs.lemmas.Bool.{cases_Bool, and_parts, and_from, or_cases, or_parts, not-true, eqb-true}
use Rattle.nesc_tokens.specs.CodePoints.{is_octal_digit, is_plain}
use Rattle.nesc_tokens.specs.Spelling.{is_quoted, is_escape, is_char_body, is_text_body}
use Rattle.nesc_tokens.proofs.Runs.{not_both}

-- ---- what is between the quotes

pub record Between (quote : ℕ) (test : List ℕ → Bool) (bytes : List ℕ) : Type 0 where
  pub body : List ℕ
  pub is : bytes ≡ quote ∷ (body ++ quote ∷ [])
  pub passes : test body ≡ true

split_last : (c : ℕ) (cs : List ℕ) → c ∷ cs ≡ take (length cs) (c ∷ cs) ++ slice_index (c ∷ cs) (length cs) ∷ []
split_last c [] = refl
split_last c (d ∷ cs) = ap (λ (l : List ℕ). c ∷ l) (split_last d cs)

pub between : (quote : ℕ) (test : List ℕ → Bool) (bytes : List ℕ) → is_quoted quote test bytes ≡ true → Between quote test bytes
between quote test [] is = absurd cc
between quote test (a ∷ []) is = absurd cc
between quote test (a ∷ c ∷ cs) is =
    let len : length (a ∷ c ∷ cs) - 2 ≡ length cs = omega arith in
    let last-at : length (a ∷ c ∷ cs) - 1 ≡ suc (length cs) = omega arith in
    let third = and_parts _ (test (take (length (a ∷ c ∷ cs) - 2) (c ∷ cs))) is in
    let second = and_parts _ (slice_index (a ∷ c ∷ cs) (length (a ∷ c ∷ cs) - 1) == quote) third.0 in
    let first = and_parts (nat_le 2 (length (a ∷ c ∷ cs))) (a == quote) second.0 in
    let opens : a ≡ quote = eqb-true a quote first.1 in
    let closes : slice_index (c ∷ cs) (length cs) ≡ quote = ap (slice_index (a ∷ c ∷ cs)) (sym last-at) ∙ eqb-true _ quote second.1 in
    record {
      body = take (length cs) (c ∷ cs);
      is = (λ i. opens i ∷ split_last c cs i) ∙ ap (λ (b : ℕ). quote ∷ (take (length cs) (c ∷ cs) ++ b ∷ [])) closes;
      passes = ap (λ (n : ℕ). test (take n (c ∷ cs))) (sym len) ∙ third.1;
    }

-- a longer text between quotes has the shorter one in it, with its closing quote
no_cons : {P : Type 0} (xs : List ℕ) (q b : ℕ) (ys : List ℕ) → xs ++ q ∷ (b ∷ ys) ≡ [] → P
no_cons [] q b ys e = absurd cc
no_cons (x ∷ xs) q b ys e = absurd cc

abbrev pub tail_of : List ℕ → List ℕ
tail_of [] = []
tail_of (x ∷ xs) = xs

abbrev pub head_of : List ℕ → ℕ
head_of [] = 0
head_of (x ∷ xs) = x

pub longer_body : (xs zs : List ℕ) (q b : ℕ) (ys : List ℕ) → xs ++ q ∷ (b ∷ ys) ≡ zs ++ q ∷ [] → (w : List ℕ) × (zs ≡ xs ++ q ∷ w)
longer_body [] [] q b ys e = absurd (let t : b ∷ ys ≡ [] = ap tail_of e in cc)
longer_body [] (z ∷ zs) q b ys e = (zs, ap (λ (h : ℕ). h ∷ zs) (sym (ap head_of e)))
longer_body (x ∷ xs) [] q b ys e = no_cons xs q b ys (ap tail_of e)
longer_body (x ∷ xs) (z ∷ zs) q b ys e =
    let more = longer_body xs zs q b ys (ap tail_of e) in
    (more.0, λ i. sym (ap head_of e) i ∷ more.1 i)

-- ---- bodies

no_octal_quote : (b c : ℕ) → c ≡ 39 → (is_octal_digit b && is_octal_digit c) ≡ true → ⊥
no_octal_quote b c at is = let second = rw at at (and_parts (is_octal_digit b) (is_octal_digit c) is).1 in cc

no_hexadecimal_quote : (t : Bool) (c : ℕ) → c ≡ 39 → (t && is_ascii_hexdigit c) ≡ true → ⊥
no_hexadecimal_quote t c at is = let second = rw at at (and_parts t (is_ascii_hexdigit c) is).1 in cc

never_escape : (b : ℕ) (bs w : List ℕ) → is_escape ((b ∷ bs) ++ 39 ∷ w) ≡ true → ⊥
never_escape b [] [] is = elim (or_cases _ _ is) [
  | inl octal ↦ no_octal_quote b 39 refl octal
  | inr hex ↦ no_hexadecimal_quote (b == 120) 39 refl hex
]
never_escape b [] (c ∷ []) is = elim (or_cases _ _ is) [
  | inl octal ↦ no_octal_quote b 39 refl (and_parts (is_octal_digit b && is_octal_digit 39) (is_octal_digit c) octal).0
  | inr hex ↦ no_hexadecimal_quote (b == 120) 39 refl (and_parts (b == 120 && is_ascii_hexdigit 39) (is_ascii_hexdigit c) hex).0
]
never_escape b [] (c ∷ d ∷ w) is = absurd cc
never_escape b (c ∷ []) [] is = elim (or_cases _ _ is) [
  | inl octal ↦ no_octal_quote 0 39 refl (and_from true (is_octal_digit 39) refl (and_parts (is_octal_digit b && is_octal_digit c) (is_octal_digit 39) octal).1)
  | inr hex ↦ no_hexadecimal_quote true 39 refl (and_parts (b == 120 && is_ascii_hexdigit c) (is_ascii_hexdigit 39) hex).1
]
never_escape b (c ∷ []) (d ∷ w) is = absurd cc
never_escape b (c ∷ d ∷ []) w is = absurd cc
never_escape b (c ∷ d ∷ e ∷ bs) w is = absurd cc

no_backslash : (a : ℕ) → is_plain 39 a ≡ true → (a == 92) ≡ false
no_backslash a plain = (or_parts (a == 39) (a == 92) (or_parts (a == 39 || a == 92) (a == 10) (not-true _ plain)).0).1

never_char_body : (xs w : List ℕ) → is_char_body xs ≡ true → is_char_body (xs ++ 39 ∷ w) ≡ true → ⊥
never_char_body [] w short long = cc
never_char_body (a ∷ []) w short long = not_both (a == 92) (and_parts (a == 92) (is_escape (39 ∷ w)) long).0 (no_backslash a (and_parts (is_plain 39 a) _ short).0)
never_char_body (a ∷ b ∷ bs) w short long = never_escape b bs w (and_parts (a == 92) _ long).1

pub body_plain : (a : ℕ) (bs : List ℕ) → is_plain 34 a ≡ true → is_text_body (a ∷ bs) ≡ is_text_body bs
body_plain a [] plain = plain
body_plain a (b ∷ []) plain = rw (plain, is_text_body) refl
body_plain a (b ∷ c ∷ bs) plain = rw (plain, is_text_body) refl

pub body_simple : (b : ℕ) (bs : List ℕ) → is_escape (b ∷ []) ≡ true → is_text_body (92 ∷ b ∷ bs) ≡ is_text_body bs
body_simple b [] escape = escape
body_simple b (c ∷ bs) escape = rw (escape, is_text_body) refl

pub body_bad : (a : ℕ) (bs : List ℕ) → is_plain 34 a ≡ false → (a == 92) ≡ false → is_text_body (a ∷ bs) ≡ false
body_bad a [] plain back = plain
body_bad a (b ∷ []) plain back = rw (plain, is_text_body) (rw back refl)
body_bad a (b ∷ c ∷ bs) plain back = rw (plain, is_text_body) (rw (back, is_text_body) (rw back refl))

-- where one byte behind the backslash is no escape, `x` and a hexadecimal digit stand there
pub body_other : (b c : ℕ) (bs : List ℕ) → is_escape (b ∷ []) ≡ false → is_text_body (92 ∷ b ∷ c ∷ bs) ≡ (b == 120 && is_ascii_hexdigit c && is_text_body bs)
body_other b c bs short = rw (short, is_text_body) refl

never_body : (w : List ℕ) → is_text_body (34 ∷ w) ≡ true → ⊥
never_body w is = not_both _ is (body_bad 34 w refl refl)

mutual
  never_text_body : (xs w : List ℕ) → is_text_body xs ≡ true → is_text_body (xs ++ 34 ∷ w) ≡ true → ⊥
  never_text_body [] w short long = never_body w long
  never_text_body (a ∷ bs) w short long = elim (cases_Bool (is_plain 34 a)) [
    | inl plain ↦ never_text_body bs w (sym (body_plain a bs plain) ∙ short) (sym (body_plain a (bs ++ 34 ∷ w) plain) ∙ long)
    | inr other ↦ elim (cases_Bool (a == 92)) [
      | inl back ↦
          let at : a ≡ 92 = eqb-true a 92 back in
          never_escaped bs w (subst (λ (x : ℕ). is_text_body (x ∷ bs) ≡ true) at short) (subst (λ (x : ℕ). is_text_body (x ∷ (bs ++ 34 ∷ w)) ≡ true) at long)
      | inr none ↦ not_both _ short (body_bad a bs other none)
    ]
  ]

  never_escaped : (bs w : List ℕ) → is_text_body (92 ∷ bs) ≡ true → is_text_body (92 ∷ (bs ++ 34 ∷ w)) ≡ true → ⊥
  never_escaped [] w short long = cc
  never_escaped (b ∷ []) w short long = elim (cases_Bool (is_escape (b ∷ []))) [
    | inl escape ↦ never_body w (sym (body_simple b (34 ∷ w) escape) ∙ long)
    | inr none ↦ not_both (is_escape (b ∷ [])) short none
  ]
  never_escaped (b ∷ c ∷ bs) w short long = elim (cases_Bool (is_escape (b ∷ []))) [
    | inl escape ↦ never_text_body (c ∷ bs) w (sym (body_simple b (c ∷ bs) escape) ∙ short) (sym (body_simple b ((c ∷ bs) ++ 34 ∷ w) escape) ∙ long)
    | inr none ↦
        let one = sym (body_other b c bs none) ∙ short in
        let other = sym (body_other b c (bs ++ 34 ∷ w) none) ∙ long in
        never_text_body bs w (and_parts (b == 120 && is_ascii_hexdigit c) (is_text_body bs) one).1 (and_parts (b == 120 && is_ascii_hexdigit c) _ other).1
  ]

-- ---- the literals

never_quoted : (quote : ℕ) (test : List ℕ → Bool) → ((xs w : List ℕ) → test xs ≡ true → test (xs ++ quote ∷ w) ≡ true → ⊥) → (bytes : List ℕ) (b : ℕ) (tail : List ℕ) → is_quoted quote test bytes ≡ true → is_quoted quote test (bytes ++ b ∷ tail) ≡ true → ⊥
never_quoted quote test never bytes b tail short long =
    let one = between quote test bytes short in
    let other = between quote test (bytes ++ b ∷ tail) long in
    let same : one.body ++ quote ∷ (b ∷ tail) ≡ other.body ++ quote ∷ [] = sym (appended one.body quote (b ∷ tail)) ∙ ap (λ (l : List ℕ). tail_of (l ++ b ∷ tail)) (sym one.is) ∙ ap tail_of other.is in
    let more = longer_body one.body other.body quote b tail same in
    never one.body more.0 one.passes (subst (λ (l : List ℕ). test l ≡ true) more.1 other.passes)
  where
    appended : (xs : List ℕ) (q : ℕ) (ys : List ℕ) → (xs ++ q ∷ []) ++ ys ≡ xs ++ q ∷ ys
    appended [] q ys = refl
    appended (x ∷ xs) q ys = ap (λ (l : List ℕ). x ∷ l) (appended xs q ys)

pub never_character : (bytes : List ℕ) (b : ℕ) (tail : List ℕ) → is_quoted 39 is_char_body bytes ≡ true → is_quoted 39 is_char_body (bytes ++ b ∷ tail) ≡ true → ⊥
never_character = never_quoted 39 is_char_body never_char_body

pub never_text : (bytes : List ℕ) (b : ℕ) (tail : List ℕ) → is_quoted 34 is_text_body bytes ≡ true → is_quoted 34 is_text_body (bytes ++ b ∷ tail) ≡ true → ⊥
never_text = never_quoted 34 is_text_body never_text_body
