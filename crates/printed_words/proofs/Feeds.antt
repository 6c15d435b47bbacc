-- Texts of whole words have no line splices.
use Rattle.std.proofs.Common.{◌≡◌, ℕ, Bool, true, false, not, ◌&&◌, ◌||◌, List, [], ◌∷◌, ◌++◌, refl, sym, ap, subst, ◌∙◌, inl, inr, append_assoc}
use Rattle.std.specs.Prelude.{◌==◌}
use Rattle.std.specs.List.{list_all}
use Rattle.std.specs.Char.{is_ascii_hexdigit}
use Rattle.std.proofs.lemmas.Bool.{cases_Bool, and_parts, and_from, or_parts, or_cases, not-true, eqb-true}
use Rattle.std.proofs.lemmas.List.{append-nil}
use Rattle.std.proofs.lemmas.List.Folds.{list_all-append}
use Rattle.nm_base.specs.declared.token.Kind.{Kind}
use Rattle.nm_base.specs.declared.token.Kind.TheVariants.{Word, Number, Char, Text, Sign}
use Rattle.nesc_tokens.specs.declared.splice.SourceByte.{SourceByte}
use Rattle.nesc_tokens.specs.CodePoints.{is_word_byte, is_octal_digit, is_plain}
use Rattle.nesc_tokens.specs.Spelling.{spells, signs, is_one_of, is_escape, simple_escapes, is_char_body, is_text_body}
use Rattle.nesc_tokens.specs.Splices.{placed, spliced, splice_len, source_of, line_behind, col_behind}
use Rattle.nesc_tokens.proofs.Runs.{not_both, one_of_all}
use Rattle.nesc_tokens.proofs.Splicing.{byte_first}
use Rattle.nesc_tokens.proofs.LexemeKinds.{empty_is_none}
use Rattle.printed_words.specs.LaidOut.{Lexeme, is_whole, is_layout, Laid, nothing, white, word}
use Rattle.printed_words.proofs.Bytes.{word_all, number_all}
use Rattle.printed_words.proofs.Quoting.{Between, between, body_plain, body_simple, body_bad, body_other}

-- ---- texts where no line feed is behind a backslash or a carriage return

abbrev no_feed : ℕ → Bool
no_feed b = not (b == 10)

abbrev is_fine : ℕ → Bool
is_fine b = not (b == 92 || b == 13)

pub quiet : ℕ → List ℕ → Bool
quiet p [] = true
quiet p (b ∷ bs) = not (b == 10 && (p == 92 || p == 13)) && quiet b bs

abbrev last_or : ℕ → List ℕ → ℕ
last_or p [] = p
last_or p (x ∷ xs) = last_or x xs

no_short : (x y z : Bool) → not (x && (y || z)) ≡ true → (y && x) ≡ false
no_short true true z e = absurd cc
no_short true false z e = refl
no_short false true z e = refl
no_short false false z e = refl

no_long : (w x y z : Bool) → not (x && (y || z)) ≡ true → (w && z && x) ≡ false
no_long true true true true e = absurd cc
no_long true true false true e = absurd cc
no_long true x y false e = refl
no_long true false y true e = refl
no_long false x y z e = refl

quiet_len : (b : ℕ) (bs : List ℕ) → quiet b bs ≡ true → splice_len (b ∷ bs) ≡ 0
unfolding quiet
quiet_len b [] is = refl
quiet_len b (c ∷ []) is =
    let none = no_short (c == 10) (b == 92) (b == 13) (and_parts (not (c == 10 && (b == 92 || b == 13))) _ is).0 in
    rw none refl
quiet_len b (c ∷ d ∷ ds) is =
    let both = and_parts (not (c == 10 && (b == 92 || b == 13))) _ is in
    let none = no_short (c == 10) (b == 92) (b == 13) both.0 in
    let neither = no_long (b == 92) (d == 10) (c == 92) (c == 13) (and_parts (not (d == 10 && (c == 92 || c == 13))) _ both.1).0 in
    rw (none, neither) refl

quiet_source : (line col b : ℕ) (bs : List ℕ) → quiet b bs ≡ true → spliced (placed line col (b ∷ bs)) ≡ placed line col (b ∷ bs)
unfolding quiet
quiet_source line col b [] is = refl
quiet_source line col b (c ∷ bs) is =
    byte_first line col b (c ∷ bs) (quiet_len b (c ∷ bs) is)
    ∙ ap (λ (s : List SourceByte). record { byte = b; line = line; col = col } ∷ s) (quiet_source (line_behind b line) (col_behind b col) c bs (and_parts (not (c == 10 && (b == 92 || b == 13))) _ is).1)

pub as_it_stands : (text : List ℕ) → quiet 0 text ≡ true → source_of text ≡ placed 1 1 text
unfolding quiet
as_it_stands [] is = refl
as_it_stands (b ∷ bs) is = quiet_source 1 1 b bs (and_parts (not (b == 10 && (0 == 92 || 0 == 13))) _ is).1

-- ---- whole words have no line feed

all_kept : (p q : ℕ → Bool) → ((b : ℕ) → p b ≡ true → q b ≡ true) → (xs : List ℕ) → list_all p xs ≡ true → list_all q xs ≡ true
all_kept p q of [] all = refl
all_kept p q of (x ∷ xs) all = let both = and_parts (p x) (list_all p xs) all in and_from _ _ (of x both.0) (all_kept p q of xs both.1)

word_no_feed : (b : ℕ) → is_word_byte b ≡ true → no_feed b ≡ true
word_no_feed b is = elim (cases_Bool (b == 10)) [
  | inl feed ↦ let at : b ≡ 10 = eqb-true b 10 feed in let e = rw at at is in absurd cc
  | inr other ↦ rw other refl
]

octal_no_feed : (b : ℕ) → is_octal_digit b ≡ true → no_feed b ≡ true
octal_no_feed b is = elim (cases_Bool (b == 10)) [
  | inl feed ↦ let at : b ≡ 10 = eqb-true b 10 feed in let e = rw at at is in absurd cc
  | inr other ↦ rw other refl
]

hexadecimal_no_feed : (b : ℕ) → is_ascii_hexdigit b ≡ true → no_feed b ≡ true
hexadecimal_no_feed b is = elim (cases_Bool (b == 10)) [
  | inl feed ↦ let at : b ≡ 10 = eqb-true b 10 feed in let e = rw at at is in absurd cc
  | inr other ↦ rw other refl
]

is_feedless : List ℕ → Bool
is_feedless bytes = list_all no_feed bytes

sign_no_feed : (bytes : List ℕ) → is_one_of signs bytes ≡ true → list_all no_feed bytes ≡ true
unfolding signs is_feedless
sign_no_feed bytes one = one_of_all is_feedless signs bytes refl one

letter_x : (b : ℕ) → (b == 120) ≡ true → no_feed b ≡ true
letter_x b is = rw (eqb-true b 120 is) refl

escape_no_feed : (bytes : List ℕ) → is_escape bytes ≡ true → list_all no_feed bytes ≡ true
unfolding simple_escapes is_feedless
escape_no_feed [] is = refl
escape_no_feed (a ∷ []) is = elim (or_cases (is_one_of simple_escapes (a ∷ [])) (is_octal_digit a) is) [
  | inl one ↦ one_of_all is_feedless simple_escapes (a ∷ []) refl one
  | inr octal ↦ and_from _ _ (octal_no_feed a octal) refl
]
escape_no_feed (a ∷ b ∷ []) is = elim (or_cases (is_octal_digit a && is_octal_digit b) (a == 120 && is_ascii_hexdigit b) is) [
  | inl octal ↦ let both = and_parts (is_octal_digit a) (is_octal_digit b) octal in and_from _ _ (octal_no_feed a both.0) (and_from _ _ (octal_no_feed b both.1) refl)
  | inr hex ↦ let both = and_parts (a == 120) (is_ascii_hexdigit b) hex in and_from _ _ (letter_x a both.0) (and_from _ _ (hexadecimal_no_feed b both.1) refl)
]
escape_no_feed (a ∷ b ∷ c ∷ []) is = elim (or_cases (is_octal_digit a && is_octal_digit b && is_octal_digit c) (a == 120 && is_ascii_hexdigit b && is_ascii_hexdigit c) is) [
  | inl octal ↦
      let last = and_parts (is_octal_digit a && is_octal_digit b) (is_octal_digit c) octal in
      let both = and_parts (is_octal_digit a) (is_octal_digit b) last.0 in
      and_from _ _ (octal_no_feed a both.0) (and_from _ _ (octal_no_feed b both.1) (and_from _ _ (octal_no_feed c last.1) refl))
  | inr hex ↦
      let last = and_parts (a == 120 && is_ascii_hexdigit b) (is_ascii_hexdigit c) hex in
      let both = and_parts (a == 120) (is_ascii_hexdigit b) last.0 in
      and_from _ _ (letter_x a both.0) (and_from _ _ (hexadecimal_no_feed b both.1) (and_from _ _ (hexadecimal_no_feed c last.1) refl))
]
escape_no_feed (a ∷ b ∷ c ∷ d ∷ bs) is = absurd cc

plain_no_feed : (quote a : ℕ) → is_plain quote a ≡ true → no_feed a ≡ true
plain_no_feed quote a plain = let e = (or_parts (a == quote || a == 92) (a == 10) (not-true _ plain)).1 in rw e refl

backslash_no_feed : (a : ℕ) → (a == 92) ≡ true → no_feed a ≡ true
backslash_no_feed a is = rw (eqb-true a 92 is) refl

char_no_feed : (bytes : List ℕ) → is_char_body bytes ≡ true → list_all no_feed bytes ≡ true
char_no_feed [] is = refl
char_no_feed (a ∷ []) is = and_from _ _ (plain_no_feed 39 a (and_parts (is_plain 39 a) _ is).0) refl
char_no_feed (a ∷ b ∷ bs) is = let both = and_parts (a == 92) (is_escape (b ∷ bs)) is in and_from _ _ (backslash_no_feed a both.0) (escape_no_feed (b ∷ bs) both.1)

mutual
  text_no_feed : (bytes : List ℕ) → is_text_body bytes ≡ true → list_all no_feed bytes ≡ true
  text_no_feed [] is = refl
  text_no_feed (a ∷ bs) is = elim (cases_Bool (is_plain 34 a)) [
    | inl plain ↦ and_from _ _ (plain_no_feed 34 a plain) (text_no_feed bs (sym (body_plain a bs plain) ∙ is))
    | inr other ↦ elim (cases_Bool (a == 92)) [
      | inl back ↦ and_from _ _ (backslash_no_feed a back) (escaped_no_feed bs (subst (λ (x : ℕ). is_text_body (x ∷ bs) ≡ true) (eqb-true a 92 back) is))
      | inr none ↦ not_both _ is (body_bad a bs other none)
    ]
  ]

  escaped_no_feed : (bytes : List ℕ) → is_text_body (92 ∷ bytes) ≡ true → list_all no_feed bytes ≡ true
  escaped_no_feed [] is = refl
  escaped_no_feed (b ∷ []) is = elim (cases_Bool (is_escape (b ∷ []))) [
    | inl escape ↦ escape_no_feed (b ∷ []) escape
    | inr none ↦ not_both (is_escape (b ∷ [])) is none
  ]
  escaped_no_feed (b ∷ c ∷ bs) is = elim (cases_Bool (is_escape (b ∷ []))) [
    | inl escape ↦ and_from _ _ (and_parts (no_feed b) _ (escape_no_feed (b ∷ []) escape)).0 (text_no_feed (c ∷ bs) (sym (body_simple b (c ∷ bs) escape) ∙ is))
    | inr none ↦
        let last = and_parts (b == 120 && is_ascii_hexdigit c) (is_text_body bs) (sym (body_other b c bs none) ∙ is) in
        let both = and_parts (b == 120) (is_ascii_hexdigit c) last.0 in
        and_from _ _ (letter_x b both.0) (and_from _ _ (hexadecimal_no_feed c both.1) (text_no_feed bs last.1))
  ]

quoted_no_feed : (quote : ℕ) (test : List ℕ → Bool) (bytes : List ℕ) → no_feed quote ≡ true → ((body : List ℕ) → test body ≡ true → list_all no_feed body ≡ true) → Between quote test bytes → list_all no_feed bytes ≡ true
quoted_no_feed quote test bytes fine inside x =
    ap (list_all no_feed) x.is ∙ and_from _ _ fine (list_all-append no_feed x.body (quote ∷ []) ∙ and_from _ _ (inside x.body x.passes) (and_from _ _ fine refl))

pub whole_no_feed : (kind : Kind) (bytes : List ℕ) → spells kind bytes ≡ true → list_all no_feed bytes ≡ true
whole_no_feed Word bytes is = all_kept is_word_byte no_feed word_no_feed bytes (word_all bytes is)
whole_no_feed Number bytes is = all_kept is_word_byte no_feed word_no_feed bytes (number_all bytes is)
whole_no_feed Char bytes is = quoted_no_feed 39 is_char_body bytes refl char_no_feed (between 39 is_char_body bytes is)
whole_no_feed Text bytes is = quoted_no_feed 34 is_text_body bytes refl text_no_feed (between 34 is_text_body bytes is)
whole_no_feed Sign bytes is = sign_no_feed bytes is

-- ---- and end with no backslash

last_kept : (p : ℕ → Bool) (q x : ℕ) (xs : List ℕ) → list_all p (x ∷ xs) ≡ true → p (last_or q (x ∷ xs)) ≡ true
last_kept p q x [] all = (and_parts (p x) _ all).0
last_kept p q x (y ∷ xs) all = last_kept p x y xs (and_parts (p x) _ all).1

last_pushed : (q : ℕ) (xs : List ℕ) (b : ℕ) → last_or q (xs ++ b ∷ []) ≡ b
last_pushed q [] b = refl
last_pushed q (x ∷ xs) b = last_pushed x xs b

last_behind : (q : ℕ) (xs ys : List ℕ) → last_or q (xs ++ ys) ≡ last_or (last_or q xs) ys
last_behind q [] ys = refl
last_behind q (x ∷ xs) ys = last_behind x xs ys

word_fine : (b : ℕ) → is_word_byte b ≡ true → is_fine b ≡ true
word_fine b is = elim (cases_Bool (b == 92)) [
  | inl back ↦ let at : b ≡ 92 = eqb-true b 92 back in let e = rw at at is in absurd cc
  | inr other ↦ elim (cases_Bool (b == 13)) [
    | inl return ↦ let at : b ≡ 13 = eqb-true b 13 return in let e = rw at at is in absurd cc
    | inr neither ↦ rw (other, neither) refl
  ]
]

ends_fine : List ℕ → Bool
ends_fine [] = true
ends_fine (x ∷ xs) = is_fine (last_or x xs)

sign_ends_fine : (q x : ℕ) (xs : List ℕ) → is_one_of signs (x ∷ xs) ≡ true → is_fine (last_or q (x ∷ xs)) ≡ true
unfolding signs ends_fine
sign_ends_fine q x xs one = one_of_all ends_fine signs (x ∷ xs) refl one

quoted_last : (q quote : ℕ) (test : List ℕ → Bool) (bytes : List ℕ) → Between quote test bytes → last_or q bytes ≡ quote
quoted_last q quote test bytes x = ap (last_or q) x.is ∙ last_pushed quote x.body quote

whole_ends_fine : (kind : Kind) (q : ℕ) (bytes : List ℕ) → spells kind bytes ≡ true → is_fine (last_or q bytes) ≡ true
whole_ends_fine kind q [] is = not_both _ is (empty_is_none kind)
whole_ends_fine Word q (x ∷ xs) is = word_fine (last_or q (x ∷ xs)) (last_kept is_word_byte q x xs (word_all (x ∷ xs) is))
whole_ends_fine Number q (x ∷ xs) is = word_fine (last_or q (x ∷ xs)) (last_kept is_word_byte q x xs (number_all (x ∷ xs) is))
whole_ends_fine Char q (x ∷ xs) is = ap is_fine (quoted_last q 39 is_char_body (x ∷ xs) (between 39 is_char_body (x ∷ xs) is))
whole_ends_fine Text q (x ∷ xs) is = ap is_fine (quoted_last q 34 is_text_body (x ∷ xs) (between 34 is_text_body (x ∷ xs) is))
whole_ends_fine Sign q (x ∷ xs) is = sign_ends_fine q x xs is

-- ---- texts of words

quiet_first : (p x : ℕ) → no_feed x ≡ true → not (x == 10 && (p == 92 || p == 13)) ≡ true
quiet_first p x is = rw (not-true _ is) refl

quiet_behind : (p : ℕ) (xs rest : List ℕ) → list_all no_feed xs ≡ true → quiet (last_or p xs) rest ≡ true → quiet p (xs ++ rest) ≡ true
unfolding quiet
quiet_behind p [] rest all more = more
quiet_behind p (x ∷ xs) rest all more =
    let both = and_parts (no_feed x) (list_all no_feed xs) all in
    and_from _ _ (quiet_first p x both.0) (quiet_behind x xs rest both.1 more)

layout_fine : (b : ℕ) → is_layout b ≡ true → is_fine b ≡ true
layout_fine b is = elim (or_cases (b == 32) (b == 10) is) [
  | inl blank ↦ rw (eqb-true b 32 blank) refl
  | inr feed ↦ rw (eqb-true b 10 feed) refl
]

quiet_white : (p b : ℕ) (rest : List ℕ) → is_fine p ≡ true → quiet b rest ≡ true → quiet p (b ∷ rest) ≡ true
unfolding quiet
quiet_white p b rest fine more = and_from _ _ (first (b == 10) (p == 92 || p == 13) fine) more
  where
    first : (x y : Bool) → not y ≡ true → not (x && y) ≡ true
    first true y e = e
    first false y e = refl

parts_whole : (words : List Lexeme) (w : Lexeme) → list_all is_whole (words ++ w ∷ []) ≡ true → (list_all is_whole words ≡ true) × (is_whole w ≡ true)
parts_whole words w all =
    let both = and_parts (list_all is_whole words) (list_all is_whole (w ∷ [])) (sym (list_all-append is_whole words (w ∷ [])) ∙ all) in
    (both.0, (and_parts (is_whole w) true both.1).0)

laid_fine : (text : List ℕ) (words : List Lexeme) → Laid text words → list_all is_whole words ≡ true → is_fine (last_or 0 text) ≡ true
laid_fine text words (nothing e f) whole = ap (λ (t : List ℕ). is_fine (last_or 0 t)) e
laid_fine text words (white {before = before} b is e rest) whole = ap (λ (t : List ℕ). is_fine (last_or 0 t)) e ∙ ap is_fine (last_pushed 0 before b) ∙ layout_fine b is
laid_fine text words (word {before = before} {others = others} w apart e f rest) whole =
    let parts = parts_whole others w (subst (λ (l : List Lexeme). list_all is_whole l ≡ true) f whole) in
    ap (λ (t : List ℕ). is_fine (last_or 0 t)) e ∙ ap is_fine (last_behind 0 before w.text) ∙ whole_ends_fine w.kind (last_or 0 before) w.text parts.1

laid_quiet : (text : List ℕ) (words : List Lexeme) → Laid text words → list_all is_whole words ≡ true → (rest : List ℕ) → quiet (last_or 0 text) rest ≡ true → quiet 0 (text ++ rest) ≡ true
laid_quiet text words (nothing e f) whole rest more = subst (λ (t : List ℕ). quiet 0 (t ++ rest) ≡ true) (sym e) (subst (λ (t : List ℕ). quiet (last_or 0 t) rest ≡ true) e more)
laid_quiet text words (white {before = before} b is e inner) whole rest more =
    let here : quiet b rest ≡ true = ap (λ (l : ℕ). quiet l rest) (sym (last_pushed 0 before b)) ∙ ap (λ (t : List ℕ). quiet (last_or 0 t) rest) (sym e) ∙ more in
    ap (λ (t : List ℕ). quiet 0 (t ++ rest)) e ∙ ap (quiet 0) (append_assoc before (b ∷ []) rest)
    ∙ laid_quiet before words inner whole (b ∷ rest) (quiet_white (last_or 0 before) b rest (laid_fine before words inner whole) here)
laid_quiet text words (word {before = before} {others = others} w apart e f inner) whole rest more =
    let parts = parts_whole others w (subst (λ (l : List Lexeme). list_all is_whole l ≡ true) f whole) in
    let here : quiet (last_or (last_or 0 before) w.text) rest ≡ true = ap (λ (l : ℕ). quiet l rest) (sym (last_behind 0 before w.text)) ∙ ap (λ (t : List ℕ). quiet (last_or 0 t) rest) (sym e) ∙ more in
    ap (λ (t : List ℕ). quiet 0 (t ++ rest)) e ∙ ap (quiet 0) (append_assoc before w.text rest)
    ∙ laid_quiet before others inner parts.0 (w.text ++ rest) (quiet_behind (last_or 0 before) w.text rest (whole_no_feed w.kind w.text parts.1) here)

pub laid_source : (text : List ℕ) (words : List Lexeme) → Laid text words → list_all is_whole words ≡ true → source_of text ≡ placed 1 1 text
unfolding quiet
laid_source text words laid whole = as_it_stands text (ap (quiet 0) (sym (append-nil text)) ∙ laid_quiet text words laid whole [] refl)

pub whole_parts : (words : List Lexeme) (w : Lexeme) → list_all is_whole (words ++ w ∷ []) ≡ true → (list_all is_whole words ≡ true) × (is_whole w ≡ true)
whole_parts = parts_whole
