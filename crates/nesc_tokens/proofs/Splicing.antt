-- Reading a text one byte or one splice at a time.
use Rattle.std.proofs.Common.{◌≡◌, ℕ, ◌+◌, ◌<◌, ◌≤◌, Bool, true, false, cond, ◌&&◌, List, [], ◌∷◌, ◌++◌, length, drop, refl, sym, ap, ◌∙◌, arith, inl, inr, append_assoc}
use Rattle.std.specs.Prelude.{slice_index, ◌==◌}
use Rattle.std.proofs.lemmas.List.{drop-drop, drop_more}
use Rattle.std.proofs.lemmas.Bool.{cases_Bool, cond_both, and_parts, eqb-true}
use Rattle.nesc_tokens.specs.declared.splice.SourceByte.{SourceByte}
use Rattle.nesc_tokens.specs.Splices.{line_behind, col_behind, placed, spliced, splice_len, is_short_splice, is_long_splice, source_of}

no_two : (t : Bool) → cond {A = ℕ} t 2 0 ≡ 0 → t ≡ false
no_two true e = absurd cc
no_two false e = refl

no_two_or_three : (s t : Bool) → cond {A = ℕ} s 2 (cond {A = ℕ} t 3 0) ≡ 0 → (s ≡ false) × (t ≡ false)
no_two_or_three true t e = absurd cc
no_two_or_three false true e = absurd cc
no_two_or_three false false e = (refl, refl)

pub byte_first : (line col b : ℕ) (bs : List ℕ) → splice_len (b ∷ bs) ≡ 0 → spliced (placed line col (b ∷ bs)) ≡ record { byte = b; line = line; col = col } ∷ spliced (placed (line_behind b line) (col_behind b col) bs)
byte_first line col b [] e = refl
byte_first line col b (c ∷ []) e = rw (no_two (is_short_splice b c) e) refl
byte_first line col b (c ∷ d ∷ ds) e = let none = no_two_or_three (is_short_splice b c) (is_long_splice b c d) e in rw (none.0, spliced) (rw (none.1, spliced) refl)

short_first : (line col b c : ℕ) (cs : List ℕ) → is_short_splice b c ≡ true → spliced (placed line col (b ∷ c ∷ cs)) ≡ spliced (placed (line + 1) 1 (drop (splice_len (b ∷ c ∷ cs)) (b ∷ c ∷ cs)))
short_first line col b c [] is =
    let parts = and_parts (b == 92) (c == 10) is in
    let is-b : b ≡ 92 = eqb-true b 92 parts.0 in
    let is-c : c ≡ 10 = eqb-true c 10 parts.1 in
    rw (is-b, is-c) refl
short_first line col b c (d ∷ ds) is =
    let parts = and_parts (b == 92) (c == 10) is in
    let is-b : b ≡ 92 = eqb-true b 92 parts.0 in
    let is-c : c ≡ 10 = eqb-true c 10 parts.1 in
    rw (is-b, is-c) refl

splice_first : (line col b : ℕ) (bs : List ℕ) → 0 < splice_len (b ∷ bs) → spliced (placed line col (b ∷ bs)) ≡ spliced (placed (line + 1) 1 (drop (splice_len (b ∷ bs)) (b ∷ bs)))
splice_first line col b [] some = absurd (omega arith)
splice_first line col b (c ∷ []) some = elim (cases_Bool (is_short_splice b c)) [
  | inl is ↦ short_first line col b c [] is
  | inr is_not ↦ let none = rw is_not at some in absurd (omega arith)
]
splice_first line col b (c ∷ d ∷ ds) some = elim (cases_Bool (is_short_splice b c)) [
  | inl is ↦ short_first line col b c (d ∷ ds) is
  | inr is_not ↦ elim (cases_Bool (is_long_splice b c d)) [
    | inl is ↦
        let parts = and_parts (b == 92 && c == 13) (d == 10) is in
        let first = and_parts (b == 92) (c == 13) parts.0 in
        let is-b : b ≡ 92 = eqb-true b 92 first.0 in
        let is-c : c ≡ 13 = eqb-true c 13 first.1 in
        let is-d : d ≡ 10 = eqb-true d 10 parts.1 in
        rw (is-b, is-c, is-d) refl
    | inr neither ↦ let none = rw (is_not, neither) at some in absurd (omega arith)
  ]
]

splice_rest : (line col : ℕ) (bytes : List ℕ) (n : ℕ) → n ≡ splice_len bytes → 0 < n → spliced (placed line col bytes) ≡ spliced (placed (line + 1) 1 (drop n bytes))
splice_rest line col [] n is some = absurd (omega arith)
splice_rest line col (b ∷ bs) n is some = rw is (splice_first line col b bs (omega arith))

-- a splice is skipped
pub skips_splice : (source : List SourceByte) (line col : ℕ) (text : List ℕ) (at n : ℕ) → n ≡ splice_len (drop at text) → 0 < n → source ++ spliced (placed line col (drop at text)) ≡ source_of text → source ++ spliced (placed (line + 1) 1 (drop (at + n) text)) ≡ source_of text
skips_splice source line col text at n is some before = rw (← drop-drop n at text, ← splice_rest line col (drop at text) n is some) before

-- a byte is read
pub reads_byte : (source : List SourceByte) (line col : ℕ) (text : List ℕ) (at : ℕ) → at < length text → 0 ≡ splice_len (drop at text) → source ++ spliced (placed line col (drop at text)) ≡ source_of text → (source ++ record { byte = slice_index text at; line = line; col = col } ∷ []) ++ spliced (placed (line_behind (slice_index text at) line) (col_behind (slice_index text at) col) (drop (at + 1) text)) ≡ source_of text
reads_byte source line col text at lt none before =
    let step : drop at text ≡ slice_index text at ∷ drop (at + 1) text = drop_more text at 0 lt in
    let first = byte_first line col (slice_index text at) (drop (at + 1) text) (sym (none ∙ ap splice_len step)) in
    append_assoc source (record { byte = slice_index text at; line = line; col = col } ∷ []) (spliced (placed (line_behind (slice_index text at) line) (col_behind (slice_index text at) col) (drop (at + 1) text)))
    ∙ ap (λ (s : List SourceByte). source ++ s) (sym (ap (λ (l : List ℕ). spliced (placed line col l)) step ∙ first))
    ∙ before

pub line_bound : (byte line : ℕ) → line_behind byte line ≤ line + 1
line_bound byte line = cond_both (byte == 10) (line + 1) line (λ n. n ≤ line + 1) (λ _. omega arith) (λ _. omega arith)

pub col_bound : (byte col : ℕ) → col_behind byte col ≤ col + 1
col_bound byte col = cond_both (byte == 10) 1 (col + 1) (λ n. n ≤ col + 1) (λ _. omega arith) (λ _. omega arith)
