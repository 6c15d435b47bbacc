-- Every text has tokens or is refused.
use Rattle.std.proofs.Common.{◌≡◌, ℕ, zero, suc, ◌<◌, ◌≤◌, Bool, true, false, not, ◌||◌, List, [], ◌∷◌, length, take, drop, refl, ap, ◌∙◌, arith, inl, inr, ◌⊎◌, length-drop}
use Rattle.std.specs.Prelude.{codes}
use Rattle.std.specs.List.{list_any, prefix_len}
use Rattle.std.proofs.lemmas.List.{length-map}
use Rattle.std.proofs.lemmas.Bool.{cases_Bool, or_cases, or_from, cases_order}
use Rattle.nm_base.specs.declared.token.Kind.{Kind}
use Rattle.nm_base.specs.declared.token.Kind.TheVariants.{Word, Number, Char, Text, Sign}
use Rattle.nm_base.specs.declared.token.Token.{Token}
use Rattle.nm_base.specs.declared.refusal.Refusal.{Refusal}
use Rattle.nm_base.specs.declared.refusal.Refusal.TheVariants.{BadChar, OpenComment}
use Rattle.nesc_tokens.specs.declared.splice.SourceByte.{SourceByte}
use Rattle.nesc_tokens.specs.declared.pieces.Sort.{Sort}
use Rattle.nesc_tokens.specs.declared.pieces.Sort.TheVariants.{WhiteSpace, LineComment, BlockComment, Lexeme}
use Rattle.nesc_tokens.specs.CodePoints.{ends_line, is_white_space}
use Rattle.nesc_tokens.specs.Splices.{source_of}
use Rattle.nesc_tokens.specs.Spelling.{spells}
use Rattle.nesc_tokens.specs.Lexes.{bytes_of, begins, begins_comment, is_closed_comment, Stands, place_of, Lexes, BeginsNone, BeginsOpen, IsRefused}
use Rattle.nesc_tokens.proofs.Runs.{run_within}
use Rattle.nesc_tokens.proofs.Cuts.{Reached, reached_none, reached_piece, line_comment_some}
use Rattle.nesc_tokens.proofs.Determined.{spelled_some}
use Rattle.nesc_tokens.proofs.Tested.{is_spelled, no_kind}

-- ---- the first and the last front that passes

pub record IsFirst (test : List ℕ → Bool) (limit n : ℕ) (bytes : List ℕ) : Type 0 where
  pub within : n ≤ limit
  pub passes : test (take n bytes) ≡ true
  pub first : (m : ℕ) → m < n → test (take m bytes) ≡ false

abbrev pub NonePass : (List ℕ → Bool) → ℕ → List ℕ → Type 0
NonePass test limit bytes = (m : ℕ) → m ≤ limit → test (take m bytes) ≡ false

more_fail : (test : List ℕ → Bool) (limit : ℕ) (bytes : List ℕ) → NonePass test limit bytes → test (take (suc limit) bytes) ≡ false → NonePass test (suc limit) bytes
more_fail test limit bytes none fails m le = elim (cases_order m (suc limit)) [
  | inl here ↦ ap (λ (k : ℕ). test (take k bytes)) here ∙ fails
  | inr (inl less) ↦ none m (omega arith)
  | inr (inr more) ↦ absurd (omega arith)
]

first_front : (test : List ℕ → Bool) (limit : ℕ) (bytes : List ℕ) → ((n : ℕ) × IsFirst test limit n bytes) ⊎ NonePass test limit bytes
first_front test zero bytes = elim (cases_Bool (test (take 0 bytes))) [
  | inl passes ↦ inl (0, record { within = omega arith; passes = passes; first = λ m lt. absurd (omega arith) })
  | inr fails ↦ inr (λ m le. let here : m ≡ 0 = omega arith in ap (λ (k : ℕ). test (take k bytes)) here ∙ fails)
]
first_front test (suc limit) bytes = elim (first_front test limit bytes) [
  | inl found ↦ inl (found.0, record { within = omega (arith, found.1.within); passes = found.1.passes; first = found.1.first })
  | inr none ↦ elim (cases_Bool (test (take (suc limit) bytes))) [
    | inl passes ↦ inl (suc limit, record { within = omega arith; passes = passes; first = λ m lt. none m (omega arith) })
    | inr fails ↦ inr (more_fail test limit bytes none fails)
  ]
]

pub record IsLast (test : List ℕ → Bool) (limit n : ℕ) (bytes : List ℕ) : Type 0 where
  pub within : n ≤ limit
  pub passes : test (take n bytes) ≡ true
  pub last : (m : ℕ) → n < m → m ≤ limit → test (take m bytes) ≡ false

last_front : (test : List ℕ → Bool) (limit : ℕ) (bytes : List ℕ) → ((n : ℕ) × IsLast test limit n bytes) ⊎ NonePass test limit bytes
last_front test zero bytes = elim (cases_Bool (test (take 0 bytes))) [
  | inl passes ↦ inl (0, record { within = omega arith; passes = passes; last = λ m lt le. absurd (omega arith) })
  | inr fails ↦ inr (λ m le. let here : m ≡ 0 = omega arith in ap (λ (k : ℕ). test (take k bytes)) here ∙ fails)
]
last_front test (suc limit) bytes = elim (cases_Bool (test (take (suc limit) bytes))) [
  | inl passes ↦ inl (suc limit, record { within = omega arith; passes = passes; last = λ m lt le. absurd (omega arith) })
  | inr fails ↦ elim (last_front test limit bytes) [
    | inl found ↦ inl (
      found.0,
      record {
        within = omega (arith, found.1.within);
        passes = found.1.passes;
        last = λ m lt le. elim (cases_order m (suc limit)) [
          | inl here ↦ ap (λ (k : ℕ). test (take k bytes)) here ∙ fails
          | inr (inl less) ↦ found.1.last m lt (omega arith)
          | inr (inr more) ↦ absurd (omega arith)
        ];
      },
    )
    | inr none ↦ inr (more_fail test limit bytes none fails)
  ]
]

-- ---- what stands at the front

some_kind : (bytes : List ℕ) → is_spelled bytes ≡ true → (kind : Kind) × (spells kind bytes ≡ true)
some_kind bytes e = elim (or_cases (spells Word bytes || spells Number bytes || spells Char bytes || spells Text bytes) (spells Sign bytes) e) [
  | inr sign ↦ (Sign, sign)
  | inl e ↦ elim (or_cases (spells Word bytes || spells Number bytes || spells Char bytes) (spells Text bytes) e) [
    | inr text ↦ (Text, text)
    | inl e ↦ elim (or_cases (spells Word bytes || spells Number bytes) (spells Char bytes) e) [
      | inr char ↦ (Char, char)
      | inl e ↦ elim (or_cases (spells Word bytes) (spells Number bytes) e) [
        | inl word ↦ (Word, word)
        | inr number ↦ (Number, number)
      ]
    ]
  ]
]

abbrev pub HasPiece : List ℕ → Type 0
HasPiece bytes = (sort : Sort) × (n : ℕ) × (0 < n) × (n ≤ length bytes) × Stands sort n bytes

lexeme_or_none : (bytes : List ℕ) → 0 < length bytes → list_any is_white_space (take 1 bytes) ≡ false → begins_comment bytes ≡ false → HasPiece bytes ⊎ BeginsNone bytes
lexeme_or_none bytes some blank comment = elim (last_front is_spelled (length bytes) bytes) [
  | inl found ↦
      let kind = some_kind (take found.0 bytes) found.1.passes in
      inl (
        Lexeme kind.0,
        found.0,
        (spelled_some kind.0 found.0 bytes kind.1).0,
        found.1.within,
        (
          comment,
          record {
            within = found.1.within;
            spelled = kind.1;
            longest = λ other m lt le. no_kind other (take m bytes) (found.1.last m lt le);
          },
        ),
      )
  | inr none ↦ inr (record { some = some; no_white_space = blank; no_comment = comment; no_token = λ kind n le. no_kind kind (take n bytes) (none n le) })
]

comment_or_open : (bytes : List ℕ) → begins (codes "/*") bytes ≡ true → HasPiece bytes ⊎ BeginsOpen bytes
comment_or_open bytes opened = elim (first_front is_closed_comment (length bytes) bytes) [
  | inl found ↦ inl (BlockComment, found.0, closed_some found.0 bytes found.1.passes, found.1.within, record { within = found.1.within; closed = found.1.passes; first = found.1.first })
  | inr none ↦ inr (record { opened = opened; no_end = none })
]
  where
    closed_some : (n : ℕ) (bytes : List ℕ) → is_closed_comment (take n bytes) ≡ true → 0 < n
    closed_some zero bytes e = absurd cc
    closed_some (suc n) bytes e = omega arith

front : (bytes : List ℕ) → 0 < length bytes → HasPiece bytes ⊎ (BeginsNone bytes ⊎ BeginsOpen bytes)
front bytes some = elim (cases_Bool (list_any is_white_space (take 1 bytes))) [
  | inl blank ↦ inl (WhiteSpace, 1, omega arith, omega arith, (refl, blank))
  | inr no-blank ↦ elim (cases_Bool (begins (codes "//") bytes)) [
    | inl line ↦ inl (LineComment, prefix_len (λ b. not (ends_line b)) bytes, line_comment_some bytes line, run_within (λ b. not (ends_line b)) bytes, (refl, line))
    | inr no-line ↦ elim (cases_Bool (begins (codes "/*") bytes)) [
      | inl block ↦ elim (comment_or_open bytes block) [
        | inl piece ↦ inl piece
        | inr open_ ↦ inr (inr open_)
      ]
      | inr no-block ↦ elim (lexeme_or_none bytes some no-blank (or_from _ _ no-line no-block)) [
        | inl piece ↦ inl piece
        | inr none ↦ inr (inl none)
      ]
    ]
  ]
]

-- ---- whole texts

abbrev pub Answered : ℕ → List ℕ → Type 0
Answered file text = ((tokens : List Token) × Lexes file text tokens) ⊎ ((refusal : Refusal) × IsRefused file text refusal)

answered_from : (file : ℕ) (text : List ℕ) (fuel : ℕ) (rest : List SourceByte) (first : Bool) (tokens : List Token) → length rest ≤ fuel → Reached file text rest first tokens → Answered file text
answered_from file text fuel [] first tokens le before = inl (tokens, record { pieces = before.pieces; divided = before.divided; are_theirs = before.theirs })
answered_from file text zero (s ∷ rest) first tokens le before = absurd (omega arith)
answered_from file text (suc fuel) (s ∷ rest) first tokens le before = elim (front (bytes_of (s ∷ rest)) (omega arith)) [
  | inl piece ↦
      let len : length (bytes_of (s ∷ rest)) ≡ length (s ∷ rest) = length-map (s ∷ rest) (λ (b : SourceByte). b.byte) in
      let within : piece.1 ≤ length (s ∷ rest) = omega (arith, piece.3, len) in
      answered_from file text fuel (drop piece.1 (s ∷ rest)) _ _ (omega (arith, piece.2, length-drop piece.1 (s ∷ rest))) (reached_piece file text (s ∷ rest) first tokens piece.0 piece.1 within piece.4 before)
  | inr (inl none) ↦ inr (BadChar (place_of file (s ∷ rest)), record { pieces = before.pieces; rest = s ∷ rest; divided = before.divided; why = (none, refl) })
  | inr (inr open_) ↦ inr (OpenComment (place_of file (s ∷ rest)), record { pieces = before.pieces; rest = s ∷ rest; divided = before.divided; why = (open_, refl) })
]

pub answered : (file : ℕ) (text : List ℕ) → Answered file text
answered file text = answered_from file text (length (source_of text)) (source_of text) true [] (omega arith) (reached_none file text)
