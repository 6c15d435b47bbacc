-- A text of whole words divides into them and white space.
use Rattle.std.proofs.Common.{◌≡◌, ℕ, suc, Bool, true, false, not, List, [], ◌∷◌, ◌++◌, map, length, refl, sym, ap, subst, ◌∙◌, inl, inr, append_assoc}
use Rattle.std.specs.Prelude.{◌==◌}
use Rattle.std.specs.List.{list_all}
use Rattle.std.proofs.lemmas.Bool.{cases_Bool, or_cases, or_left, or_right, eqb-true}
use Rattle.std.proofs.lemmas.List.{append-nil}
use Rattle.nm_base.specs.declared.token.Kind.{Kind}
use Rattle.nesc_tokens.specs.declared.splice.SourceByte.{SourceByte}
use Rattle.nesc_tokens.specs.declared.pieces.Sort.TheVariants as sort
use Rattle.nesc_tokens.specs.CodePoints.{is_word_byte, is_white_space}
use Rattle.nesc_tokens.specs.Spelling.{spells}
use Rattle.nesc_tokens.specs.Splices.{placed, source_of, line_behind, col_behind}
use Rattle.nesc_tokens.specs.Lexes.{bytes_of, begins_comment, IsLongest, Piece, Divides, tokens_of}
use Rattle.nesc_tokens.proofs.Runs.{not_both}
use Rattle.nesc_tokens.proofs.LexemeKinds.{empty_is_none}
use Rattle.printed_words.specs.LaidOut.{Lexeme, lexeme_of, is_whole, goes_on, is_layout, is_apart, may_follow, may_stand_behind, Laid, nothing, white, word, LaidWordsLex}
use Rattle.printed_words.proofs.Stays.{stays_whole}
use Rattle.printed_words.proofs.Feeds.{laid_source, whole_parts}

-- ---- what may follow

layout_apart : (a b : ℕ) → is_layout b ≡ true → is_apart a b ≡ true
layout_apart a b is = elim (or_cases (b == 32) (b == 10) is) [
  | inl blank ↦ subst (λ (c : ℕ). is_apart a c ≡ true) (sym (eqb-true b 32 blank)) (cases a 32 refl refl)
  | inr feed ↦ subst (λ (c : ℕ). is_apart a c ≡ true) (sym (eqb-true b 10 feed)) (cases a 10 refl refl)
]
  where
    cases : (a b : ℕ) → not (is_word_byte b) ≡ true → not (goes_on b) ≡ true → is_apart a b ≡ true
    cases a b none goes = elim (cases_Bool (is_word_byte a)) [
      | inl is ↦ rw is none
      | inr other ↦ rw other (or_right _ _ goes)
    ]

layout_follows : (text : List ℕ) (b : ℕ) → is_layout b ≡ true → may_follow text b ≡ true
layout_follows [] b is = refl
layout_follows (a ∷ []) b is = layout_apart a b is
layout_follows (a ∷ c ∷ text) b is = layout_follows (c ∷ text) b is

follows_last : (xs : List ℕ) (y : ℕ) (ys : List ℕ) (b : ℕ) → may_follow (xs ++ y ∷ ys) b ≡ may_follow (y ∷ ys) b
follows_last [] y ys b = refl
follows_last (x ∷ []) y ys b = refl
follows_last (x ∷ z ∷ xs) y ys b = follows_last (z ∷ xs) y ys b

stands_behind_last : (kind : Kind) (before text rest : List ℕ) → spells kind text ≡ true → may_stand_behind (before ++ text) rest ≡ true → may_stand_behind text rest ≡ true
stands_behind_last kind before [] rest whole apart = not_both _ whole (empty_is_none kind)
stands_behind_last kind before (x ∷ xs) [] whole apart = refl
stands_behind_last kind before (x ∷ xs) (b ∷ rest) whole apart = sym (follows_last before x xs b) ∙ apart

stands_first : (kind : Kind) (before text rest : List ℕ) → spells kind text ≡ true → may_stand_behind before text ≡ true → may_stand_behind before (text ++ rest) ≡ true
stands_first kind before [] rest whole apart = not_both _ whole (empty_is_none kind)
stands_first kind before (x ∷ xs) rest whole apart = apart

-- ---- pieces

placed_behind : (line col : ℕ) (xs ys : List ℕ) → (l : ℕ) × (c : ℕ) × (placed line col (xs ++ ys) ≡ placed line col xs ++ placed l c ys)
placed_behind line col [] ys = (line, col, refl)
placed_behind line col (x ∷ xs) ys =
    let more = placed_behind (line_behind x line) (col_behind x col) xs ys in
    (more.0, more.1, ap (λ (l : List SourceByte). record { byte = x; line = line; col = col } ∷ l) more.2)

bytes_placed : (line col : ℕ) (text : List ℕ) → bytes_of (placed line col text) ≡ text
bytes_placed line col [] = refl
bytes_placed line col (b ∷ bs) = ap (λ (l : List ℕ). b ∷ l) (bytes_placed (line_behind b line) (col_behind b col) bs)

placed_length : (line col : ℕ) (xs : List ℕ) → length (placed line col xs) ≡ length xs
placed_length line col [] = refl
placed_length line col (x ∷ xs) = ap suc (placed_length (line_behind x line) (col_behind x col) xs)

record Divided (source : List SourceByte) (words : List Lexeme) : Type 0 where
  pub pieces : List Piece
  pub divided : Divides pieces source []
  pub theirs : (file : ℕ) (first : Bool) → map lexeme_of (tokens_of file first pieces) ≡ words

layout_is_white : (b : ℕ) → is_layout b ≡ true → is_white_space b ≡ true
layout_is_white b is = elim (or_cases (b == 32) (b == 10) is) [
  | inl blank ↦ rw (eqb-true b 32 blank) refl
  | inr feed ↦ rw (eqb-true b 10 feed) refl
]

white_piece : (b : ℕ) (rest : List ℕ) (words : List Lexeme) → is_layout b ≡ true → ((line col : ℕ) → Divided (placed line col rest) words) → (line col : ℕ) → Divided (placed line col (b ∷ rest)) words
white_piece b rest words is more line col =
    let inner = more (line_behind b line) (col_behind b col) in
    let here : SourceByte = record { byte = b; line = line; col = col } in
    record {
      pieces = record { sort = sort.WhiteSpace; source = here ∷ [] } ∷ inner.pieces;
      divided = (placed (line_behind b line) (col_behind b col) rest, refl, (refl, or_left _ _ (layout_is_white b is)), inner.divided);
      theirs = λ file first. inner.theirs file _;
    }

word_piece : (w : Lexeme) (rest : List ℕ) (words : List Lexeme) → is_whole w ≡ true → may_stand_behind w.text rest ≡ true → ((line col : ℕ) → Divided (placed line col rest) words) → (line col : ℕ) → Divided (placed line col (w.text ++ rest)) (w ∷ words)
word_piece w rest words whole apart more line col =
    let split = placed_behind line col w.text rest in
    let inner = more split.0 split.1 in
    let stays = stays_whole w.kind w.text rest whole apart in
    let bytes : bytes_of (placed line col (w.text ++ rest)) ≡ w.text ++ rest = bytes_placed line col (w.text ++ rest) in
    record {
      pieces = record { sort = sort.Lexeme w.kind; source = placed line col w.text } ∷ inner.pieces;
      divided = (
        placed split.0 split.1 rest,
        split.2,
        (
          ap begins_comment bytes ∙ stays.0,
          subst (λ (l : List ℕ). IsLongest w.kind (length (placed line col w.text)) l) (sym bytes) (subst (λ (n : ℕ). IsLongest w.kind n (w.text ++ rest)) (sym (placed_length line col w.text)) (stays.1)),
        ),
        inner.divided,
      );
      theirs = λ file first i. record { kind = w.kind; text = bytes_placed line col w.text i } ∷ inner.theirs file false i;
    }

-- ---- the text

opens : (text : List ℕ) (words : List Lexeme) → Laid text words → list_all is_whole words ≡ true → (rest : List ℕ) (others : List Lexeme) → may_stand_behind text rest ≡ true → ((line col : ℕ) → Divided (placed line col rest) others) → (line col : ℕ) → Divided (placed line col (text ++ rest)) (words ++ others)
opens text words (nothing e f) whole rest others apart more line col =
    subst (λ (t : List ℕ). Divided (placed line col (t ++ rest)) (words ++ others)) (sym e) (subst (λ (l : List Lexeme). Divided (placed line col rest) (l ++ others)) (sym f) (more line col))
opens text words (white {before = before} b is e inner) whole rest others apart more line col =
    subst (λ (t : List ℕ). Divided (placed line col (t ++ rest)) (words ++ others)) (sym e)
    (subst (λ (t : List ℕ). Divided (placed line col t) (words ++ others)) (sym (append_assoc before (b ∷ []) rest))
    (opens before words inner whole (b ∷ rest) others (layout_follows before b is) (white_piece b rest others is more) line col))
opens text words (word {before = before} {others = front} w fits e f inner) whole rest others apart more line col =
    let parts = whole_parts front w (subst (λ (l : List Lexeme). list_all is_whole l ≡ true) f whole) in
    let behind : may_stand_behind w.text rest ≡ true = stands_behind_last w.kind before w.text rest parts.1 (subst (λ (t : List ℕ). may_stand_behind t rest ≡ true) e apart) in
    let all = opens before front inner parts.0 (w.text ++ rest) (w ∷ others) (stands_first w.kind before w.text rest parts.1 fits) (word_piece w rest others parts.1 behind more) line col in
    subst (λ (l : List Lexeme). Divided (placed line col (text ++ rest)) (l ++ others)) (sym f)
    (subst (λ (l : List Lexeme). Divided (placed line col (text ++ rest)) l) (sym (append_assoc front (w ∷ []) others))
    (subst (λ (t : List ℕ). Divided (placed line col (t ++ rest)) (front ++ w ∷ others)) (sym e)
    (subst (λ (t : List ℕ). Divided (placed line col t) (front ++ w ∷ others)) (sym (append_assoc before w.text rest)) all)))

nothing_more : (line col : ℕ) → Divided (placed line col []) []
nothing_more line col = record { pieces = []; divided = refl; theirs = λ file first. refl }

pub laid_words_lex : LaidWordsLex
laid_words_lex file text words laid whole =
    let all = opens text words laid whole [] [] refl nothing_more 1 1 in
    let source : placed 1 1 (text ++ []) ≡ source_of text = ap (placed 1 1) (append-nil text) ∙ sym (laid_source text words laid whole) in
    record {
      tokens = tokens_of file true all.pieces;
      lexes = record { pieces = all.pieces; divided = subst (λ (s : List SourceByte). Divides all.pieces s []) source all.divided; are_theirs = refl };
      are_words = all.theirs file true ∙ append-nil words;
    }
