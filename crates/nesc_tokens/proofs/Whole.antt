-- Texts without line splices: their bytes are read as they stand.
use Rattle.std.proofs.Common.{◌≡◌, ℕ, zero, suc, ◌+◌, ◌<◌, ◌≤◌, List, [], ◌∷◌, ◌++◌, length, get_or, take, drop, refl, sym, ap, ◌∙◌, arith, take-append-drop, length-take-le}
use Rattle.std.specs.Prelude.{slice_index, nat_eq, false}
use Rattle.std.specs.List.{list_any}
use Rattle.std.proofs.lemmas.Bool.{or_parts}
use Rattle.std.proofs.lemmas.List.{drop-drop, drop_more, length-map}
use Rattle.nesc_tokens.specs.declared.splice.SourceByte.{SourceByte}
use Rattle.nesc_tokens.specs.Splices.{line_behind, col_behind, placed, spliced, splice_len, source_of}
use Rattle.nesc_tokens.specs.Lexes.{bytes_of}
use Rattle.nesc_tokens.proofs.Splicing.{byte_first}

no_splice_from : (line col : ℕ) (text : List ℕ) → ((k : ℕ) → k < length text → splice_len (drop k text) ≡ 0) → spliced (placed line col text) ≡ placed line col text
no_splice_from line col [] none = refl
no_splice_from line col (b ∷ bs) none =
    byte_first line col b bs (none 0 (omega arith))
    ∙ ap (λ (s : List SourceByte). record { byte = b; line = line; col = col } ∷ s) (no_splice_from (line_behind b line) (col_behind b col) bs (λ k lt. none (suc k) (omega (arith, lt))))

pub read_as_it_stands : (text : List ℕ) → ((k : ℕ) → k < length text → splice_len (drop k text) ≡ 0) → source_of text ≡ placed 1 1 text
read_as_it_stands text none = no_splice_from 1 1 text none

-- no splice begins with another byte than a backslash
no_splice_at : (a : ℕ) (rest : List ℕ) → nat_eq a 92 ≡ false → splice_len (a ∷ rest) ≡ 0
no_splice_at a [] other = refl
no_splice_at a (b ∷ []) other = rw other refl
no_splice_at a (b ∷ c ∷ _) other = rw other refl

pub no_splice_without : (text : List ℕ) → list_any (λ b. nat_eq b 92) text ≡ false → (k : ℕ) → splice_len (drop k text) ≡ 0
no_splice_without [] none zero = refl
no_splice_without [] none (suc k) = refl
no_splice_without (a ∷ rest) none zero = no_splice_at a rest (or_parts _ _ none).0
no_splice_without (a ∷ rest) none (suc k) = no_splice_without rest (or_parts (nat_eq a 92) _ none).1 k

bytes_placed : (line col : ℕ) (text : List ℕ) → bytes_of (placed line col text) ≡ text
bytes_placed line col [] = refl
bytes_placed line col (b ∷ bs) = ap (λ (l : List ℕ). b ∷ l) (bytes_placed (line_behind b line) (col_behind b col) bs)

pub bytes_of_whole : (text : List ℕ) → source_of text ≡ placed 1 1 text → text ≡ bytes_of (source_of text)
bytes_of_whole text whole = sym (ap bytes_of whole ∙ bytes_placed 1 1 text)

pub length_of_whole : (text : List ℕ) → source_of text ≡ placed 1 1 text → length (source_of text) ≡ length text
length_of_whole text whole = sym (length-map (source_of text) (λ (s : SourceByte). s.byte)) ∙ ap length (sym (bytes_of_whole text whole))

abbrev pub byte_at : (text : List ℕ) (at line col : ℕ) → SourceByte
byte_at text at line col = record { byte = slice_index text at; line = line; col = col }

-- the byte at a place
pub here_in : (source : List SourceByte) (text : List ℕ) (at line col : ℕ) → at < length text → length source ≡ length text → drop at source ≡ placed line col (drop at text) → byte_at text at line col ≡ get_or source at (byte_at text at line col)
here_in source text at line col lt len is =
    let d : SourceByte = record { byte = slice_index text at; line = line; col = col } in
    let front : drop at source ≡ get_or source at d ∷ drop (at + 1) source = drop_more source at d (omega (arith, len, lt)) in
    let bytes : drop at text ≡ slice_index text at ∷ drop (at + 1) text = drop_more text at 0 lt in
    ap (λ (l : List SourceByte). get_or l 0 d) (sym (ap (placed line col) bytes)) ∙ ap (λ (l : List SourceByte). get_or l 0 d) (sym is) ∙ ap (λ (l : List SourceByte). get_or l 0 d) front

-- one more byte
pub one_behind : (line col line' col' : ℕ) (piece rest : List ℕ) (k : ℕ) → k < length piece → drop k (placed line col (piece ++ rest)) ≡ placed line' col' (drop k piece ++ rest)
    → drop (k + 1) (placed line col (piece ++ rest)) ≡ placed (line_behind (slice_index piece k) line') (col_behind (slice_index piece k) col') (drop (k + 1) piece ++ rest)
one_behind line col line' col' piece rest k lt before =
    let front : drop k piece ≡ slice_index piece k ∷ drop (k + 1) piece = drop_more piece k 0 lt in
    sym (drop-drop 1 k (placed line col (piece ++ rest))) ∙ ap (drop 1) (before ∙ ap (λ (l : List ℕ). placed line' col' (l ++ rest)) front)

-- behind a piece
pub moved : (source : List SourceByte) (text : List ℕ) (at n line col line' col' : ℕ) (piece : List ℕ) → n ≤ length (drop at text) → piece ≡ take n (drop at text) → drop at source ≡ placed line col (drop at text)
    → ((rest : List ℕ) → drop (length piece) (placed line col (piece ++ rest)) ≡ placed line' col' rest) → drop (at + n) source ≡ placed line' col' (drop (at + n) text)
moved source text at n line col line' col' piece le piece-is before step =
    let rest = drop (at + n) text in
    let whole : piece ++ rest ≡ drop at text = (λ i. piece-is i ++ sym (drop-drop n at text) i) ∙ take-append-drop n (drop at text) in
    let len : n ≡ length piece = sym (length-take-le n (drop at text) le) ∙ ap length (sym piece-is) in
    sym (drop-drop n at source)
    ∙ ap (drop n) (before ∙ ap (placed line col) (sym whole))
    ∙ ap (λ (k : ℕ). drop k (placed line col (piece ++ rest))) len
    ∙ step rest
