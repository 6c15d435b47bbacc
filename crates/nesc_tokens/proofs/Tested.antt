-- Lexing told by tests that compute, for texts that are written out.
use Rattle.std.proofs.Common.{◌≡◌, ℕ, zero, suc, ◌+◌, ◌-◌, ◌<◌, ◌≤◌, Bool, true, false, not, ◌&&◌, ◌||◌, List, [], ◌∷◌, length, take, drop, refl, sym, ap, subst, ◌∙◌, arith, inl, inr, length-take-le, take-append-drop}
use Rattle.std.specs.Prelude.{codes, nat_le, ◌==◌}
use Rattle.std.specs.List.{list_any, prefix_len}
use Rattle.std.proofs.lemmas.Bool.{and_parts, or_parts, not-true, eqb-true, leb-true, cases_order}
use Rattle.nm_base.specs.declared.token.Kind.{Kind}
use Rattle.nm_base.specs.declared.token.Kind.TheVariants.{Word, Number, Char, Text, Sign}
use Rattle.nm_base.specs.declared.token.Token.{Token}
use Rattle.nm_base.specs.declared.pos.Pos.{Pos}
use Rattle.nm_base.specs.declared.refusal.Refusal.TheVariants.{BadChar, OpenComment}
use Rattle.nesc_tokens.specs.declared.splice.SourceByte.{SourceByte}
use Rattle.nesc_tokens.specs.declared.pieces.Sort.{Sort}
use Rattle.nesc_tokens.specs.declared.pieces.Sort.TheVariants.{WhiteSpace, LineComment, BlockComment, Lexeme}
use Rattle.nesc_tokens.specs.CodePoints.{ends_line, is_white_space}
use Rattle.nesc_tokens.specs.Splices.{source_of}
use Rattle.nesc_tokens.specs.Spelling.{spells}
use Rattle.nesc_tokens.specs.Lexes.{bytes_of, begins, begins_comment, is_closed_comment, Stands, Piece, Divides, place_of, tokens_of, Lexes, BeginsNone, BeginsOpen, IsRefused}

-- ---- tests

abbrev pub is_spelled : List ℕ → Bool
is_spelled bytes = spells Word bytes || spells Number bytes || spells Char bytes || spells Text bytes || spells Sign bytes

-- none of the fronts of n + 1 to n + count bytes passes
abbrev none_above : (List ℕ → Bool) → ℕ → ℕ → List ℕ → Bool
none_above test n zero bytes = true
none_above test n (suc count) bytes = not (test (take (n + suc count) bytes)) && none_above test n count bytes

abbrev stands : Sort → ℕ → List ℕ → Bool
stands WhiteSpace n bytes = n == 1 && list_any is_white_space (take 1 bytes)
stands LineComment n bytes = n == prefix_len (λ b. not (ends_line b)) bytes && begins (codes "//") bytes
stands BlockComment n bytes = nat_le n (length bytes) && is_closed_comment (take n bytes) && not (is_closed_comment (take 0 bytes)) && none_above is_closed_comment 0 (n - 1) bytes
stands (Lexeme kind) n bytes = not (begins_comment bytes) && nat_le n (length bytes) && spells kind (take n bytes) && none_above is_spelled n (length bytes - n) bytes

pub record Cut : Type 0 where
  pub sort : Sort
  pub len : ℕ

abbrev pub pieces_by : List Cut → List SourceByte → List Piece
pieces_by [] source = []
pieces_by (c ∷ cs) source = record { sort = c.sort; source = take c.len source } ∷ pieces_by cs (drop c.len source)

abbrev pub rest_by : List Cut → List SourceByte → List SourceByte
rest_by [] source = source
rest_by (c ∷ cs) source = rest_by cs (drop c.len source)

abbrev pub divides : List Cut → List SourceByte → Bool
divides [] source = true
divides (c ∷ cs) source = nat_le c.len (length source) && stands c.sort c.len (bytes_of source) && divides cs (drop c.len source)

-- ---- what they tell

all_none : (test : List ℕ → Bool) (n count : ℕ) (bytes : List ℕ) → none_above test n count bytes ≡ true → (m : ℕ) → n < m → m ≤ n + count → test (take m bytes) ≡ false
all_none test n zero bytes none m lt le = absurd (omega arith)
all_none test n (suc count) bytes none m lt le =
    let parts = and_parts (not (test (take (n + suc count) bytes))) (none_above test n count bytes) none in
    elim (cases_order m (n + suc count)) [
      | inl here ↦ ap (λ (k : ℕ). test (take k bytes)) here ∙ not-true (test (take (n + suc count) bytes)) parts.0
      | inr (inl less) ↦ all_none test n count bytes parts.1 m lt (omega arith)
      | inr (inr more) ↦ absurd (omega arith)
    ]

pub no_kind : (kind : Kind) (bytes : List ℕ) → is_spelled bytes ≡ false → spells kind bytes ≡ false
no_kind Word bytes e = (or_parts _ _ (or_parts _ _ (or_parts _ _ (or_parts _ _ e).0).0).0).0
no_kind Number bytes e = (or_parts _ _ (or_parts _ _ (or_parts _ _ (or_parts _ _ e).0).0).0).1
no_kind Char bytes e = (or_parts _ _ (or_parts _ _ (or_parts _ _ e).0).0).1
no_kind Text bytes e = (or_parts _ _ (or_parts _ _ e).0).1
no_kind Sign bytes e = (or_parts _ _ e).1

stands_told : (sort : Sort) (n : ℕ) (bytes : List ℕ) → stands sort n bytes ≡ true → Stands sort n bytes
stands_told WhiteSpace n bytes e = let parts = and_parts (n == 1) _ e in (eqb-true n 1 parts.0, parts.1)
stands_told LineComment n bytes e = let parts = and_parts (n == prefix_len (λ b. not (ends_line b)) bytes) _ e in (eqb-true n _ parts.0, parts.1)
stands_told BlockComment n bytes e =
    let last = and_parts _ (none_above is_closed_comment 0 (n - 1) bytes) e in
    let second = and_parts _ (not (is_closed_comment (take 0 bytes))) last.0 in
    let first = and_parts (nat_le n (length bytes)) _ second.0 in
    record {
      within = leb-true n (length bytes) first.0;
      closed = first.1;
      first = λ m lt. elim (cases_order 0 m) [
        | inl none ↦ ap (λ (k : ℕ). is_closed_comment (take k bytes)) (sym none) ∙ not-true _ second.1
        | inr (inl some) ↦ all_none is_closed_comment 0 (n - 1) bytes last.1 m some (omega arith)
        | inr (inr below) ↦ absurd (omega arith)
      ];
    }
stands_told (Lexeme kind) n bytes e =
    let last = and_parts _ (none_above is_spelled n (length bytes - n) bytes) e in
    let second = and_parts _ (spells kind (take n bytes)) last.0 in
    let first = and_parts (not (begins_comment bytes)) (nat_le n (length bytes)) second.0 in
    let within : n ≤ length bytes = leb-true n (length bytes) first.1 in (
      not-true (begins_comment bytes) first.0,
      record {
        within = within;
        spelled = second.1;
        longest = λ other m lt le. no_kind other (take m bytes) (all_none is_spelled n (length bytes - n) bytes last.1 m lt (omega arith));
      },
    )

divides_told : (cuts : List Cut) (source : List SourceByte) → divides cuts source ≡ true → Divides (pieces_by cuts source) source (rest_by cuts source)
divides_told [] source e = refl
divides_told (c ∷ cs) source e =
    let last = and_parts _ (divides cs (drop c.len source)) e in
    let first = and_parts (nat_le c.len (length source)) (stands c.sort c.len (bytes_of source)) last.0 in
    let len : length (take c.len source) ≡ c.len = length-take-le c.len source (leb-true c.len (length source) first.0) in
    (drop c.len source, sym (take-append-drop c.len source), subst (λ (n : ℕ). Stands c.sort n (bytes_of source)) (sym len) (stands_told c.sort c.len (bytes_of source) first.1), divides_told cs (drop c.len source) last.1)

-- ---- whole texts

pub row_lexes : (text : List ℕ) (cuts : List Cut) (tokens : List Token) → divides cuts (source_of text) ≡ true → rest_by cuts (source_of text) ≡ [] → tokens ≡ tokens_of 0 true (pieces_by cuts (source_of text)) → Lexes 0 text tokens
row_lexes text cuts tokens e rest theirs = record {
  pieces = pieces_by cuts (source_of text);
  divided = subst (λ (r : List SourceByte). Divides (pieces_by cuts (source_of text)) (source_of text) r) rest (divides_told cuts (source_of text) e);
  are_theirs = theirs;
}

abbrev pub begins_none : List ℕ → Bool
begins_none bytes =
    nat_le 1 (length bytes) && not (list_any is_white_space (take 1 bytes)) && not (begins_comment bytes) && not (is_spelled (take 0 bytes))
    && none_above is_spelled 0 (length bytes) bytes

abbrev pub begins_open : List ℕ → Bool
begins_open bytes = begins (codes "/*") bytes && not (is_closed_comment (take 0 bytes)) && none_above is_closed_comment 0 (length bytes) bytes

any_front : (test : List ℕ → Bool) (bytes : List ℕ) → not (test (take 0 bytes)) ≡ true → none_above test 0 (length bytes) bytes ≡ true → (n : ℕ) → n ≤ length bytes → test (take n bytes) ≡ false
any_front test bytes empty none n le = elim (cases_order 0 n) [
  | inl nothing ↦ ap (λ (k : ℕ). test (take k bytes)) (sym nothing) ∙ not-true _ empty
  | inr (inl some) ↦ all_none test 0 (length bytes) bytes none n some (omega arith)
  | inr (inr below) ↦ absurd (omega arith)
]

none_told : (bytes : List ℕ) → begins_none bytes ≡ true → BeginsNone bytes
none_told bytes e =
    let last = and_parts _ (none_above is_spelled 0 (length bytes) bytes) e in
    let third = and_parts _ (not (is_spelled (take 0 bytes))) last.0 in
    let second = and_parts _ (not (begins_comment bytes)) third.0 in
    let first = and_parts (nat_le 1 (length bytes)) (not (list_any is_white_space (take 1 bytes))) second.0 in
    record {
      some = leb-true 1 (length bytes) first.0;
      no_white_space = not-true _ first.1;
      no_comment = not-true _ second.1;
      no_token = λ kind n le. no_kind kind (take n bytes) (any_front is_spelled bytes third.1 last.1 n le);
    }

open_told : (bytes : List ℕ) → begins_open bytes ≡ true → BeginsOpen bytes
open_told bytes e =
    let last = and_parts _ (none_above is_closed_comment 0 (length bytes) bytes) e in
    let first = and_parts (begins (codes "/*") bytes) (not (is_closed_comment (take 0 bytes))) last.0 in
    record { opened = first.0; no_end = any_front is_closed_comment bytes first.1 last.1 }

pub row_bad : (text : List ℕ) (cuts : List Cut) (p : Pos) → divides cuts (source_of text) ≡ true → begins_none (bytes_of (rest_by cuts (source_of text))) ≡ true → p ≡ place_of 0 (rest_by cuts (source_of text)) → IsRefused 0 text (BadChar p)
row_bad text cuts p e none place = record {
  pieces = pieces_by cuts (source_of text);
  rest = rest_by cuts (source_of text);
  divided = divides_told cuts (source_of text) e;
  why = (none_told (bytes_of (rest_by cuts (source_of text))) none, place);
}

pub row_open : (text : List ℕ) (cuts : List Cut) (p : Pos) → divides cuts (source_of text) ≡ true → begins_open (bytes_of (rest_by cuts (source_of text))) ≡ true → p ≡ place_of 0 (rest_by cuts (source_of text)) → IsRefused 0 text (OpenComment p)
row_open text cuts p e open_ place = record {
  pieces = pieces_by cuts (source_of text);
  rest = rest_by cuts (source_of text);
  divided = divides_told cuts (source_of text) e;
  why = (open_told (bytes_of (rest_by cuts (source_of text))) open_, place);
}
