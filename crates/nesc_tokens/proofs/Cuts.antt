-- Cutting a text into pieces, one more at a time.
use Rattle.std.proofs.Common.{◌≡◌, ℕ, zero, suc, ◌+◌, ◌<◌, ◌≤◌, Bool, true, false, not, ◌&&◌, List, [], ◌∷◌, ◌++◌, length, get_or, take, drop, refl, sym, ap, subst, ◌∙◌, arith, length-take-le, take-append-drop, length-drop, one-add, append_assoc}
use Rattle.std.specs.Prelude.{nat_eq, codes}
use Rattle.std.specs.List.{prefix_len}
use Rattle.std.proofs.lemmas.List.{take_all, drop-map, take-map, length-map, drop-drop, append-nil}
use Rattle.nm_base.specs.declared.refusal.Refusal.{Refusal}
use Rattle.nm_base.specs.declared.token.Token.{Token}
use Rattle.nesc_tokens.specs.declared.splice.SourceByte.{SourceByte}
use Rattle.nesc_tokens.specs.declared.pieces.Sort.{Sort}
use Rattle.nesc_tokens.specs.Splices.{source_of}
use Rattle.nesc_tokens.specs.Lexes.{bytes_of, Stands, Piece, Divides, tokens_of, place_of, tokens_of_piece, first_behind, IsRefused, Why, begins}
use Rattle.nesc_tokens.specs.CodePoints.{ends_line}
use Rattle.nesc_tokens.specs.Begins.{Begins}
use Rattle.nm_base.specs.declared.pos.Pos.{Pos}
use Rattle.nesc_tokens.specs.declared.pieces.Front.{Front}
use Rattle.nesc_tokens.specs.declared.pieces.Front.TheVariants as front
use Rattle.std.proofs.lemmas.Bool.{and_parts, eqb-true}

pub cut_push : (ps : List Piece) (p : Piece) (source rest after : List SourceByte) → Divides ps source rest → rest ≡ p.source ++ after → Stands p.sort (length p.source) (bytes_of rest) → Divides (ps ++ p ∷ []) source after
cut_push [] p source rest after cut parts stands = (after, cut ∙ parts, subst (λ (s : List SourceByte). Stands p.sort (length p.source) (bytes_of s)) (sym cut) stands, refl)
cut_push (q ∷ ps) p source rest after cut parts stands = (cut.0, cut.1, cut.2, cut_push ps p cut.0 rest after cut.3 parts stands)

-- whether a token that comes next is the first of its line
abbrev pub first_after : Bool → List Piece → Bool
first_after first [] = first
first_after first (p ∷ ps) = first_after (first_behind p.sort (bytes_of p.source) first) ps

pub first_push : (ps : List Piece) (first : Bool) (p : Piece) → first_after first (ps ++ p ∷ []) ≡ first_behind p.sort (bytes_of p.source) (first_after first ps)
first_push [] first p = refl
first_push (q ∷ ps) first p = first_push ps _ p

pub tokens_push : (file : ℕ) (ps : List Piece) (first : Bool) (p : Piece) → tokens_of file first (ps ++ p ∷ []) ≡ tokens_of file first ps ++ tokens_of_piece p.sort (bytes_of p.source) (place_of file p.source) (first_after first ps)
tokens_push file [] first p = append-nil _
tokens_push file (q ∷ ps) first p =
    let here = tokens_of_piece q.sort (bytes_of q.source) (place_of file q.source) first in
    let then = first_behind q.sort (bytes_of q.source) first in
    rw (tokens_push file ps then p) (sym (append_assoc here (tokens_of file then ps) (tokens_of_piece p.sort (bytes_of p.source) (place_of file p.source) (first_after then ps))))

-- what was cut and tokens_of_piece when the rest of a text is still to be read
pub record Reached (file : ℕ) (text : List ℕ) (rest : List SourceByte) (first : Bool) (tokens : List Token) : Type 0 where
  pub pieces : List Piece
  pub divided : Divides pieces (source_of text) rest
  pub theirs : tokens ≡ tokens_of file true pieces
  pub fresh : first ≡ first_after true pieces

pub reached_none : (file : ℕ) (text : List ℕ) → Reached file text (source_of text) true []
reached_none file text = record { pieces = []; divided = refl; theirs = refl; fresh = refl }

-- one more piece
pub reached_piece : (file : ℕ) (text : List ℕ) (rest : List SourceByte) (first : Bool) (tokens : List Token) (sort : Sort) (n : ℕ) → n ≤ length rest → Stands sort n (bytes_of rest) → Reached file text rest first tokens → Reached file text (drop n rest) (first_behind sort (bytes_of (take n rest)) first) (tokens ++ tokens_of_piece sort (bytes_of (take n rest)) (place_of file (take n rest)) first)
reached_piece file text rest first tokens sort n le stands before =
    let p : Piece = record { sort = sort; source = take n rest } in
    let stands-here : Stands p.sort (length p.source) (bytes_of rest) = rw (length-take-le n rest le) stands in
    record {
      pieces = before.pieces ++ p ∷ [];
      divided = cut_push before.pieces p (source_of text) rest (drop n rest) before.divided (sym (take-append-drop n rest)) stands-here;
      theirs = (λ i. before.theirs i ++ tokens_of_piece sort (bytes_of (take n rest)) (place_of file (take n rest)) (before.fresh i)) ∙ sym (tokens_push file before.pieces true p);
      fresh = ap (λ (f : Bool). first_behind sort (bytes_of (take n rest)) f) before.fresh ∙ sym (first_push before.pieces true p);
    }

rest_bytes : (source : List SourceByte) (bytes : List ℕ) (at : ℕ) → bytes ≡ bytes_of source → drop at bytes ≡ bytes_of (drop at source)
rest_bytes source bytes at are = ap (drop at) are ∙ drop-map (λ (s : SourceByte). s.byte) at source

pub place_at : (file : ℕ) (source : List SourceByte) (at n : ℕ) (s : SourceByte) → 0 < n → at < length source → s ≡ get_or source at s → record { file = file; line = s.line; col = s.col } ≡ place_of file (take n (drop at source))
place_at file [] at n s some lt is = absurd (omega arith)
place_at file (x ∷ source) (suc at) n s some lt is = place_at file source at n s some (omega arith) is
place_at file (x ∷ source) zero zero s some lt is = absurd (omega arith)
place_at file (x ∷ source) zero (suc n) s some lt is = ap (λ (t : SourceByte). record { file = file; line = t.line; col = t.col }) is

-- one more piece, where a text is read by a place in it
pub reached_next : (file : ℕ) (text : List ℕ) (source : List SourceByte) (bytes : List ℕ) (at : ℕ) (first : Bool) (tokens : List Token) (sort : Sort) (n : ℕ) → bytes ≡ bytes_of source → at ≤ length source → n ≤ length (drop at bytes) → Stands sort n (drop at bytes) → Reached file text (drop at source) first tokens → (at + n ≤ length source) × Reached file text (drop (at + n) source) (first_behind sort (take n (drop at bytes)) first) (tokens ++ tokens_of_piece sort (take n (drop at bytes)) (place_of file (take n (drop at source))) first)
reached_next file text source bytes at first tokens sort n are le within stands before =
    let rest-are : drop at bytes ≡ bytes_of (drop at source) = rest_bytes source bytes at are in
    let fits : n ≤ length (drop at source) = omega (arith, within, ap length rest-are, length-map (drop at source) (λ (s : SourceByte). s.byte)) in
    let more = reached_piece file text (drop at source) first tokens sort n fits (subst (λ (bs : List ℕ). Stands sort n bs) rest-are stands) before in
    let text-is : bytes_of (take n (drop at source)) ≡ take n (drop at bytes) = sym (take-map (λ (s : SourceByte). s.byte) n (drop at source)) ∙ sym (ap (take n) rest-are) in
    let rest-is : drop n (drop at source) ≡ drop (at + n) source = drop-drop n at source in
    (omega (arith, length-drop at source), subst (λ (t : List ℕ). Reached file text (drop (at + n) source) (first_behind sort t first) (tokens ++ tokens_of_piece sort t (place_of file (take n (drop at source))) first)) text-is (subst (λ (r : List SourceByte). Reached file text r (first_behind sort (bytes_of (take n (drop at source))) first) (tokens ++ tokens_of_piece sort (bytes_of (take n (drop at source))) (place_of file (take n (drop at source))) first)) rest-is more))

pub reached_refusal : (file : ℕ) (text : List ℕ) (source : List SourceByte) (at : ℕ) (first : Bool) (tokens : List Token) (refusal : Refusal) → Why file (drop at source) refusal → Reached file text (drop at source) first tokens → IsRefused file text refusal
reached_refusal file text source at first tokens refusal why before = record { pieces = before.pieces; rest = drop at source; divided = before.divided; why = why }

pub line_comment_some : (bs : List ℕ) → begins (codes "//") bs ≡ true → 0 < prefix_len (λ c. not (ends_line c)) bs
line_comment_some [] e = absurd cc
line_comment_some (b ∷ []) e = absurd (let both = and_parts (nat_eq 47 b) false e in cc)
line_comment_some (b ∷ d ∷ bs) e =
    let is : 47 ≡ b = eqb-true 47 b (and_parts (nat_eq 47 b) (nat_eq 47 d && true) e).0 in
    rw (← is) (omega (arith, one-add (prefix_len (λ c. not (ends_line c)) (d ∷ bs))))

-- what one turn of the loop over a text keeps
pub reached_turn : (file : ℕ) (text : List ℕ) (source : List SourceByte) (bytes : List ℕ) (at : ℕ) (first : Bool) (tokens : List Token) (sort : Sort) (n : ℕ) (here : SourceByte) (pos : Pos) (piece : List ℕ) (next-tokens : List Token) (next-first : Bool) → bytes ≡ bytes_of source → at < length source → here ≡ get_or source at here → pos ≡ record { file = file; line = here.line; col = here.col } → Begins (front.Piece sort n) (drop at bytes) → piece ≡ take n (drop at bytes) → next-tokens ≡ tokens ++ tokens_of_piece sort piece pos first → next-first ≡ first_behind sort piece first → Reached file text (drop at source) first tokens → (at + n ≤ length source) × Reached file text (drop (at + n) source) next-first next-tokens
reached_turn file text source bytes at first tokens sort n here pos piece next-tokens next-first are lt here-is pos-is stands piece-is tokens-are first-is before =
    let more = reached_next file text source bytes at first tokens sort n are (omega arith) stands.1 stands.2 before in
    let place-is : pos ≡ place_of file (take n (drop at source)) = pos-is ∙ place_at file source at n here stands.0 lt here-is in (
      more.0,
      subst (λ (f : Bool). Reached file text (drop (at + n) source) f next-tokens) (sym (first-is ∙ ap (λ (t : List ℕ). first_behind sort t first) piece-is))
          (subst (λ (ts : List Token). Reached file text (drop (at + n) source) (first_behind sort (take n (drop at bytes)) first) ts) (sym (tokens-are ∙ (λ i. tokens ++ tokens_of_piece sort (piece-is i) (place-is i) first))) more.1),
    )

-- where the text is refused
pub refused_at : (file : ℕ) (text : List ℕ) (source : List SourceByte) (bytes : List ℕ) (at : ℕ) (first : Bool) (tokens : List Token) (here : SourceByte) (pos : Pos) (found : Front) (refusal : Pos → Refusal) → bytes ≡ bytes_of source → at < length source → here ≡ get_or source at here → pos ≡ record { file = file; line = here.line; col = here.col } → ((rest : List SourceByte) (p : Pos) → Begins found (bytes_of rest) → p ≡ place_of file rest → Why file rest (refusal p)) → Begins found (drop at bytes) → Reached file text (drop at source) first tokens → IsRefused file text (refusal pos)
refused_at file text source bytes at first tokens here pos found refusal are lt here-is pos-is why begun before =
    let place-is : pos ≡ place_of file (drop at source) = pos-is ∙ place_at file source at (length source) here (omega arith) lt here-is ∙ ap (place_of file) (take_all (length source) (drop at source) (omega (arith, length-drop at source))) in
    reached_refusal file text source at first tokens (refusal pos) (why (drop at source) pos (subst (Begins found) (rest_bytes source bytes at are) begun) place-is) before
