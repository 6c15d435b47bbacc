-- The tokens of a text are whole.
use Rattle.std.proofs.Common.{◌≡◌, ℕ, Bool, true, List, [], ◌∷◌, ◌++◌, length, take, map, refl, sym, ap, subst}
use Rattle.std.specs.List.{list_all}
use Rattle.nm_base.specs.declared.token.Token.{Token}
use Rattle.nesc_tokens.specs.declared.splice.SourceByte.{SourceByte}
use Rattle.nesc_tokens.specs.declared.pieces.Sort.{Sort}
use Rattle.nesc_tokens.specs.declared.pieces.Sort.TheVariants.{WhiteSpace, LineComment, BlockComment, Lexeme}
use Rattle.nesc_tokens.specs.Spelling.{spells}
use Rattle.nesc_tokens.specs.Lexes.{bytes_of, Stands, Piece, Divides, place_of, tokens_of_piece, first_behind, tokens_of}
use Rattle.printed_words.specs.LaidOut.{is_whole, lexeme_of}
use Rattle.nesc_print_whole.specs.WholeWords.{TokensAreWhole, LexedTokensAreWhole}
use Rattle.nesc_print_whole.proofs.Keeps.{Tokens, and_both}

front : (xs ys : List SourceByte) → take (length xs) (bytes_of (xs ++ ys)) ≡ bytes_of xs
front [] ys = refl
front (x ∷ xs) ys = ap (λ (l : List ℕ). x.byte ∷ l) (front xs ys)

both : (ts us : List Token) → Tokens ts → Tokens us → Tokens (ts ++ us)
both [] us h k = k
both (t ∷ ts) us h k = (h.0, both ts us h.1 k)

piece_whole : (x : Sort) (xs ys : List SourceByte) (pos : Rattle.nm_base.specs.declared.pos.Pos.Pos) (first : Bool) → Stands x (length xs) (bytes_of (xs ++ ys)) → Tokens (tokens_of_piece x (bytes_of xs) pos first)
piece_whole WhiteSpace xs ys pos first h = tt
piece_whole LineComment xs ys pos first h = tt
piece_whole BlockComment xs ys pos first h = tt
piece_whole (Lexeme kind) xs ys pos first h = (subst (λ (l : List ℕ). spells kind l ≡ true) (front xs ys) h.1.spelled, tt)

pieces_whole : (file : ℕ) (first : Bool) (ps : List Piece) (source rest : List SourceByte) → Divides ps source rest → Tokens (tokens_of file first ps)
pieces_whole file first [] source rest d = tt
pieces_whole file first (p ∷ ps) source rest d =
    both (tokens_of_piece p.sort (bytes_of p.source) (place_of file p.source) first) (tokens_of file (first_behind p.sort (bytes_of p.source) first) ps)
    (piece_whole p.sort p.source d.0 (place_of file p.source) first (subst (λ (l : List SourceByte). Stands p.sort (length p.source) (bytes_of l)) d.1 d.2))
    (pieces_whole file (first_behind p.sort (bytes_of p.source) first) ps d.0 rest d.3)

all_tokens : (ts : List Token) → Tokens ts → TokensAreWhole ts
all_tokens [] h = refl
all_tokens (t ∷ ts) h = and_both (is_whole (lexeme_of t)) (list_all is_whole (map lexeme_of ts)) h.0 (all_tokens ts h.1)

pub lexed : LexedTokensAreWhole
lexed file text tokens x = all_tokens tokens (subst Tokens (sym x.are_theirs) (pieces_whole file true x.pieces _ [] x.divided))
