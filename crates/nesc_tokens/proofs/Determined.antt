-- A text has one list of tokens at most.
use Rattle.std.proofs.Common.{◌≡◌, ℕ, zero, suc, ◌<◌, ◌≤◌, Bool, true, false, cond, not, ◌&&◌, ◌||◌, List, [], ◌∷◌, ◌++◌, length, take, drop, refl, sym, ap, subst, ◌∙◌, arith, inl, inr}
use Rattle.std.specs.Prelude.{codes, nat_eq, ◌==◌, slice_index}
use Rattle.std.specs.List.{list_any}
use Rattle.std.proofs.lemmas.List.{take_at, drop_at}
use Rattle.nm_base.specs.declared.token.Kind.{Kind}
use Rattle.nm_base.specs.declared.token.Token.{Token}
use Rattle.nm_base.specs.declared.pos.Pos.{Pos}
use Rattle.nesc_tokens.specs.declared.splice.SourceByte.{SourceByte}
use Rattle.nesc_tokens.specs.declared.pieces.Sort.{Sort}
use Rattle.nesc_tokens.specs.declared.pieces.Sort.TheVariants.{WhiteSpace, LineComment, BlockComment, Lexeme}
use Rattle.nesc_tokens.specs.Splices.{source_of}
use Rattle.nm_base.specs.declared.token.Kind.TheVariants.{Sign}
use Rattle.nesc_tokens.specs.CodePoints.{is_white_space}
use Rattle.nesc_tokens.specs.Spelling.{spells, signs, is_one_of}
use Rattle.nesc_tokens.specs.Longest.{kind_at}
use Rattle.nesc_tokens.proofs.Comments.{opened_of, one_comment}
use Rattle.nesc_tokens.proofs.Runs.{not_both, one_of_all}
use Rattle.nesc_tokens.proofs.LexemeKinds.{kind_is, empty_is_none}
use Rattle.std.proofs.lemmas.Bool.{cases_Bool, or_cases, or_parts, and_parts, eqb-true, not-true, cases_lt}
use Rattle.nesc_tokens.specs.Lexes.{bytes_of, Stands, Piece, Divides, tokens_of, Lexes, begins, IsLongest, BeginsNone, BeginsOpen, Why, IsRefused}
use Rattle.nm_base.specs.declared.refusal.Refusal.{Refusal}
use Rattle.nm_base.specs.declared.refusal.Refusal.TheVariants as refusal

-- ---- what stands at a place, by its first two bytes

kind_of_front : (a : Kind) (m b : ℕ) (bs : List ℕ) → 0 < m → spells a (take m (b ∷ bs)) ≡ true → a ≡ kind_at b
kind_of_front a zero b bs some e = absurd (omega arith)
kind_of_front a (suc m) b bs some e = sym (kind_is a b (take m bs) e)

-- 0 for a blank, 1 and 2 for the comments, 3 for the rest
class_at : List ℕ → ℕ
class_at bytes = cond (list_any is_white_space (take 1 bytes)) 0 (cond (begins (codes "//") bytes) 1 (cond (begins (codes "/*") bytes) 2 3))

class_of : Sort → ℕ
class_of WhiteSpace = 0
class_of LineComment = 1
class_of BlockComment = 2
class_of (Lexeme kind) = 3

line_head : (bytes : List ℕ) → begins (codes "//") bytes ≡ true → list_any is_white_space (take 1 bytes) ≡ false
line_head [] e = refl
line_head (b ∷ []) e = absurd (let both = and_parts (nat_eq 47 b) false e in cc)
line_head (b ∷ d ∷ bs) e = let is : 47 ≡ b = eqb-true 47 b (and_parts (nat_eq 47 b) (nat_eq 47 d && true) e).0 in rw (← is) refl

block_head : (bytes : List ℕ) → begins (codes "/*") bytes ≡ true → (list_any is_white_space (take 1 bytes) ≡ false) × (begins (codes "//") bytes ≡ false)
block_head [] e = absurd cc
block_head (b ∷ []) e = absurd (let both = and_parts (nat_eq 47 b) false e in cc)
block_head (b ∷ d ∷ bs) e =
    let both = and_parts (nat_eq 47 b) (nat_eq 42 d && true) e in
    let is : 47 ≡ b = eqb-true 47 b both.0 in
    let second : 42 ≡ d = eqb-true 42 d (and_parts (nat_eq 42 d) true both.1).0 in
    (rw (← is) refl, rw (← is, ← second) refl)

blank_kind : (b : ℕ) → is_white_space b ≡ true → kind_at b ≡ Sign
blank_kind b e = elim (or_cases (b == 32 || b == 9 || b == 13 || b == 10) (b == 12) e) [
  | inr f ↦ rw (eqb-true b 12 f) refl
  | inl e ↦ elim (or_cases (b == 32 || b == 9 || b == 13) (b == 10) e) [
    | inr f ↦ rw (eqb-true b 10 f) refl
    | inl e ↦ elim (or_cases (b == 32 || b == 9) (b == 13) e) [
      | inr f ↦ rw (eqb-true b 13 f) refl
      | inl e ↦ elim (or_cases (b == 32) (b == 9) e) [
        | inr f ↦ rw (eqb-true b 9 f) refl
        | inl f ↦ rw (eqb-true b 32 f) refl
      ]
    ]
  ]
]

begins_no_white_space : List ℕ → Bool
begins_no_white_space text = not (is_white_space (slice_index text 0))

sign_no_white_space : (b : ℕ) (bs : List ℕ) → is_one_of signs (b ∷ bs) ≡ true → not (is_white_space b) ≡ true
unfolding signs begins_no_white_space
sign_no_white_space b bs e = one_of_all begins_no_white_space signs (b ∷ bs) refl e

no_blank_spelled : (kind : Kind) (b : ℕ) (bs : List ℕ) → spells kind (b ∷ bs) ≡ true → is_white_space b ≡ false
no_blank_spelled kind b bs e = elim (cases_Bool (is_white_space b)) [
  | inr f ↦ f
  | inl blank ↦
      let sign : kind ≡ Sign = sym (kind_is kind b bs e) ∙ blank_kind b blank in
      let as-sign : is_one_of signs (b ∷ bs) ≡ true = subst (λ (k : Kind). spells k (b ∷ bs) ≡ true) sign e in
      not-true (is_white_space b) (sign_no_white_space b bs as-sign)
]

pub spelled_some : (kind : Kind) (n : ℕ) (bytes : List ℕ) → spells kind (take n bytes) ≡ true → (0 < n) × (list_any is_white_space (take 1 bytes) ≡ false)
spelled_some kind zero bytes e = not_both (spells kind []) e (empty_is_none kind)
spelled_some kind (suc n) [] e = not_both (spells kind []) e (empty_is_none kind)
spelled_some kind (suc n) (b ∷ bs) e = (omega arith, rw (no_blank_spelled kind b (take n bs) e) refl)

class_is : (s : Sort) (n : ℕ) (bytes : List ℕ) → Stands s n bytes → class_at bytes ≡ class_of s
unfolding class_at class_of
class_is WhiteSpace n bytes h = rw h.1 refl
class_is LineComment n bytes h = rw (line_head bytes h.1, h.1) refl
class_is BlockComment n bytes h = let opened = opened_of n bytes h.closed in let head = block_head bytes opened in rw (head.0, head.1, opened) refl
class_is (Lexeme kind) n bytes h =
    let some = spelled_some kind n bytes h.1.spelled in
    let none = or_parts (begins (codes "//") bytes) (begins (codes "/*") bytes) h.0 in
    rw (some.1, none.0, none.1) refl

-- ---- two pieces at one place are one

same_spelled : (a b : Kind) (m n : ℕ) (bytes : List ℕ) → IsLongest a m bytes → IsLongest b n bytes → (a ≡ b) × (m ≡ n)
same_spelled a b m n [] x y = absurd (let some = spelled_some a m [] x.spelled in let in0 : m ≤ 0 = x.within in omega (arith, some.0))
same_spelled a b m n (c ∷ bytes) x y =
    let some-m = (spelled_some a m (c ∷ bytes) x.spelled).0 in
    let same : m ≡ n = elim (cases_lt m n) [
      | inl less ↦ not_both (spells b (take n (c ∷ bytes))) y.spelled (x.longest b n less y.within)
      | inr most ↦ elim (cases_lt n m) [
        | inl more ↦ not_both (spells a (take m (c ∷ bytes))) x.spelled (y.longest a m more x.within)
        | inr least ↦ omega arith
      ]
    ] in
    (kind_of_front a m c bytes some-m x.spelled ∙ sym (kind_of_front b m c bytes some-m (subst (λ (k : ℕ). spells b (take k (c ∷ bytes)) ≡ true) (sym same) y.spelled)), same)

pub one_piece : (a b : Sort) (m n : ℕ) (bytes : List ℕ) → Stands a m bytes → Stands b n bytes → (a ≡ b) × (m ≡ n)
unfolding class_of
one_piece WhiteSpace WhiteSpace m n bytes x y = (refl, x.0 ∙ sym y.0)
one_piece LineComment LineComment m n bytes x y = (refl, x.0 ∙ sym y.0)
one_piece BlockComment BlockComment m n bytes x y = (refl, one_comment m n bytes x y)
one_piece (Lexeme a) (Lexeme b) m n bytes x y = let same = same_spelled a b m n bytes x.1 y.1 in (ap (λ (k : Kind). Lexeme k) same.0, same.1)
one_piece a b m n bytes x y = absurd (let e : class_of a ≡ class_of b = sym (class_is a m bytes x) ∙ class_is b n bytes y in cc)

piece_some : (s : Sort) (n : ℕ) → Stands s n [] → ⊥
piece_some WhiteSpace n h = let e = h.1 in cc
piece_some LineComment n h = let e = h.1 in cc
piece_some BlockComment n h = let e = opened_of n [] h.closed in cc
piece_some (Lexeme kind) n h = let w : n ≤ 0 = h.1.within in omega (arith, (spelled_some kind n [] h.1.spelled).0)

-- no piece stands at the front
abbrev pub Stuck : List SourceByte → Type 0
Stuck rest = (s : Sort) (n : ℕ) → Stands s n (bytes_of rest) → ⊥

-- two ways to cut a text up to where no piece stands are one
pub one_cut : (ps qs : List Piece) (source r s : List SourceByte) → Stuck r → Stuck s → Divides ps source r → Divides qs source s → (ps ≡ qs) × (r ≡ s)
one_cut [] [] source r s no-r no-s x y = (refl, sym x ∙ y)
one_cut [] (q ∷ qs) source r s no-r no-s x y = absurd (no-r q.sort (length q.source) (subst (λ (t : List SourceByte). Stands q.sort (length q.source) (bytes_of t)) x y.2))
one_cut (p ∷ ps) [] source r s no-r no-s x y = absurd (no-s p.sort (length p.source) (subst (λ (t : List SourceByte). Stands p.sort (length p.source) (bytes_of t)) y x.2))
one_cut (p ∷ ps) (q ∷ qs) source r s no-r no-s x y =
    let same = one_piece p.sort q.sort (length p.source) (length q.source) (bytes_of source) x.2 y.2 in
    let front : p.source ≡ q.source = sym (take_at p.source x.0 (length p.source) refl) ∙ ap (take (length p.source)) (sym x.1 ∙ y.1) ∙ ap (λ (k : ℕ). take k (q.source ++ y.0)) same.1 ∙ take_at q.source y.0 (length q.source) refl in
    let after : x.0 ≡ y.0 = sym (drop_at p.source x.0 (length p.source) refl) ∙ ap (drop (length p.source)) (sym x.1 ∙ y.1) ∙ ap (λ (k : ℕ). drop k (q.source ++ y.0)) same.1 ∙ drop_at q.source y.0 (length q.source) refl in
    let rest = one_cut ps qs y.0 r s no-r no-s (subst (λ (t : List SourceByte). Divides ps t r) after x.3) y.3 in
    (λ i. record { sort = same.0 i; source = front i } ∷ rest.0 i, rest.1)

end_stuck : Stuck []
end_stuck s n h = piece_some s n h

none_stuck : (rest : List SourceByte) → BeginsNone (bytes_of rest) → Stuck rest
none_stuck rest none WhiteSpace n h = let e = sym none.no_white_space ∙ h.1 in cc
none_stuck rest none LineComment n h = let both = or_parts (begins (codes "//") (bytes_of rest)) (begins (codes "/*") (bytes_of rest)) none.no_comment in let e = sym both.0 ∙ h.1 in cc
none_stuck rest none BlockComment n h = let both = or_parts (begins (codes "//") (bytes_of rest)) (begins (codes "/*") (bytes_of rest)) none.no_comment in let e = sym both.1 ∙ opened_of n (bytes_of rest) h.closed in cc
none_stuck rest none (Lexeme kind) n h = let e = sym (none.no_token kind n h.1.within) ∙ h.1.spelled in cc

open_stuck : (rest : List SourceByte) → BeginsOpen (bytes_of rest) → Stuck rest
open_stuck rest open_ WhiteSpace n h = let e = sym (block_head (bytes_of rest) open_.opened).0 ∙ h.1 in cc
open_stuck rest open_ LineComment n h = let e = sym (block_head (bytes_of rest) open_.opened).1 ∙ h.1 in cc
open_stuck rest open_ BlockComment n h = let e = sym (open_.no_end n h.within) ∙ h.closed in cc
open_stuck rest open_ (Lexeme kind) n h = let both = or_parts (begins (codes "//") (bytes_of rest)) (begins (codes "/*") (bytes_of rest)) h.0 in let e = sym both.1 ∙ open_.opened in cc

why_stuck : (file : ℕ) (rest : List SourceByte) (r : Refusal) → Why file rest r → Stuck rest
why_stuck file rest (refusal.BadChar p) h = none_stuck rest h.0
why_stuck file rest (refusal.OpenComment p) h = open_stuck rest h.0
why_stuck file rest _ h = absurd h

pub one_lexing : (file : ℕ) (text : List ℕ) (a b : List Token) → Lexes file text a → Lexes file text b → a ≡ b
one_lexing file text a b x y = x.are_theirs ∙ ap (tokens_of file true) (one_cut x.pieces y.pieces (source_of text) [] [] end_stuck end_stuck x.divided y.divided).0 ∙ sym y.are_theirs

-- a text that has tokens is not refused: where it is refused something is left
some_left : (file : ℕ) (rest : List SourceByte) (r : Refusal) → Why file rest r → rest ≡ [] → ⊥
some_left file rest (refusal.BadChar p) h e = let some : 0 < length (bytes_of rest) = h.0.some in omega (arith, some, ap (λ (l : List SourceByte). length (bytes_of l)) e)
some_left file rest (refusal.OpenComment p) h e = let opened : begins (codes "/*") (bytes_of []) ≡ true = subst (λ (l : List SourceByte). begins (codes "/*") (bytes_of l) ≡ true) e h.0.opened in cc
some_left file rest _ h e = absurd h

pub not_both_ways : (file : ℕ) (text : List ℕ) (a : List Token) (r : Refusal) → Lexes file text a → IsRefused file text r → ⊥
not_both_ways file text a r x y = some_left file y.rest r y.why (sym (one_cut x.pieces y.pieces (source_of text) [] y.rest end_stuck (why_stuck file y.rest r y.why) x.divided y.divided).1)

no_open : (rest : List SourceByte) → BeginsNone (bytes_of rest) → BeginsOpen (bytes_of rest) → ⊥
no_open rest none open_ = let both = or_parts (begins (codes "//") (bytes_of rest)) (begins (codes "/*") (bytes_of rest)) none.no_comment in let e = sym both.1 ∙ open_.opened in cc

-- one reason at one place
one_reason : (file : ℕ) (rest : List SourceByte) (r s : Refusal) → Why file rest r → Why file rest s → r ≡ s
one_reason file rest (refusal.BadChar p) (refusal.BadChar q) h k = ap (λ (x : Pos). refusal.BadChar x) (h.1 ∙ sym k.1)
one_reason file rest (refusal.OpenComment p) (refusal.OpenComment q) h k = ap (λ (x : Pos). refusal.OpenComment x) (h.1 ∙ sym k.1)
one_reason file rest (refusal.BadChar p) (refusal.OpenComment q) h k = absurd (no_open rest h.0 k.0)
one_reason file rest (refusal.OpenComment p) (refusal.BadChar q) h k = absurd (no_open rest k.0 h.0)
one_reason file rest (refusal.BadChar p) _ h k = absurd k
one_reason file rest (refusal.OpenComment p) _ h k = absurd k
one_reason file rest _ s h k = absurd h

pub one_refusal : (file : ℕ) (text : List ℕ) (r s : Refusal) → IsRefused file text r → IsRefused file text s → r ≡ s
one_refusal file text r s x y =
    let same = (one_cut x.pieces y.pieces (source_of text) x.rest y.rest (why_stuck file x.rest r x.why) (why_stuck file y.rest s y.why) x.divided y.divided).1 in
    one_reason file y.rest r s (subst (λ (t : List SourceByte). Why file t r) same x.why) y.why
