-- Words that are whole, and what is known of the value of a text of whole tokens.
use Rattle.std.proofs.Common.{◌≡◌, ℕ, zero, suc, Bool, true, false, ◌&&◌, cond, List, [], ◌∷◌, ◌++◌, map, refl, sym, subst}
use Rattle.std.specs.List.{list_all}
use Rattle.std.specs.Prelude.{nat_le}
use Rattle.nm_base.specs.declared.token.Token.{Token}
use Rattle.nm_base.specs.declared.token.Kind.{Kind}
use Rattle.nm_base.specs.declared.token.Kind.TheVariants as k
use Rattle.nesc_tokens.specs.Spelling.{signs}
use Rattle.nesc_tree.specs.declared.sorts.Sort.{Sort}
use Rattle.nesc_tree.specs.declared.sorts.Sort.TheVariants as s
use Rattle.nesc_tree.specs.Sorts.{Names, sort, named, class_of, is_type}
use Rattle.nesc_tree.specs.Sorts as sorts
use Rattle.nesc_tree.specs.Phrase.{Phrase, Of}
use Rattle.nesc_tree.specs.Form.{Form, Place, next, starts, chosen, Relation, Chain, Spells, SpellsIn}
use Rattle.nesc_grammar.specs.Production.{production}
use Rattle.nesc_grammar.specs.Grammar as gr
use Rattle.printed_words.specs.LaidOut.{Lexeme, lexeme_of, is_whole}
use Rattle.nesc_print_words.specs.Lexemes.{Words, word, number, character, literal, comma, semicolon, stars, flagged, in_parentheses, in_brackets, in_braces, enclosed, joined, behind_commas, listed}
use Rattle.nesc_print_laws.proofs.Calls.{All}
use Rattle.nesc_print_laws.proofs.Yields.{avoids, never, named_word, named_type, no_sign_word, no_sign_type, is_other}
use Rattle.nesc_print_whole.specs.WholeWords.{AreWhole, TokensAreWhole}

abbrev pub Each : Words → Type 0
Each ws = All (λ w. is_whole w ≡ true) ws

pub record Whole (ws : Words) : Type 0 where
  pub parts : Each ws

pub w_nil : Whole []
w_nil = record { parts = tt }

pub w_cons : {w : Lexeme} {ws : Words} → is_whole w ≡ true → Whole ws → Whole (w ∷ ws)
w_cons h k = record { parts = (h, k.parts) }

pub w_one : {w : Lexeme} → is_whole w ≡ true → Whole (w ∷ [])
w_one h = w_cons h w_nil

both_parts : (ws vs : Words) → Each ws → Each vs → Each (ws ++ vs)
both_parts [] vs h k = k
both_parts (w ∷ ws) vs h k = (h.0, both_parts ws vs h.1 k)

pub w_join : {ws vs : Words} → Whole ws → Whole vs → Whole (ws ++ vs)
w_join {ws = ws} {vs = vs} h k = record { parts = both_parts ws vs h.parts k.parts }

pub w_same : {ws vs : Words} → vs ≡ ws → Whole ws → Whole vs
w_same e h = subst Whole (sym e) h

left_true : (a b : Bool) → (a && b) ≡ true → a ≡ true
left_true true b h = refl
left_true false b h = absurd cc

right_true : (a b : Bool) → (a && b) ≡ true → b ≡ true
right_true true b h = h
right_true false b h = absurd cc

pub and_both : (a b : Bool) → a ≡ true → b ≡ true → (a && b) ≡ true
and_both a b h k = rw (h, k) refl

pub all_whole : (ws : Words) → Whole ws → AreWhole ws
all_whole ws h = by ws h.parts
  where
    by : (ws : Words) → Each ws → AreWhole ws
    by [] h = refl
    by (w ∷ ws) h = and_both (is_whole w) (list_all is_whole ws) h.0 (by ws h.1)

-- ---- words that stand fixed

pub w_parens : {ws : Words} → Whole ws → Whole (in_parentheses ws)
unfolding signs
w_parens h = w_cons refl (w_join h (w_one refl))

pub w_brackets : {ws : Words} → Whole ws → Whole (in_brackets ws)
unfolding signs
w_brackets h = w_cons refl (w_join h (w_one refl))

pub w_braces : {ws : Words} → Whole ws → Whole (in_braces ws)
unfolding signs
w_braces h = w_cons refl (w_join h (w_one refl))

pub comma_whole : is_whole comma ≡ true
unfolding signs
comma_whole = refl

pub semicolon_whole : is_whole semicolon ≡ true
unfolding signs
semicolon_whole = refl

pub w_semi : {ws : Words} → Whole ws → Whole (ws ++ (semicolon ∷ []))
w_semi h = w_join h (w_one semicolon_whole)

pub w_stars : (n : ℕ) → Whole (stars n)
unfolding signs
w_stars zero = w_nil
w_stars (suc n) = w_cons refl (w_stars n)

pub w_flag : (b : Bool) (text : List ℕ) → is_whole (word text) ≡ true → Whole (flagged b text)
w_flag true text h = w_one h
w_flag false text h = w_nil

pub w_enclosed : (least level : ℕ) {ws : Words} → Whole ws → Whole (enclosed least level ws)
w_enclosed least level {ws = ws} h = by (nat_le least level)
  where
    by : (b : Bool) → Whole (cond b ws (in_parentheses ws))
    by true = h
    by false = w_parens h

module _ {X : Type 0} (words : X → Words) where
  pub w_joined : (xs : List X) → All (λ x. Whole (words x)) xs → Whole (joined (map words xs))
  w_joined [] h = w_nil
  w_joined (x ∷ xs) h = w_join h.0 (w_joined xs h.1)

  pub w_commas : (xs : List X) → All (λ x. Whole (words x)) xs → Whole (behind_commas (map words xs))
  w_commas [] h = w_nil
  w_commas (x ∷ xs) h = w_cons comma_whole (w_join h.0 (w_commas xs h.1))

  pub w_listed : (xs : List X) → All (λ x. Whole (words x)) xs → Whole (listed (map words xs))
  w_listed [] h = w_nil
  w_listed (x ∷ xs) h = w_join h.0 (w_commas xs h.1)

-- ---- whole tokens

abbrev pub WholeToken : Token → Type 0
WholeToken t = is_whole (lexeme_of t) ≡ true

abbrev pub Tokens : List Token → Type 0
Tokens ts = All WholeToken ts

pub tokens_of : (ts : List Token) → TokensAreWhole ts → Tokens ts
tokens_of [] h = tt
tokens_of (t ∷ ts) h = (left_true (is_whole (lexeme_of t)) (list_all is_whole (map lexeme_of ts)) h, tokens_of ts (right_true (is_whole (lexeme_of t)) (list_all is_whole (map lexeme_of ts)) h))

-- ---- the tokens behind a text are whole too

chain_tokens : {A : Type 0} {spare : ℕ} {go : A → Sort → Bool} {weight : A → ℕ} {body : Sort → Place → (A → A) → Place → Type 0} {b : A} {r : Place} → ((x : Sort) (u v : Place) (f : A → A) → Tokens u.rest → body x u f v → Tokens v.rest)
    → {a : A} {u : Place} → Tokens u.rest → Chain spare go weight body b r a u → Tokens r.rest
chain_tokens m w (Chain.done h) = w
chain_tokens m w (Chain.turn {p = u} {q = v} {f = f} g l t c) = chain_tokens m (m (next u) u v f w t) c

moved : (u v : Place) → v ≡ u → Tokens u.rest → Tokens v.rest
moved u v e w = subst (λ (q : Place). Tokens q.rest) (sym e) w

chosen_tokens : {X : Type 0} (Y : Type 0) (u v : Place) (b : Bool) → Tokens u.rest → (X → Tokens v.rest) → chosen b X (Y × (v ≡ u)) → Tokens v.rest
chosen_tokens Y u v true w m h = m h
chosen_tokens Y u v false w m h = moved u v h.1 w

module _ (spare : ℕ) (N : (p : Phrase) → Relation (Of p)) (ih : (k : Phrase) (u v : Place) (a : Of k) → Tokens u.rest → N k u a v → Tokens v.rest) where
  form_tokens : {A : Type 0} (g : Form A) (u v : Place) (a : A) → Tokens u.rest → Spells spare N g u a v → Tokens v.rest
  unfolding Spells
  form_tokens (Form.empty b) u v a w h = moved u v h.1 w
  form_tokens Form.none u v a w h = absurd h
  form_tokens (Form.token x f) u v a w h = (let z : Tokens (h.0 ∷ v.rest) = subst (λ (q : Place). Tokens q.rest) h.1 w in z.1)
  form_tokens (Form.seq f g k) u v c w h = form_tokens k h.2 v h.1 (form_tokens g u h.2 h.0 w h.3) h.4
  form_tokens (Form.by f) u v a w h = form_tokens (f (next u)) u v a w h
  form_tokens (Form.sub k f) u v b w h = ih k u v h.0 w h.1
  form_tokens (Form.maybe g b) u v a w h = chosen_tokens _ u v (starts g (next u)) w (λ t. form_tokens g u v a w t) h
  form_tokens (Form.many go b body) u v a w h = chain_tokens (λ x p q f z t. form_tokens (body x) p q f z t) w h
  form_tokens (Form.loop may fits weight g body) u v b w h = chain_tokens (λ x p q f z t. form_tokens (body x) p q f z t) (form_tokens g u h.1 h.0 w h.2) h.3
  form_tokens (Form.declare f g) u v a w h = subst (λ (q : Place). Tokens q.rest) (sym h.2) (form_tokens g u h.0 a w h.1)
  form_tokens (Form.scope g) u v a w h = subst (λ (q : Place). Tokens q.rest) (sym h.2) (form_tokens g u h.0 a w h.1)

phrase_tokens : (d : ℕ) (k : Phrase) (u v : Place) (a : Of k) → Tokens u.rest → SpellsIn production d k u a v → Tokens v.rest
unfolding SpellsIn
phrase_tokens zero k u v a w h = absurd h
phrase_tokens (suc d) k u v a w h = form_tokens d (SpellsIn production d) (phrase_tokens d) (production k) u v a w h

behind : (spare : ℕ) {A : Type 0} (g : Form A) (u v : Place) (a : A) → Tokens u.rest → Spells spare (SpellsIn production spare) g u a v → Tokens v.rest
behind spare g u v a w h = form_tokens spare (SpellsIn production spare) (phrase_tokens spare) g u v a w h

-- each text of whole tokens by the form has such a value
pub record Keeps {A : Type 0} (spare : ℕ) (g : Form A) (P : A → Type 0) : Type 0 where
  pub gives : (u v : Place) (a : A) → Tokens u.rest → Spells spare (SpellsIn production spare) g u a v → P a

pick : {A : Type 0} (P : A → Type 0) {X : Type 0} (Y : Type 0) (b c : A) (x : Bool) → (X → P c) → P b → chosen x X ((c ≡ b) × Y) → P c
pick P Y b c true f h t = f t
pick P Y b c false f h t = subst P (sym t.0) h

module _ {spare : ℕ} where
  pub k_any : {A : Type 0} {x : Sort} {f : Token → A} {P : A → Type 0} → ((ns : Names) (t : Token) → sort ns t ≡ x → WholeToken t → P (f t)) → Keeps spare (Form.token x f) P
  unfolding Spells
  k_any {P = P} h = record { gives = λ u v a w t. (let z : Tokens (t.0 ∷ v.rest) = subst (λ (q : Place). Tokens q.rest) t.1 w in subst P (sym t.3) (h v.names t.0 t.2 z.0)) }

  pub k_one : {x : Sort} → Keeps spare (gr.one x) (λ t. Unit {0})
  k_one = k_any (λ ns t e w. tt)

  pub k_none : {A : Type 0} {P : A → Type 0} → Keeps spare Form.none P
  unfolding Spells
  k_none = record { gives = λ u v a w t. absurd t }

  -- of the value nothing is said
  pub k_all : {A : Type 0} {g : Form A} → Keeps spare g (λ a. Unit {0})
  k_all = record { gives = λ u v a w t. tt }

  pub k_seq : {A B C : Type 0} {f : A → B → C} {g : Form A} {h : Form B} {P : A → Type 0} {Q : B → Type 0} {R : C → Type 0} → Keeps spare g P → Keeps spare h Q → ((a : A) (b : B) → P a → Q b → R (f a b)) → Keeps spare (Form.seq f g h) R
  unfolding Spells
  k_seq {g = g} {R = R} x y m = record { gives = λ u v c w t. subst R (sym t.5) (m t.0 t.1 (x.gives u t.2 t.0 w t.3) (y.gives t.2 v t.1 (behind spare g u t.2 t.0 w t.3) t.4)) }

  pub k_behind : {A B : Type 0} {g : Form A} {h : Form B} {P : A → Type 0} {Q : B → Type 0} → Keeps spare g P → Keeps spare h Q → Keeps spare (gr.behind g h) Q
  k_behind x y = k_seq x y (λ a b p q. q)

  pub k_before : {A B : Type 0} {g : Form A} {h : Form B} {P : A → Type 0} {Q : B → Type 0} → Keeps spare g P → Keeps spare h Q → Keeps spare (gr.before g h) P
  k_before x y = k_seq x y (λ a b p q. p)

  pub k_map : {A B : Type 0} {f : A → B} {g : Form A} {P : A → Type 0} {R : B → Type 0} → Keeps spare g P → ((a : A) → P a → R (f a)) → Keeps spare (gr.map f g) R
  unfolding Spells
  k_map {R = R} x m = record { gives = λ u v c w t. subst R (sym t.5) (m t.0 (x.gives u t.2 t.0 w t.3)) }

  pub k_by : {A : Type 0} {f : Sort → Form A} {P : A → Type 0} → ((x : Sort) → Keeps spare (f x) P) → Keeps spare (Form.by f) P
  unfolding Spells
  k_by h = record { gives = λ u v a w t. (h (next u)).gives u v a w t }

  pub k_maybe : {A : Type 0} {g : Form A} {b : A} {P : A → Type 0} → Keeps spare g P → P b → Keeps spare (Form.maybe g b) P
  unfolding Spells
  k_maybe {g = g} {b = b} {P = P} x h = record { gives = λ u v a w t. pick P _ b a (starts g (next u)) (λ z. x.gives u v a w z) h t }

  chain_keeps : {A : Type 0} {go : A → Sort → Bool} {weight : A → ℕ} {body : Sort → Form (A → A)} {P : A → Type 0} {b : A} {r : Place} → ((x : Sort) → Keeps spare (body x) (λ f. (a : A) → P a → P (f a)))
      → {a : A} {u : Place} → Tokens u.rest → P a → Chain spare go weight (λ x. Spells spare (SpellsIn production spare) (body x)) b r a u → P b
  chain_keeps x w h (Chain.done g) = h
  chain_keeps {body = body} x w h (Chain.turn {a = a} {p = u} {q = v} {f = f} g l t c) = chain_keeps x (behind spare (body (next u)) u v f w t) ((x (next u)).gives u v f w t a h) c

  pub k_many : {A : Type 0} {go : Sort → Bool} {b : A} {body : Sort → Form (A → A)} {P : A → Type 0} → P b → ((x : Sort) → Keeps spare (body x) (λ f. (a : A) → P a → P (f a))) → Keeps spare (Form.many go b body) P
  unfolding Spells
  k_many h x = record { gives = λ u v a w t. chain_keeps x w h t }

  pub k_loop : {A : Type 0} {may : Sort → Bool} {fits : A → Sort → Bool} {weight : A → ℕ} {g : Form A} {body : Sort → Form (A → A)} {P : A → Type 0} → Keeps spare g P
      → ((x : Sort) → Keeps spare (body x) (λ f. (a : A) → P a → P (f a))) → Keeps spare (Form.loop may fits weight g body) P
  unfolding Spells
  k_loop {g = g} y x = record { gives = λ u v a w t. chain_keeps x (behind spare g u t.1 t.0 w t.2) (y.gives u t.1 t.0 w t.2) t.3 }

  pub k_declare : {A : Type 0} {f : A → Names → Names} {g : Form A} {P : A → Type 0} → Keeps spare g P → Keeps spare (Form.declare f g) P
  unfolding Spells
  k_declare x = record { gives = λ u v a w t. x.gives u t.0 a w t.1 }

  pub k_scope : {A : Type 0} {g : Form A} {P : A → Type 0} → Keeps spare g P → Keeps spare (Form.scope g) P
  unfolding Spells
  k_scope x = record { gives = λ u v a w t. x.gives u t.0 a w t.1 }

  pub k_when : {A : Type 0} {g : Form A} {P : A → Type 0} (b : Bool) → Keeps spare g P → Keeps spare (gr.when b g) P
  k_when true x = x
  k_when false x = k_none

  pub k_if : {A : Type 0} {g h : Form A} {P : A → Type 0} (b : Bool) → Keeps spare g P → Keeps spare h P → Keeps spare (gr.if_type b g h) P
  k_if true x y = x
  k_if false x y = y

  -- a phrase of which this is known
  pub k_sub : {k : Phrase} {B : Type 0} {f : Of k → B} {P : B → Type 0} (L : Of k → Type 0) → ((u v : Place) (a : Of k) → Tokens u.rest → SpellsIn production spare k u a v → L a) → ((a : Of k) → L a → P (f a)) → Keeps spare (Form.sub k f) P
  unfolding Spells
  k_sub {P = P} L ih h = record { gives = λ u v b w t. subst P (sym t.2) (h t.0 (ih u v t.0 w t.1)) }

-- ---- words of tokens

number_back : (y : Sort) (b : Bool) → named y b ≡ s.Number → y ≡ s.Number
number_back s.Word true h = absurd cc
number_back s.Word false h = absurd cc
number_back _ b h = h

char_back : (y : Sort) (b : Bool) → named y b ≡ s.Char → y ≡ s.Char
char_back s.Word true h = absurd cc
char_back s.Word false h = absurd cc
char_back _ b h = h

text_back : (y : Sort) (b : Bool) → named y b ≡ s.Text → y ≡ s.Text
text_back s.Word true h = absurd cc
text_back s.Word false h = absurd cc
text_back _ b h = h

abbrev IsWholeIn : Kind → List ℕ → Type 0
IsWholeIn c text = is_whole (record { kind = c; text = text }) ≡ true

number_in : (c : Kind) (text : List ℕ) (b : Bool) → named (class_of c text) b ≡ s.Number → IsWholeIn c text → is_whole (number text) ≡ true
unfolding sorts.keyword sorts.sign avoids
number_in k.Number text b h w = w
number_in k.Word text b h w = absurd (never s.Number sorts.keywords text s.Word refl refl (number_back (sorts.keyword text) b h))
number_in k.Sign text b h w = absurd (never s.Number sorts.signs text s.Other refl refl (number_back (sorts.sign text) b h))
number_in k.Char text b h w = absurd cc
number_in k.Text text b h w = absurd cc

char_in : (c : Kind) (text : List ℕ) (b : Bool) → named (class_of c text) b ≡ s.Char → IsWholeIn c text → is_whole (character text) ≡ true
unfolding sorts.keyword sorts.sign avoids
char_in k.Char text b h w = w
char_in k.Word text b h w = absurd (never s.Char sorts.keywords text s.Word refl refl (char_back (sorts.keyword text) b h))
char_in k.Sign text b h w = absurd (never s.Char sorts.signs text s.Other refl refl (char_back (sorts.sign text) b h))
char_in k.Number text b h w = absurd cc
char_in k.Text text b h w = absurd cc

text_in : (c : Kind) (text : List ℕ) (b : Bool) → named (class_of c text) b ≡ s.Text → IsWholeIn c text → is_whole (literal text) ≡ true
unfolding sorts.keyword sorts.sign avoids
text_in k.Text text b h w = w
text_in k.Word text b h w = absurd (never s.Text sorts.keywords text s.Word refl refl (text_back (sorts.keyword text) b h))
text_in k.Sign text b h w = absurd (never s.Text sorts.signs text s.Other refl refl (text_back (sorts.sign text) b h))
text_in k.Number text b h w = absurd cc
text_in k.Char text b h w = absurd cc

word_in : (c : Kind) (text : List ℕ) (b : Bool) → named (class_of c text) b ≡ s.Word → IsWholeIn c text → is_whole (word text) ≡ true
word_in k.Word text b h w = w
word_in k.Sign text b h w = absurd (no_sign_word text (named_word (sorts.sign text) b h).0)
word_in k.Number text b h w = absurd cc
word_in k.Char text b h w = absurd cc
word_in k.Text text b h w = absurd cc

type_in : (c : Kind) (text : List ℕ) (b : Bool) → named (class_of c text) b ≡ s.TypeName → IsWholeIn c text → is_whole (word text) ≡ true
type_in k.Word text b h w = w
type_in k.Sign text b h w = absurd (no_sign_word text (named_type (sorts.sign text) b h (is_other (sorts.sign text) s.TypeName _ refl (no_sign_type text))).0)
type_in k.Number text b h w = absurd cc
type_in k.Char text b h w = absurd cc
type_in k.Text text b h w = absurd cc

-- a name
abbrev pub Name : List ℕ → Type 0
Name n = is_whole (word n) ≡ true

module _ {spare : ℕ} where
  pub k_number : {A : Type 0} {f : Token → A} {P : A → Type 0} → ((t : Token) → is_whole (number t.text) ≡ true → P (f t)) → Keeps spare (Form.token s.Number f) P
  unfolding sort
  k_number h = k_any (λ ns t e w. h t (number_in t.kind t.text (is_type ns t.text) e w))

  pub k_char : {A : Type 0} {f : Token → A} {P : A → Type 0} → ((t : Token) → is_whole (character t.text) ≡ true → P (f t)) → Keeps spare (Form.token s.Char f) P
  unfolding sort
  k_char h = k_any (λ ns t e w. h t (char_in t.kind t.text (is_type ns t.text) e w))

  pub k_text : {A : Type 0} {f : Token → A} {P : A → Type 0} → ((t : Token) → is_whole (literal t.text) ≡ true → P (f t)) → Keeps spare (Form.token s.Text f) P
  unfolding sort
  k_text h = k_any (λ ns t e w. h t (text_in t.kind t.text (is_type ns t.text) e w))

  pub k_word : Keeps spare (gr.one s.Word) (λ t. Name t.text)
  unfolding sort
  k_word = k_any (λ ns t e w. word_in t.kind t.text (is_type ns t.text) e w)

  pub k_type_name : Keeps spare (gr.one s.TypeName) (λ t. Name t.text)
  unfolding sort
  k_type_name = k_any (λ ns t e w. type_in t.kind t.text (is_type ns t.text) e w)

  k_name_of : (x : Sort) → Keeps spare (gr.name_of x) (λ t. Name t.text)
  k_name_of s.TypeName = k_type_name
  k_name_of _ = k_word

  pub k_name : Keeps spare gr.name (λ t. Name t.text)
  k_name = k_by k_name_of
