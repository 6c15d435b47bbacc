-- What is known of the value of a text, and of the names that are in force behind it.
use Rattle.std.proofs.Common.{◌≡◌, ℕ, Bool, true, false, cond, List, [], ◌∷◌, refl, sym, ap, subst, ◌∙◌}
use Rattle.std.specs.Prelude.{bytes_eq}
use Rattle.nm_base.specs.declared.token.Token.{Token}
use Rattle.nm_base.specs.declared.token.Kind.{Kind}
use Rattle.nm_base.specs.declared.token.Kind.TheVariants as k
use Rattle.nesc_tree.proofs.Starts.{same_self}
use Rattle.nesc_tree.specs.declared.sorts.Sort.{Sort}
use Rattle.nesc_tree.specs.declared.sorts.Sort.TheVariants as s
use Rattle.nesc_tree.specs.Sorts.{Names, sort, same_sort, named, class_of, found_in, is_type}
use Rattle.nesc_tree.specs.Sorts as sorts
use Rattle.nesc_tree.specs.Form.{Form, Place, next, starts, chosen, Chain, Spells, SpellsIn}
use Rattle.nesc_grammar.specs.Production.{production}
use Rattle.nesc_grammar.specs.Grammar as gr
use Rattle.nesc_print_laws.proofs.Names.{IsName}

-- each text of the form under these names has a value with P, which speaks of the place behind it too
pub record Yields {A : Type 0} (spare : ℕ) (ns : Names) (g : Form A) (P : A → Place → Type 0) : Type 0 where
  pub gives : (p q : Place) (a : A) → p.names ≡ ns → Spells spare (SpellsIn production spare) g p a q → P a q

-- the names stay
abbrev pub Quiet : {A : Type 0} → Names → (A → Type 0) → A → Place → Type 0
Quiet ns P a q = (q.names ≡ ns) × P a

either_of : {A : Type 0} (ns : Names) (P : A → Type 0) {X : Type 0} (b c : A) (p q : Place) (x : Bool) → p.names ≡ ns → P b → (X → Quiet ns P c q) → chosen x X ((c ≡ b) × (q ≡ p)) → Quiet ns P c q
either_of ns P b c p q true e h k t = k t
either_of ns P b c p q false e h k t = (ap (λ (w : Place). w.names) t.1 ∙ e, subst P (sym t.0) h)

module _ {spare : ℕ} {ns : Names} where
  pub y_token : {A : Type 0} {f : Token → A} {x : Sort} {P : A → Type 0} → ((t : Token) → sort ns t ≡ x → P (f t)) → Yields spare ns (Form.token x f) (Quiet ns P)
  unfolding Spells
  y_token {f = f} {x = x} {P = P} k = record { gives = λ p q a e h. (let z : q.names ≡ ns = sym (ap (λ (u : Place). u.names) h.1) ∙ e in (z, subst P (sym h.3) (k h.0 (subst (λ (n : Names). sort n h.0 ≡ x) z h.2)))) }

  pub y_none : {A : Type 0} {P : A → Place → Type 0} → Yields spare ns Form.none P
  unfolding Spells
  y_none = record { gives = λ p q a e h. absurd h }

  pub y_seq : {A B C : Type 0} {f : A → B → C} {g : Form A} {h : Form B} {P : A → Type 0} {Q : B → Type 0} {R : C → Type 0}
      → Yields spare ns g (Quiet ns P) → Yields spare ns h (Quiet ns Q) → ((a : A) (b : B) → P a → Q b → R (f a b)) → Yields spare ns (Form.seq f g h) (Quiet ns R)
  unfolding Spells
  y_seq {R = R} u v k = record { gives = λ p r c e t. (let a = u.gives p t.2 t.0 e t.3 in let b = v.gives t.2 r t.1 a.0 t.4 in (b.0, subst R (sym t.5) (k t.0 t.1 a.1 b.1))) }

  pub y_map : {A B : Type 0} {f : A → B} {g : Form A} {P : A → Type 0} {R : B → Type 0} → Yields spare ns g (Quiet ns P) → ((a : A) → P a → R (f a)) → Yields spare ns (gr.map f g) (Quiet ns R)
  unfolding Spells
  y_map {R = R} u k = record { gives = λ p r c e t. (let a = u.gives p t.2 t.0 e t.3 in (ap (λ (w : Place). w.names) t.4.1 ∙ a.0, subst R (sym t.5) (k t.0 a.1))) }

  pub y_by : {A : Type 0} {f : Sort → Form A} {P : A → Place → Type 0} → ((x : Sort) → Yields spare ns (f x) P) → Yields spare ns (Form.by f) P
  unfolding Spells
  y_by u = record { gives = λ p q a e h. (u (next p)).gives p q a e h }

  pub y_maybe : {A : Type 0} {g : Form A} {b : A} {P : A → Type 0} → Yields spare ns g (Quiet ns P) → P b → Yields spare ns (Form.maybe g b) (Quiet ns P)
  unfolding Spells
  y_maybe {g = g} {b = b} {P = P} u h = record { gives = λ p q a e t. either_of ns P b a p q (starts g (next p)) e h (λ w. u.gives p q a e w) t }

  chain_keeps : {A : Type 0} {go : A → Sort → Bool} {weight : A → ℕ} {body : Sort → Form (A → A)} {P : A → Type 0} {b : A} {r : Place} → ((x : Sort) → Yields spare ns (body x) (Quiet ns (λ f. (a : A) → P a → P (f a))))
      → {a : A} {p : Place} → p.names ≡ ns → P a → Chain spare go weight (λ x. Spells spare (SpellsIn production spare) (body x)) b r a p → Quiet ns P b r
  chain_keeps u e h (Chain.done g) = (e, h)
  chain_keeps u e h (Chain.turn {a = a} {p = p} {q = q} {f = f} g w t c) = let z = (u (next p)).gives p q f e t in chain_keeps u z.0 (z.1 a h) c

  pub y_many : {A : Type 0} {go : Sort → Bool} {b : A} {body : Sort → Form (A → A)} {P : A → Type 0} → P b → ((x : Sort) → Yields spare ns (body x) (Quiet ns (λ f. (a : A) → P a → P (f a)))) → Yields spare ns (Form.many go b body) (Quiet ns P)
  unfolding Spells
  y_many h u = record { gives = λ p q a e t. chain_keeps u e h t }

  pub y_loop : {A : Type 0} {may : Sort → Bool} {fits : A → Sort → Bool} {weight : A → ℕ} {g : Form A} {body : Sort → Form (A → A)} {P : A → Type 0} → Yields spare ns g (Quiet ns P)
      → ((x : Sort) → Yields spare ns (body x) (Quiet ns (λ f. (a : A) → P a → P (f a)))) → Yields spare ns (Form.loop may fits weight g body) (Quiet ns P)
  unfolding Spells
  y_loop v u = record { gives = λ p q a e t. (let z = v.gives p t.1 t.0 e t.2 in chain_keeps u z.0 z.1 t.3) }

  pub y_when : {A : Type 0} {g : Form A} {P : A → Place → Type 0} (b : Bool) → Yields spare ns g P → Yields spare ns (gr.when b g) P
  y_when true u = u
  y_when false u = y_none

  pub y_if : {A : Type 0} {g h : Form A} {P : A → Place → Type 0} (b : Bool) → Yields spare ns g P → Yields spare ns h P → Yields spare ns (gr.if_type b g h) P
  y_if true u v = u
  y_if false u v = v

-- a token of which nothing is said
pub y_one : {spare : ℕ} {ns : Names} {x : Sort} → Yields spare ns (gr.one x) (Quiet ns (λ t. Unit {0}))
y_one = y_token (λ t e. tt)

-- ---- what a word is

unfoldable pub avoids : Sort → List (List ℕ × Sort) → Bool
avoids x [] = true
avoids x (r ∷ rs) = cond (same_sort r.1 x) false (avoids x rs)

pub never : (x : Sort) (rows : List (List ℕ × Sort)) (text : List ℕ) (rest : Sort) → avoids x rows ≡ true → same_sort rest x ≡ false → found_in rows text rest ≡ x → ⊥
unfolding avoids
never x [] text rest a o h = differs (same_sort x x) (same_self x) (subst (λ (y : Sort). same_sort y x ≡ false) h o)
  where
    differs : (b : Bool) → b ≡ true → b ≡ false → ⊥
    differs b g h = cc
never x (r ∷ rs) text rest a o h = by (bytes_eq text r.0) (same_sort r.1 x) refl a h (never x rs text rest)
  where
    here : (b : Bool) → same_sort r.1 x ≡ b → b ≡ false → r.1 ≡ x → ⊥
    here b e z h = let y : same_sort x x ≡ b = subst (λ (w : Sort). same_sort w x ≡ b) h e in let u = same_self x in cc

    by : (b c : Bool) → same_sort r.1 x ≡ c → cond c false (avoids x rs) ≡ true → cond b r.1 (found_in rs text rest) ≡ x → (avoids x rs ≡ true → same_sort rest x ≡ false → found_in rs text rest ≡ x → ⊥) → ⊥
    by b true e g h k = cc
    by true false e g h k = here false e refl h
    by false false e g h k = k g o h

pub named_word : (x : Sort) (b : Bool) → named x b ≡ s.Word → (x ≡ s.Word) × (b ≡ false)
named_word s.Word true h = absurd cc
named_word s.Word false h = (refl, refl)
named_word _ b h = absurd cc

pub named_type : (x : Sort) (b : Bool) → named x b ≡ s.TypeName → same_sort x s.TypeName ≡ false → (x ≡ s.Word) × (b ≡ true)
named_type s.Word true h k = (refl, refl)
named_type s.Word false h k = absurd cc
named_type s.TypeName b h k = absurd cc
named_type _ b h k = absurd cc

pub no_sign_word : (text : List ℕ) → sorts.sign text ≡ s.Word → ⊥
unfolding sorts.sign avoids
no_sign_word text h = never s.Word sorts.signs text s.Other refl refl h

pub is_other : (x y : Sort) (b : Bool) → same_sort x y ≡ b → (x ≡ y → ⊥) → b ≡ false
is_other x y b e k = by b e
  where
    by : (b : Bool) → same_sort x y ≡ b → b ≡ false
    by true e = absurd (k (Rattle.nesc_tree.proofs.Same.same_is x y e))
    by false e = refl

pub no_sign_type : (text : List ℕ) → sorts.sign text ≡ s.TypeName → ⊥
unfolding sorts.sign avoids
no_sign_type text h = never s.TypeName sorts.signs text s.Other refl refl h

pub no_keyword_type : (text : List ℕ) → sorts.keyword text ≡ s.TypeName → ⊥
unfolding sorts.keyword avoids
no_keyword_type text h = never s.TypeName sorts.keywords text s.Word refl refl h

of_kind : (c : Kind) (text : List ℕ) (b : Bool) → named (class_of c text) b ≡ s.Word → IsName text × (b ≡ false)
of_kind k.Word text b h = named_word (sorts.keyword text) b h
of_kind k.Number text b h = absurd cc
of_kind k.Char text b h = absurd cc
of_kind k.Text text b h = absurd cc
of_kind k.Sign text b h = absurd (no_sign_word text (named_word (sorts.sign text) b h).0)

of_type : (c : Kind) (text : List ℕ) (b : Bool) → named (class_of c text) b ≡ s.TypeName → IsName text × (b ≡ true)
of_type k.Word text b h = named_type (sorts.keyword text) b h (is_other (sorts.keyword text) s.TypeName _ refl (no_keyword_type text))
of_type k.Number text b h = absurd cc
of_type k.Char text b h = absurd cc
of_type k.Text text b h = absurd cc
of_type k.Sign text b h = let z = named_type (sorts.sign text) b h (is_other (sorts.sign text) s.TypeName _ refl (no_sign_type text)) in absurd (no_sign_word text z.0)

pub word_known : (ns : Names) (t : Token) → sort ns t ≡ s.Word → IsName t.text × (is_type ns t.text ≡ false)
unfolding sort
word_known ns t h = of_kind t.kind t.text (is_type ns t.text) h

pub type_known : (ns : Names) (t : Token) → sort ns t ≡ s.TypeName → IsName t.text × (is_type ns t.text ≡ true)
unfolding sort
type_known ns t h = of_type t.kind t.text (is_type ns t.text) h

name_at : {spare : ℕ} (ns : Names) (x : Sort) → Yields spare ns (gr.name_of x) (Quiet ns (λ t. IsName t.text))
name_at ns s.TypeName = y_token (λ t e. (type_known ns t e).0)
name_at ns _ = y_token (λ t e. (word_known ns t e).0)

pub y_name : {spare : ℕ} {ns : Names} → Yields spare ns gr.name (Quiet ns (λ t. IsName t.text))
y_name {ns = ns} = y_by (λ x. name_at ns x)
