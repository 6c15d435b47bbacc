-- What is spelled with some levels is spelled with more.
use Rattle.std.proofs.Common.{ℕ, zero, suc, ◌≤◌, Bool, true, false, arith}
use Rattle.nesc_tree.specs.declared.sorts.Sort.{Sort}
use Rattle.nesc_tree.specs.Phrase.{Phrase, Of}
use Rattle.nesc_tree.specs.Form.{Form, Place, next, starts, chosen, Relation, Chain, Spells, SpellsIn}
use Rattle.nesc_grammar.specs.Production.{production}

chain_more : {A : Type 0} {d e : ℕ} {go : A → Sort → Bool} {weight : A → ℕ} {body other : Sort → Place → (A → A) → Place → Type 0} {b : A} {r : Place} → d ≤ e
    → ((x : Sort) (p q : Place) (f : A → A) → body x p f q → other x p f q) → {a : A} {p : Place} → Chain d go weight body b r a p → Chain e go weight other b r a p
chain_more l k (Chain.done h) = Chain.done h
chain_more l k (Chain.turn {p = p} {q = q} {f = f} g w t c) = Chain.turn g (omega arith) (k (next p) p q f t) (chain_more l k c)

chosen_more : {X Y : Type 0} (Z : Type 0) (b : Bool) → (X → Y) → chosen b X Z → chosen b Y Z
chosen_more Z true k h = k h
chosen_more Z false k h = h

module _ (d e : ℕ) (l : d ≤ e) (N M : (p : Phrase) → Relation (Of p)) (more : (k : Phrase) (p q : Place) (a : Of k) → N k p a q → M k p a q) where
  form_more : {A : Type 0} (g : Form A) (p q : Place) (a : A) → Spells d N g p a q → Spells e M g p a q
  unfolding Spells
  form_more (Form.empty b) p q a h = h
  form_more Form.none p q a h = absurd h
  form_more (Form.token x f) p q a h = h
  form_more (Form.seq f g k) p r c h = (h.0, h.1, h.2, form_more g p h.2 h.0 h.3, form_more k h.2 r h.1 h.4, h.5)
  form_more (Form.by f) p q a h = form_more (f (next p)) p q a h
  form_more (Form.sub k f) p q a h = (h.0, more k p q h.0 h.1, h.2)
  form_more (Form.maybe g b) p q a h = chosen_more _ (starts g (next p)) (λ t. form_more g p q a t) h
  form_more (Form.many go b body) p q a h = chain_more l (λ x u v f t. form_more (body x) u v f t) h
  form_more (Form.loop may fits weight g body) p r b h = (h.0, h.1, form_more g p h.1 h.0 h.2, chain_more l (λ x u v f t. form_more (body x) u v f t) h.3)
  form_more (Form.declare f g) p r a h = (h.0, form_more g p h.0 a h.1, h.2)
  form_more (Form.scope g) p r a h = (h.0, form_more g p h.0 a h.1, h.2)

pub phrase_more : (d e : ℕ) → d ≤ e → (k : Phrase) (p q : Place) (a : Of k) → SpellsIn production d k p a q → SpellsIn production e k p a q
unfolding SpellsIn
phrase_more zero e l k p q a h = absurd h
phrase_more (suc d) zero l k p q a h = absurd (omega arith)
phrase_more (suc d) (suc e) l k p q a h = form_more d e (omega arith) (SpellsIn production d) (SpellsIn production e) (λ k p q a. phrase_more d e (omega arith) k p q a) (production k) p q a h

pub spelled_more : {A : Type 0} (d e : ℕ) → d ≤ e → (g : Form A) (p q : Place) (a : A) → Spells d (SpellsIn production d) g p a q → Spells e (SpellsIn production e) g p a q
spelled_more d e l g p q a h = form_more d e l (SpellsIn production d) (SpellsIn production e) (λ k p q a. phrase_more d e l k p q a) g p q a h
