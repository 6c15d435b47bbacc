-- What is spelled is read so: the same tokens give one value, and leave one set of names.
use Rattle.std.proofs.Common.{◌≡◌, ℕ, ◌<◌, Bool, true, false, List, [], ◌∷◌, Ok, Err, refl, ap, ◌∙◌, arith}
use Rattle.nm_base.specs.declared.token.Token.{Token}
use Rattle.nesc_tree.specs.declared.contexts.Site.TheVariants as site
use Rattle.nesc_tree.specs.declared.declarations.Decl.{Decl}
use Rattle.nesc_tree.specs.Phrase.{Phrase, Of, begins}
use Rattle.nesc_tree.specs.Form.{Place, next, Spells, SpellsIn}
use Rattle.nesc_tree.specs.Reading.{Fault, Syntax, Answer, read, phrase, stop}
use Rattle.nesc_grammar.specs.Declarations.{decls_before}
use Rattle.nesc_grammar.specs.Production.{production}
use Rattle.nesc_tree.proofs.Checked.{checked}
use Rattle.nesc_tree.proofs.Fine.{Fine}
use Rattle.nesc_tree.proofs.Meets.{Same, Near, Meets, meets}
use Rattle.nesc_grammar.proofs.Instance.{reads_on, reads_beside}

abbrev pub put : {A : Type 0} → A → Place → Answer A
put a p = Ok (a, p)

-- ---- the same tokens to their end

same_all : (us : List Token) → Same 0 false us us
same_all [] = Same.none
same_all (t ∷ us) = Same.there (same_all us)

same_rest : {us vs : List Token} → Same 0 false us vs → us ≡ vs
same_rest (Same.at l) = absurd (omega arith)
same_rest (Same.end e l) = absurd cc
same_rest Same.none = refl
same_rest (Same.there {u = u} h) = ap (λ (ws : List Token). u ∷ ws) (same_rest h)

same_place : (p q : Place) → Near 0 false p q → p ≡ q
same_place p q h =
    let names : p.names ≡ q.names = h.names in
    let rest : p.rest ≡ q.rest = same_rest h.same in
    λ i. record { names = names i; rest = rest i }

here : (p : Place) → Near 0 false p p
here p = record { names = refl; same = same_all p.rest }

met : {A : Type 0} (d : ℕ) (a : A) (r : Place) {x : Answer A} → Meets 0 false d d a r x → x ≡ put a r
met d a r (Meets.ok {q = q} h) = ap (λ (p : Place). put a p) (same_place q r h)
met d a r (Meets.behind l) = absurd (omega arith)
met d a r (Meets.syntax l) = absurd (omega arith)
met d a r (Meets.deep w) = let l = w refl (omega arith) in absurd (omega arith)

-- ---- phrases

pub phrase_read : (d : ℕ) (k : Phrase) (p r : Place) (a : Of k) → SpellsIn production d k p a r → phrase production d k p ≡ put a r
phrase_read d k p r a t = met d a r (reads_beside 0 false d d k p p r a (here p) t)

-- ---- declarations

abbrev failed_by : {A : Type 0} → Fault → Answer A
failed_by e = Err e

not_begun : {A : Type 0} {e : ℕ} {a : A} {q : Place} {x : Answer A} {us : List Token} → Meets 0 false 0 e a q x → x ≡ Err (Syntax us) → ⊥
not_begun (Meets.ok h) z = cc
not_begun (Meets.behind l) z = cc
not_begun (Meets.syntax l) z = omega arith
not_begun (Meets.deep w) z = cc

at_none : (k : Phrase) (p : Place) → phrase production 0 k p ≡ Err (stop (begins k (next p)) p.rest)
unfolding phrase
at_none k p = refl

text_begins : (e : ℕ) (k : Phrase) (p q : Place) (a : Of k) → SpellsIn production e k p a q → begins k (next p) ≡ true
text_begins e k p q a t =
    let none : Meets 0 false 0 e a q (phrase production 0 k p) = reads_beside 0 false 0 e k p p q a (here p) t in
    let by : (b : Bool) → begins k (next p) ≡ b → begins k (next p) ≡ true = elim [
      | true ↦ λ h. h
      | false ↦ λ h. absurd (not_begun none (at_none k p ∙ ap (λ (c : Bool). failed_by {A = Of k} (stop c p.rest)) h))
    ] in
    by (begins k (next p)) refl

pub header_fine : Fine (decls_before site.Header)
header_fine = checked (decls_before site.Header) refl

module _ (d : ℕ) (some : 0 < d) where
  pub decls_read : (p r : Place) (l : List Decl) → Spells d (SpellsIn production d) (decls_before site.Header) p l r → read d (phrase production d) (decls_before site.Header) p ≡ put l r
  decls_read p r l t = met d l r (
      meets 0 false d d (phrase production d) (SpellsIn production d) (reads_on d) (text_begins d) (λ z w k p q a u. absurd (omega arith)) (λ k p q r a near u. reads_beside 0 false d d k p q r a near u)
      (decls_before site.Header) header_fine p p r l (here p) t)

-- ---- what is read is one thing

pub one_value : {A : Type 0} (y : Answer A) (a b : A) (p q : Place) → y ≡ put a p → y ≡ put b q → a ≡ b
one_value {A = A} y a b p q g h = let z : ◌≡◌ {A = A × Place} (a, p) (b, q) = cc in ap (λ (u : A × Place). u.0) z

pub one_place : {A : Type 0} (y : Answer A) (a b : A) (p q : Place) → y ≡ put a p → y ≡ put b q → p ≡ q
one_place {A = A} y a b p q g h = let z : ◌≡◌ {A = A × Place} (a, p) (b, q) = cc in ap (λ (u : A × Place). u.1) z
