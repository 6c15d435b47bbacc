-- A text of declarations has no word that begins an interface or a component, so the name of a unit stands behind the first such word.
use Rattle.std.proofs.Common.{◌≡◌, ℕ, zero, suc, Bool, true, false, ◌&&◌, List, ◌∷◌, Option, Some, refl, sym, ap, ◌∙◌}
use Rattle.nm_base.specs.declared.token.Token.{Token}
use Rattle.nesc_tree.specs.declared.sorts.Sort.{Sort}
use Rattle.nesc_tree.specs.declared.sorts.Sort.TheVariants as s
use Rattle.nesc_tree.specs.declared.contexts.Jumps.TheVariants as jumps
use Rattle.nesc_tree.specs.declared.contexts.Site.TheVariants as site
use Rattle.nesc_tree.specs.declared.components.Unit as unit
use Rattle.nesc_tree.specs.declared.components.Part.{Part}
use Rattle.nesc_tree.specs.declared.components.Head.{Head}
use Rattle.nesc_tree.specs.declared.components.GenericParam.{GenericParam}
use Rattle.nesc_tree.specs.declared.declarations.Decl.{Decl}
use Rattle.nesc_tree.specs.Sorts as sorts_of
use Rattle.nesc_tree.specs.Sorts.{Names, sort, sorts, class}
use Rattle.nesc_tree.specs.Phrase.{Phrase, Of}
use Rattle.nesc_tree.specs.Form.{Form, Place, next, starts, chosen, Relation, Chain, Spells, SpellsIn}
use Rattle.nesc_tree.specs.Reading.{all_of}
use Rattle.nesc_grammar.specs.Grammar as grammar
use Rattle.nesc_grammar.specs.Grammar.{expression, admits_cast}
use Rattle.nesc_grammar.specs.Declarations.{decls_before}
use Rattle.nesc_grammar.specs.Components as spec
use Rattle.nesc_grammar.specs.Production.{production}
use Rattle.nesc_tree.proofs.Checked.{no, all_at}
use Rattle.nesc_parse_comp.specs.Named.{opens, first_of, named, name_of}

left_of : (a b : Bool) → (a && b) ≡ true → a ≡ true
left_of true b h = refl
left_of false b h = h

right_of : (a b : Bool) → (a && b) ≡ true → b ≡ true
right_of true b h = h
right_of false b h = absurd cc

not_so : (a : Bool) → no a ≡ true → a ≡ false
not_so true h = absurd cc
not_so false h = refl

-- phrases without such words
plain : Phrase → Bool
plain (Phrase.decls m) = false
plain Phrase.generics = false
plain Phrase.spec = false
plain Phrase.line = false
plain Phrase.item = false
plain Phrase.interface = false
plain Phrase.component = false
plain _ = true

abbrev clean : {A : Type 0} → Form A → Bool
clean (Form.empty a) = true
clean Form.none = true
clean (Form.token x f) = no (opens x)
clean (Form.seq f g h) = clean g && clean h
clean (Form.by f) = all_of (λ x. clean (f x)) sorts
clean (Form.sub p f) = plain p
clean (Form.maybe g a) = clean g
clean (Form.many go a body) = all_of (λ x. clean (body x)) sorts
clean (Form.loop may fits weight g body) = clean g && all_of (λ x. clean (body x)) sorts
clean (Form.declare f g) = clean g
clean (Form.scope g) = clean g

opens_named : (x : Sort) (b : Bool) → opens (sorts_of.named x b) ≡ opens x
opens_named s.Word true = refl
opens_named s.Word false = refl
opens_named s.End b = refl
opens_named _ b = refl

-- whatever type names are in force
opens_sort : (names : Names) (t : Token) → opens (sort names t) ≡ opens (class t)
unfolding sort
opens_sort names t = opens_named (class t) (sorts_of.is_type names t.text)

skipped : (t : Token) (ts : List Token) → opens (class t) ≡ false → named (t ∷ ts) ≡ named ts
skipped t ts h = rw h refl

found : (t : Token) (ts : List Token) → opens (class t) ≡ true → named (t ∷ ts) ≡ first_of ts
found t ts h = rw h refl

pub skipped_at : (names : Names) (t : Token) (ts : List Token) → opens (sort names t) ≡ false → named (t ∷ ts) ≡ named ts
skipped_at names t ts h = skipped t ts (sym (opens_sort names t) ∙ h)

pub found_at : (names : Names) (t : Token) (ts : List Token) → opens (sort names t) ≡ true → named (t ∷ ts) ≡ first_of ts
found_at names t ts h = found t ts (sym (opens_sort names t) ∙ h)

module _ (d : ℕ) (Nested : (k : Phrase) → Relation (Of k)) where
  abbrev Passes : Place → Place → Type 0
  Passes p q = named p.rest ≡ named q.rest

  is_token : {A : Type 0} (x : Sort) (f : Token → A) (p q : Place) (b : A) → Spells d Nested (Form.token x f) p b q → (t : Token) × (p.rest ≡ t ∷ q.rest) × (opens (class t) ≡ opens x) × (b ≡ f t)
  unfolding Spells
  is_token x f p q b t = (t.0, ap (λ (u : Place). u.rest) t.1, sym (opens_sort q.names t.0) ∙ ap opens t.2, t.3)

  passed : {A : Type 0} (x : Sort) (f : Token → A) → opens x ≡ false → (p q : Place) (b : A) → Spells d Nested (Form.token x f) p b q → Passes p q
  passed x f h p q b t =
      let u = is_token x f p q b t in
      ap named u.1 ∙ skipped u.0 q.rest (u.2 ∙ h)

  module _ (N : (k : Phrase) → plain k ≡ true → (p q : Place) (a : Of k) → Nested k p a q → Passes p q) where
    chain : {A : Type 0} (go : A → Sort → Bool) (weight : A → ℕ) (body : Sort → Place → (A → A) → Place → Type 0) → ((x : Sort) (p q : Place) (f : A → A) → body x p f q → Passes p q)
        → (b : A) (r : Place) (a : A) (p : Place) → Chain d go weight body b r a p → Passes p r
    chain go weight body h b r a p (Chain.done e) = refl
    chain go weight body h b r a p (Chain.turn {q = q} {f = f} e w t c) = h (next p) p q f t ∙ chain go weight body h b r (f a) q c

    passes : {A : Type 0} (g : Form A) → clean g ≡ true → (p q : Place) (a : A) → Spells d Nested g p a q → Passes p q
    unfolding Spells
    passes (Form.empty a) h p q b t = ap (λ (u : Place). named u.rest) (sym t.1)
    passes Form.none h p q b t = absurd t
    passes (Form.token x f) h p q b t = passed x f (not_so _ h) p q b t
    passes (Form.seq f g k) h p q b t = passes g (left_of _ _ h) p t.2 t.0 t.3 ∙ passes k (right_of (clean g) _ h) t.2 q t.1 t.4
    passes (Form.by f) h p q b t = passes (f (next p)) (all_at (λ x. clean (f x)) h (next p)) p q b t
    passes (Form.sub k f) h p q b t = N k h p q t.0 t.1
    passes (Form.maybe {A = A} g a) h p q b t =
        let by : (c : Bool) → chosen c (Spells d Nested g p b q) ((b ≡ a) × (q ≡ p)) → Passes p q = elim [
          | true ↦ λ u. passes g h p q b u
          | false ↦ λ u. ap (λ (v : Place). named v.rest) (sym u.1)
        ] in
        by (starts g (next p)) t
    passes (Form.many go a body) h p q b t = chain (λ _ x. go x) (λ _. 0) (λ x. Spells d Nested (body x)) (λ x r u f v. passes (body x) (all_at (λ y. clean (body y)) h x) r u f v) b q a p t
    passes (Form.loop may fits weight g body) h p q b t =
        passes g (left_of _ _ h) p t.1 t.0 t.2
        ∙ chain _ weight (λ x. Spells d Nested (body x)) (λ x r u f v. passes (body x) (all_at (λ y. clean (body y)) (right_of (clean g) _ h) x) r u f v) b q t.0 t.1 t.3
    passes (Form.declare f g) h p q b t = passes g h p t.0 b t.1 ∙ ap (λ (u : Place). named u.rest) (sym t.2)
    passes (Form.scope g) h p q b t = passes g h p t.0 b t.1 ∙ ap (λ (u : Place). named u.rest) (sym t.2)

expr_clean : (b : Bool) (least : ℕ) → clean (expression b least) ≡ true
unfolding plain
expr_clean true least = refl
expr_clean false least = refl

all_clean : (k : Phrase) → plain k ≡ true → clean (production k) ≡ true
unfolding plain
all_clean (Phrase.expr least) h = expr_clean (admits_cast least) least
all_clean Phrase.opened h = refl
all_clean Phrase.fields h = refl
all_clean Phrase.pointers h = refl
all_clean Phrase.type h = refl
all_clean Phrase.braces h = refl
all_clean Phrase.local h = refl
all_clean (Phrase.stmt jumps.Neither) h = refl
all_clean (Phrase.stmt jumps.Break) h = refl
all_clean (Phrase.stmt jumps.BreakAndContinue) h = refl
all_clean (Phrase.label jumps.Neither) h = refl
all_clean (Phrase.label jumps.Break) h = refl
all_clean (Phrase.label jumps.BreakAndContinue) h = refl
all_clean (Phrase.cases jumps.Neither) h = refl
all_clean (Phrase.cases jumps.Break) h = refl
all_clean (Phrase.cases jumps.BreakAndContinue) h = refl
all_clean (Phrase.decl site.Header) h = refl
all_clean (Phrase.decl site.Module) h = refl
all_clean Phrase.attribute h = refl
all_clean _ h = absurd cc

phrases_pass : (d : ℕ) (k : Phrase) → plain k ≡ true → (p q : Place) (a : Of k) → SpellsIn production d k p a q → named p.rest ≡ named q.rest
unfolding SpellsIn
phrases_pass zero k h p q a t = absurd t
phrases_pass (suc d) k h p q a t = passes d (SpellsIn production d) (phrases_pass d) (production k) (all_clean k h) p q a t

-- ---- the name of a unit

module _ (d : ℕ) (Nested : (k : Phrase) → Relation (Of k)) where
  name_by : (x : Sort) (p q : Place) (t : Token) → Spells d Nested (grammar.name_of x) p t q → p.rest ≡ t ∷ q.rest
  unfolding Spells
  name_by s.TypeName p q t u = ap (λ (v : Place). v.rest) u.1 ∙ ap (λ (v : Token). v ∷ q.rest) (sym u.3)
  name_by s.End p q t u = ap (λ (v : Place). v.rest) u.1 ∙ ap (λ (v : Token). v ∷ q.rest) (sym u.3)
  name_by _ p q t u = ap (λ (v : Place). v.rest) u.1 ∙ ap (λ (v : Token). v ∷ q.rest) (sym u.3)

  -- the head of a component begins with its name
  abbrev Headed : Place → (Bool → Head) → Type 0
  Headed p h = (t : Token) × (us : List Token) × (p.rest ≡ t ∷ us) × ((g : Bool) → (h g).name ≡ t.text)

  head_named : (p q : Place) (h : Bool → Head) → Spells d Nested spec.head p h q → Headed p h
  unfolding Spells
  head_named p q h u =
      let more = u.4 in
      let end = more.4 in (
        u.0,
        u.2.rest,
        name_by (next p) p u.2 u.0 u.3,
        λ g. ap (λ (k : Bool → Head). (k g).name) u.5 ∙ (ap (λ (k : Token → Bool → Head). (k u.0 g).name) more.5 ∙ ap (λ (k : Token → Option (List GenericParam) → Head). (k u.0 (spec.generic_of g more.0)).name) end.5),
      )

  -- behind its word
  abbrev Behind : Place → (Bool → Part) → Type 0
  Behind p f = (t : Token) × (us : List Token) × (named p.rest ≡ first_of (t ∷ us)) × ((g : Bool) → name_of (f g) ≡ Some t.text)

  opened : (x : Sort) → opens x ≡ true → (p q : Place) (o : Token) → Spells d Nested (grammar.one x) p o q → named p.rest ≡ first_of q.rest
  opened x h p q o u = let t = is_token d Nested x (λ t. t) p q o u in ap named t.1 ∙ found t.0 q.rest (t.2 ∙ h)

  module_named : (p q : Place) (f : Bool → Part) → Spells d Nested spec.module_of p f q → Behind p f
  unfolding Spells
  module_named p q f u =
      let inner = u.4 in
      let h = head_named u.2 inner.2 inner.0 inner.3 in
      (h.0, h.1, opened s.Module refl p u.2 u.0 u.3 ∙ ap first_of h.2, λ g. ap (λ (k : Bool → Part). name_of (k g)) (u.5 ∙ inner.5) ∙ ap Some (h.3 g))

  configuration_named : (p q : Place) (f : Bool → Part) → Spells d Nested spec.configuration_of p f q → Behind p f
  unfolding Spells
  configuration_named p q f u =
      let inner = u.4 in
      let h = head_named u.2 inner.2 inner.0 inner.3 in
      (h.0, h.1, opened s.Configuration refl p u.2 u.0 u.3 ∙ ap first_of h.2, λ g. ap (λ (k : Bool → Part). name_of (k g)) (u.5 ∙ inner.5) ∙ ap Some (h.3 g))

  nowhere : (p q : Place) (f : Bool → Part) → Spells d Nested Form.none p f q → ⊥
  unfolding Spells
  nowhere p q f u = u

  no_part : (p q : Place) (a : Part) → Spells d Nested Form.none p a q → ⊥
  unfolding Spells
  no_part p q a u = u

  component_named : (x : Sort) (p q : Place) (f : Bool → Part) → Spells d Nested (spec.component_by x) p f q → Behind p f
  component_named s.Module p q f u = module_named p q f u
  component_named s.Configuration p q f u = configuration_named p q f u
  component_named s.End p q f u = absurd (nowhere p q f u)
  component_named _ p q f u = absurd (nowhere p q f u)

  -- the name of the part is that of the tokens
  abbrev NamesPart : Place → Part → Type 0
  NamesPart p a = (t : Token) × (named p.rest ≡ Some t) × (name_of a ≡ Some t.text)

  plainly : (x : Sort) (p q : Place) (a : Part) → Spells d Nested (grammar.map (λ f. f false) (spec.component_by x)) p a q → NamesPart p a
  unfolding Spells
  plainly x p q a u =
      let b = component_named x p u.2 u.0 u.3 in
      (b.0, b.2, ap name_of u.5 ∙ b.3 false)

  generically : (p q : Place) (a : Part) → Spells d Nested (spec.component_part s.Generic) p a q → NamesPart p a
  unfolding Spells
  generically p q a u =
      let more = u.3 in
      let b = component_named (next more.2) more.2 u.2 more.1 more.4 in
      (b.0, passed d Nested s.Generic (λ t. t) refl p more.2 more.0 more.3 ∙ b.2, ap name_of u.5 ∙ (ap (λ (f : Bool → Part). name_of (f true)) more.5 ∙ b.3 true))

  component_part_named : (x : Sort) (p q : Place) (a : Part) → Spells d Nested (spec.component_part x) p a q → NamesPart p a
  component_part_named s.Generic p q a u = generically p q a u
  component_part_named s.End p q a u = plainly s.End p q a u
  component_part_named x p q a u = plainly x p q a u

  interface_named : (p q : Place) (a : Part) → Spells d Nested spec.interface_form p a q → NamesPart p a
  unfolding Spells
  interface_named p q a u =
      let word = u.3 in
      let more = u.4 in
      let end = more.4 in (
        word.1,
        opened s.Interface refl p word.2 word.0 word.3 ∙ ap first_of (name_by (next word.2) word.2 u.2 word.1 word.4),
        ap name_of u.5 ∙ (ap (λ (k : Token → Part). name_of (k u.0)) more.5 ∙ (ap (λ (k : List Token → Token → Part). name_of (k more.0 u.0)) end.5 ∙ ap (λ (t : Token). Some t.text) word.5)),
      )

  interface_part_named : (x : Sort) (p q : Place) (a : Part) → Spells d Nested (spec.interface_part x) p a q → NamesPart p a
  interface_part_named s.Interface p q a u = interface_named p q a u
  interface_part_named s.End p q a u = absurd (no_part p q a u)
  interface_part_named _ p q a u = absurd (no_part p q a u)

abbrev pub IsNamed : List Token → unit.Unit → Type 0
IsNamed ts u = (t : Token) × (named ts ≡ Some t) × (name_of u.part ≡ Some t.text)

decls_pass : (d : ℕ) (p q : Place) (a : List Decl) → Spells d (SpellsIn production d) (decls_before site.Header) p a q → named p.rest ≡ named q.rest
unfolding plain
decls_pass d p q a t = passes d (SpellsIn production d) (phrases_pass d) (decls_before site.Header) refl p q a t

pub component_is_named : (d : ℕ) (p q : Place) (u : unit.Unit) → SpellsIn production d Phrase.component p u q → IsNamed p.rest u
unfolding Spells SpellsIn
component_is_named zero p q u t = absurd t
component_is_named (suc d) p q u t =
    let n = component_part_named d (SpellsIn production d) (next t.2) t.2 t.4.0 t.1 t.4.1 in
    (n.0, decls_pass d p t.2 t.0 t.3 ∙ n.1, ap (λ (x : unit.Unit). name_of x.part) t.5 ∙ n.2)

pub interface_is_named : (d : ℕ) (p q : Place) (u : unit.Unit) → SpellsIn production d Phrase.interface p u q → IsNamed p.rest u
unfolding Spells SpellsIn
interface_is_named zero p q u t = absurd t
interface_is_named (suc d) p q u t =
    let n = interface_part_named d (SpellsIn production d) (next t.2) t.2 t.4.0 t.1 t.4.1 in
    (n.0, decls_pass d p t.2 t.0 t.3 ∙ n.1, ap (λ (x : unit.Unit). name_of x.part) t.5 ∙ n.2)
