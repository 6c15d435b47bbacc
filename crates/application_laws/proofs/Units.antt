-- A file that is a component or an interface gives one tree and leaves one set of names, and is not refused.
use Rattle.std.proofs.Common.{◌≡◌, ℕ, true, false, Bool, List, [], ◌∷◌, ◌++◌, Option, Some, None, refl, sym, ap, subst, ◌∙◌, bytes_eq}
use Rattle.std.proofs.lemmas.List.{append_assoc}
use Rattle.std.proofs.lemmas.Slice.Eq.{bytes_eq-Decides}
use Rattle.nm_base.specs.declared.pos.Pos.{Pos}
use Rattle.nm_base.specs.declared.token.Token.{Token}
use Rattle.nm_base.specs.declared.fault.Fault.{Fault}
use Rattle.nm_base.specs.declared.fault.Fault.TheVariants as fault
use Rattle.nm_base.specs.declared.refusal.Refusal.TheVariants as r
use Rattle.nesc_tree.specs.declared.components.Unit as unit
use Rattle.nesc_tree.specs.Sorts.{Names, class}
use Rattle.nesc_tree.specs.Phrase.{Phrase, Of}
use Rattle.nesc_tree.specs.Form.{Place}
use Rattle.nesc_tree.specs.Reading.{phrase}
use Rattle.nesc_grammar.specs.Production.{production}
use Rattle.nesc_grammar.specs.Reach.{SpelledIn}
use Rattle.nesc_parse_types.specs.Gives.{place}
use Rattle.nesc_parse_comp.specs.Named.{first_of, named, name_of, opens}
use Rattle.nesc_parse_comp.specs.Units.{IsUnit, IsOther, Fails, differs, most, phrase_of}
use Rattle.nesc_parse_comp.specs.declared.kinds.UnitKind.{UnitKind}
use Rattle.nesc_parse_comp.specs.declared.kinds.UnitKind.TheVariants as kind
use Rattle.nesc_parse_comp.proofs.Words.{IsNamed, component_is_named, interface_is_named}
use Rattle.wire_reading.specs.Told.{IsOfFiles}
use Rattle.application_laws.proofs.Once.{one_place, one_value, phrase_read}

-- ---- the name

first_in : (before rest : List Token) (t : Token) → first_of before ≡ Some t → first_of (before ++ rest) ≡ Some t
first_in [] rest t h = absurd cc
first_in (u ∷ before) rest t h = h

named_in : (before rest : List Token) (t : Token) → named before ≡ Some t → named (before ++ rest) ≡ Some t
named_in [] rest t h = absurd cc
named_in (u ∷ before) rest t h =
    let by : (b : Bool) → opens (class u) ≡ b → named (u ∷ before) ≡ Some t → named (u ∷ before ++ rest) ≡ Some t = elim [
      | true ↦ λ e k. rw e (first_in before rest t (rw e at k))
      | false ↦ λ e k. rw e (named_in before rest t (rw e at k))
    ] in
    by (opens (class u)) refl h

other_is : (name : List ℕ) (o : Option Token) (pos : Pos) → differs name o ≡ Some pos → (t : Token) × (o ≡ Some t) × (bytes_eq t.text name ≡ false)
other_is name None pos h = absurd cc
other_is name (Some t) pos h =
    let by : (b : Bool) → bytes_eq t.text name ≡ b → differs name (Some t) ≡ Some pos → bytes_eq t.text name ≡ false = elim [
      | true ↦ λ e k. absurd (let z = rw e at k in cc)
      | false ↦ λ e k. e
    ] in
    (t, refl, by (bytes_eq t.text name) refl h)

module _ (file : ℕ) (ts : List Token) (name : List ℕ) (names : Names) where
  -- ---- one tree, and one set of names

  abbrev start : Place
  start = place names ts

  pub one_tree : (k : UnitKind) (u v : unit.Unit) (after behind : Names) → IsUnit k file ts name names u after → IsUnit k file ts name names v behind → u ≡ v
  one_tree kind.Interface u v after behind a b =
      one_value (phrase production most Phrase.interface start) u v (place after []) (place behind []) (phrase_read most Phrase.interface start (place after []) u a.spelled) (phrase_read most Phrase.interface start (place behind []) v b.spelled)
  one_tree kind.Component u v after behind a b =
      one_value (phrase production most Phrase.component start) u v (place after []) (place behind []) (phrase_read most Phrase.component start (place after []) u a.spelled) (phrase_read most Phrase.component start (place behind []) v b.spelled)

  names_of : (after behind : Names) → place after [] ≡ place behind [] → after ≡ behind
  names_of after behind e = ap (λ (p : Place). p.names) e

  pub one_set : (k : UnitKind) (u v : unit.Unit) (after behind : Names) → IsUnit k file ts name names u after → IsUnit k file ts name names v behind → after ≡ behind
  one_set kind.Interface u v after behind a b =
      names_of after behind (one_place (phrase production most Phrase.interface start) u v (place after []) (place behind []) (phrase_read most Phrase.interface start (place after []) u a.spelled) (phrase_read most Phrase.interface start (place behind []) v b.spelled))
  one_set kind.Component u v after behind a b =
      names_of after behind (one_place (phrase production most Phrase.component start) u v (place after []) (place behind []) (phrase_read most Phrase.component start (place after []) u a.spelled) (phrase_read most Phrase.component start (place behind []) v b.spelled))

  -- ---- it is not refused

  abbrev Whole : UnitKind → Type 0
  Whole k = (tree : Of (phrase_of k)) × SpelledIn most (phrase_of k) names tree ts

  whole : (k : UnitKind) (u : unit.Unit) (after : Names) → IsUnit k file ts name names u after → Whole k
  whole kind.Interface u after is = (u, record { after = after; spells = is.spelled })
  whole kind.Component u after is = (u, record { after = after; spells = is.spelled })

  is_named : (k : UnitKind) (u : unit.Unit) (after : Names) → IsUnit k file ts name names u after → IsNamed ts u
  is_named kind.Interface u after is = interface_is_named most start (place after []) u is.spelled
  is_named kind.Component u after is = component_is_named most start (place after []) u is.spelled

  not_other : (k : UnitKind) (u : unit.Unit) → IsNamed ts u → name_of u.part ≡ Some name → (pos : Pos) → IsOther k file ts name names pos → ⊥
  not_other k u n own pos x =
      let t = other_is name (named x.before) pos x.other in
      let e : Some t.0 ≡ Some n.0 = sym (named_in x.before x.rest t.0 t.1) ∙ (ap named (sym x.cut) ∙ n.1) in
      let z : t.0 ≡ n.0 = cc in
      let y : Some n.0.text ≡ Some name = sym n.2 ∙ own in
      let m : n.0.text ≡ name = cc in
      let w : t.0.text ≡ name = ap (λ (x : Token). x.text) z ∙ m in
      let v : bytes_eq name name ≡ false = ap (λ (b : List ℕ). bytes_eq b name) (sym w) ∙ t.2 in
      let same : bytes_eq name name ≡ true = (bytes_eq-Decides name name).1 refl in
      let no : true ≡ false = sym same ∙ v in
      cc

  module _ (k : UnitKind) (w : Whole k) (other : (pos : Pos) → IsOther k file ts name names pos → ⊥) where
    fails : (e : Fault) → Fails k file ts name names e → IsOfFiles e → ⊥
    fails (fault.Refused (r.Syntax pos)) f a = f.0.unspelled w.0 (record { levels = most; spelled = w.1 })
    fails (fault.Refused (r.LeftOut pos word)) f a = f.0.unspelled w.0 (record { levels = most; spelled = w.1 })
    fails (fault.Refused (r.WrongName pos)) f a = other pos f
    fails (fault.Limit l) f a =
        let d = f.0.deep in
        let e : ts ≡ (f.0.before ++ (d.first ∷ [])) ++ d.others = f.0.cut ∙ (ap (λ (us : List Token). f.0.before ++ us) d.is ∙ sym (append_assoc f.0.before (d.first ∷ []) d.others)) in
        d.too_deep (record { more = d.others; tree = w.0; spelled = subst (SpelledIn most (phrase_of k) names w.0) e w.1 })
    fails (fault.Refused x) f a = absurd f
    fails (fault.Missing n) f a = absurd f
    fails (fault.TooLarge m n) f a = absurd f
    fails fault.ReadFault f a = absurd a
    fails fault.NoMemory f a = absurd a

  pub not_refused : (k : UnitKind) (u : unit.Unit) (after : Names) → IsUnit k file ts name names u after → (e : Fault) → Fails k file ts name names e → IsOfFiles e → ⊥
  not_refused k u after is = fails k (whole k u after is) (λ pos x. not_other k u (is_named k u after is) is.own pos x)
