-- What the parser may answer to the tokens of a printed text.
use Rattle.std.proofs.Common.{◌≡◌, ℕ, Bool, true, false, cond, List, [], ◌∷◌, ◌++◌, map, Option, Some, None, Result, Ok, Err, refl, sym, ap, subst, ◌∙◌, append-nil}
use Rattle.std.proofs.lemmas.Slice.Eq.{bytes_eq-Decides}
use Rattle.std.specs.Prelude.{bytes_eq}
use Rattle.nm_base.specs.declared.fault.Fault.{Fault}
use Rattle.nm_base.specs.declared.fault.Fault.TheVariants as f
use Rattle.nm_base.specs.declared.pos.Pos.{Pos}
use Rattle.nm_base.specs.declared.refusal.Refusal.TheVariants as r
use Rattle.nm_base.specs.declared.token.Token.{Token}
use Rattle.nesc_tree.specs.declared.components.Part.{Part}
use Rattle.nesc_tree.specs.declared.components.Part.TheVariants as part
use Rattle.nesc_tree.specs.declared.components.Unit as unit
use Rattle.nesc_tree.specs.Form.{SpellsIn}
use Rattle.nesc_tree.specs.Phrase.{Phrase, Of}
use Rattle.nesc_tree.specs.Sorts.{Names, class}
use Rattle.nesc_grammar.specs.Production.{production}
use Rattle.nesc_grammar.specs.Reach.{Spelled}
use Rattle.nesc_grammar.proofs.Reach.{one_tree}
use Rattle.printed_words.specs.LaidOut.{lexeme_of, LexesTo}
use Rattle.printed_words.proofs.Lexing.{laid_words_lex}
use Rattle.nesc_print_words.specs.Components.{unit_words}
use Rattle.nesc_print_decl_laws.specs.DeclarationsAgain.{ReadBetween}
use Rattle.nesc_print_whole.specs.WholeWords.{AreWhole, TokensAreWhole}
use Rattle.nesc_print_whole.proofs.Units.{words}
use Rattle.nesc_print_unit_laws.specs.UnitShapes as units
use Rattle.nesc_print_unit_laws.specs.UnitShapes.{part_shape, unit_shape}
use Rattle.nesc_print_unit_laws.proofs.UnitLaw.{interfaces, components}
use Rattle.nesc_parse_comp.specs.declared.kinds.UnitKind.{UnitKind}
use Rattle.nesc_parse_comp.specs.declared.kinds.UnitKind.TheVariants as kind
use Rattle.nesc_parse_comp.specs.Named.{opens, first_of, named, name_of}
use Rattle.nesc_parse_comp.specs.Units.{most, differs, IsUnit, IsOther, IsRefused, Fails, Parses}
use Rattle.nesc_parse_comp.proofs.Words.{IsNamed, component_is_named, interface_is_named}
use Rattle.nesc_parse_again.specs.ParsedAgain.{IsLimit, IsAgain, ParsesAgain, PrintedFilesAreParsedAgain}

-- ---- the name

shape_name : units.Part → Option (List ℕ)
shape_name (units.Part.interface i) = Some i.name
shape_name (units.Part.module_of h ds) = Some h.name
shape_name (units.Part.config h ls) = Some h.name
shape_name units.Part.header = None

name_is : (x : Part) → name_of x ≡ shape_name (part_shape x)
unfolding shape_name
name_is (part.Interface i) = refl
name_is (part.Module m) = refl
name_is (part.Config c) = refl
name_is part.Header = refl

same_name : (u v : unit.Unit) → unit_shape v ≡ unit_shape u → name_of v.part ≡ name_of u.part
same_name u v e = name_is v.part ∙ (ap (λ (x : units.File). shape_name x.part) e ∙ sym (name_is u.part))

-- a name among the first tokens stands among all
first_on : (xs rest : List Token) (t : Token) → first_of xs ≡ Some t → first_of (xs ++ rest) ≡ Some t
first_on [] rest t e = absurd cc
first_on (x ∷ xs) rest t e = e

named_on : (xs rest : List Token) (t : Token) → named xs ≡ Some t → named (xs ++ rest) ≡ Some t
named_on [] rest t e = absurd cc
named_on (x ∷ xs) rest t e = by (opens (class x)) e (named_on xs rest t)
  where
    by : (b : Bool) → cond b (first_of xs) (named xs) ≡ Some t → (named xs ≡ Some t → named (xs ++ rest) ≡ Some t) → cond b (first_of (xs ++ rest)) (named (xs ++ rest)) ≡ Some t
    by true e k = first_on xs rest t e
    by false e k = k e

own_text : (t : Token) (name : List ℕ) → t.text ≡ name → differs name (Some t) ≡ None
own_text t name e = (let z = (bytes_eq-Decides t.text name).1 e in rw z refl)

some_is : (x : Option Token) (name : List ℕ) (pos : Pos) → differs name x ≡ Some pos → (t : Token) × (x ≡ Some t)
some_is None name pos e = absurd cc
some_is (Some t) name pos e = (t, refl)

-- no other name stands where the tree has this one
not_other : (k : UnitKind) (file : ℕ) (ts : List Token) (name : List ℕ) (names : Names) (v : unit.Unit) → IsNamed ts v → name_of v.part ≡ Some name → (pos : Pos) → IsOther k file ts name names pos → ⊥
not_other k file ts name names v n o pos x =
    let s = some_is (named x.before) name pos x.other in
    let g : named ts ≡ Some s.0 = ap named x.cut ∙ named_on x.before x.rest s.0 s.1 in
    let d : ◌≡◌ {A = Option Token} (Some s.0) (Some n.0) = sym g ∙ n.1 in
    let e : ◌≡◌ {A = Option (List ℕ)} (Some n.0.text) (Some name) = sym n.2 ∙ o in
    let a : s.0 ≡ n.0 = cc in
    let b : n.0.text ≡ name = cc in
    let z : ◌≡◌ {A = Option Pos} None (Some pos) = sym (ap (differs name) s.1 ∙ own_text s.0 name (ap (λ (t : Token). t.text) a ∙ b)) ∙ x.other in
    absurd cc

-- ---- what spells the tokens again

record Again (k : Phrase) (names : Names) (ts : List Token) (P : Of k → Type 0) : Type 0 where
  tree : Of k
  spelled : Spelled k names tree ts
  same : P tree

all_again : {k : Phrase} {names after : Names} {ts : List Token} {P : Of k → Type 0} → ReadBetween k names after ts [] P → Again k names ts P
all_again {k = k} {names = names} {after = after} {ts = ts} x = record {
  tree = x.tree;
  spelled = record { levels = x.levels; spelled = record { after = after; spells = subst (λ us. SpellsIn production x.levels k (record { names = names; rest = us }) x.tree (record { names = after; rest = [] })) (append-nil ts) x.spelled } };
  same = x.same;
}

module _ (k : UnitKind) (file : ℕ) (ts : List Token) (name : List ℕ) (names : Names) (refused : (pos : Pos) → IsRefused k file ts name names pos → ⊥) (other : (pos : Pos) → IsOther k file ts name names pos → ⊥) where
  limit_of : (e : Fault) → Fails k file ts name names e → IsLimit e
  limit_of (f.Refused (r.Syntax pos)) g = absurd (refused pos g.0)
  limit_of (f.Refused (r.LeftOut pos word)) g = absurd (refused pos g.0)
  limit_of (f.Refused (r.WrongName pos)) g = absurd (other pos g)
  limit_of (f.Limit l) g = g.1
  limit_of f.NoMemory g = tt
  limit_of _ g = absurd g

abbrev Answers : UnitKind → ℕ → List Token → List ℕ → Names → unit.Unit → Type 0
Answers k file ts name names u = (answer : Result unit.Unit Fault) (after : Names) → Parses k file ts name names after answer → IsAgain u answer

interface_answers : (file : ℕ) (ts : List Token) (name : List ℕ) (names : Names) (u : unit.Unit) → name_of u.part ≡ Some name → Again Phrase.interface names ts (λ v. unit_shape v ≡ unit_shape u) → Answers kind.Interface file ts name names u
interface_answers file ts name names u o x (Ok v) after p = ap unit_shape (one_tree Phrase.interface names ts v x.tree (record { levels = most; spelled = record { after = after; spells = p.spelled } }) x.spelled) ∙ x.same
interface_answers file ts name names u o x (Err e) after p =
    limit_of kind.Interface file ts name names (λ pos y. y.unspelled x.tree x.spelled) (not_other kind.Interface file ts name names x.tree (interface_is_named x.spelled.levels _ _ x.tree x.spelled.spelled.spells) (same_name u x.tree x.same ∙ o)) e p

component_answers : (file : ℕ) (ts : List Token) (name : List ℕ) (names : Names) (u : unit.Unit) → name_of u.part ≡ Some name → Again Phrase.component names ts (λ v. unit_shape v ≡ unit_shape u) → Answers kind.Component file ts name names u
component_answers file ts name names u o x (Ok v) after p = ap unit_shape (one_tree Phrase.component names ts v x.tree (record { levels = most; spelled = record { after = after; spells = p.spelled } }) x.spelled) ∙ x.same
component_answers file ts name names u o x (Err e) after p =
    limit_of kind.Component file ts name names (λ pos y. y.unspelled x.tree x.spelled) (not_other kind.Component file ts name names x.tree (component_is_named x.spelled.levels _ _ x.tree x.spelled.spelled.spells) (same_name u x.tree x.same ∙ o)) e p

words_whole : (k : UnitKind) (file : ℕ) (ts : List Token) (name : List ℕ) (names after : Names) (u : unit.Unit) → IsUnit k file ts name names u after → TokensAreWhole ts → AreWhole (unit_words u)
words_whole kind.Interface file ts name names after u h w = words.interfaces most _ _ u h.spelled w
words_whole kind.Component file ts name names after u h w = words.components most _ _ u h.spelled w

answers_to : (k : UnitKind) (file printed : ℕ) (ts us : List Token) (name : List ℕ) (names after : Names) (u : unit.Unit) → IsUnit k file ts name names u after → map lexeme_of us ≡ unit_words u → Answers k printed us name names u
answers_to kind.Interface file printed ts us name names after u h e = interface_answers printed us name names u h.own (all_again {k = Phrase.interface} (interfaces most _ _ u h.spelled us [] e))
answers_to kind.Component file printed ts us name names after u h e = component_answers printed us name names u h.own (all_again {k = Phrase.component} (components most _ _ u h.spelled us [] e))

pub parsed_again : PrintedFilesAreParsedAgain
parsed_again k file ts name names after u h w printed text l = by (laid_words_lex printed text (unit_words u) l (words_whole k file ts name names after u h w))
  where
    by : LexesTo printed text (unit_words u) → ParsesAgain k printed text name names u
    by x = record { tokens = x.tokens; lexes = x.lexes; answers = answers_to k file printed ts x.tokens name names after u h x.are_words }
