-- Declarations and attributes are read again.
use Rattle.std.proofs.Common.{◌≡◌, ℕ, zero, suc, Bool, true, false, List, [], ◌∷◌, ◌++◌, refl, sym, ap, subst, ◌∙◌, arith}
use Rattle.std.proofs.lemmas.List.{map-append}
use Rattle.nm_base.specs.declared.token.Token.{Token}
use Rattle.nesc_tree.specs.declared.sorts.Sort.{Sort}
use Rattle.nesc_tree.specs.declared.sorts.Sort.TheVariants as s
use Rattle.nesc_tree.specs.declared.contexts.Site.{Site}
use Rattle.nesc_tree.specs.declared.declarations.Decl.{Decl}
use Rattle.nesc_tree.specs.Form.{Form, Place, Spells, SpellsIn}
use Rattle.nesc_tree.specs.Phrase.{Phrase, Of, begins_decl, ends_decls}
use Rattle.nesc_tree.specs.Sorts.{Names, sort, named, class_of, is_type}
use Rattle.nesc_grammar.specs.Production.{production}
use Rattle.nesc_grammar.specs.Grammar as gr
use Rattle.nesc_grammar.specs.Declarations as inner
use Rattle.printed_words.specs.LaidOut.{Lexeme, lexeme_of}
use Rattle.nesc_print_words.specs.Statements.{decls_words}
use Rattle.nesc_print_laws.specs.Shapes.{decl_shape}
use Rattle.nesc_print_laws.proofs.Texts.{at, Has, Prints, Any, Sorted, lead, has_token, has_before, has_by}
use Rattle.nesc_print_laws.proofs.Fields.{Matched}
use Rattle.nesc_print_laws.proofs.Changed.{matched_map}
use Rattle.nesc_print_laws.proofs.Yields.{Yields, Quiet, y_by, y_when, y_one}
use Rattle.nesc_print_laws.proofs.Variables.{SameDecl}
use Rattle.nesc_print_laws.proofs.Inits.{has_attribute}
use Rattle.nesc_print_laws.proofs.StmtsKnown.{StmtLaw, stmt_law}
use Rattle.nesc_print_laws.proofs.Law.{again, read}
use Rattle.nesc_print_decl_laws.specs.DeclarationsAgain.{ReadBetween, FormBetween, DeclarationsAreReadAgain, DeclarationListsAreReadAgain, AttributesAreReadAgain}
use Rattle.nesc_print_decl_laws.proofs.Decls.{Decls, has_decls}
use Rattle.nesc_print_decl_laws.proofs.DeclsKnown.{decl_law, y_decls}

pub between : {k : Phrase} {ns ms : Names} {ts rest : List Token} {P Q : Of k → Type 0} → ((a : Of k) → P a → Q a) → Has (production k) (at ns (ts ++ rest)) (at ms rest) P → ReadBetween k ns ms ts rest Q
unfolding SpellsIn
between k h = record { levels = suc h.least; tree = h.value; spelled = h.spells h.least (omega arith); same = k h.value h.ok }

pub form_between : {A : Type 0} {f : Form A} {ns ms : Names} {ts rest : List Token} {P Q : A → Type 0} → ((a : A) → P a → Q a) → Has f (at ns (ts ++ rest)) (at ms rest) P → FormBetween f ns ms ts rest Q
form_between k h = record { levels = h.least; value = h.value; spelled = h.spells h.least (omega arith); same = k h.value h.ok }

pub declarations : DeclarationsAreReadAgain
declarations levels m p q x h ts rest e = between (λ y same. same) ((decl_law levels m p q x h).prints.run (ts ++ rest) rest (read ts rest e) tt)

-- ---- the token that ends them

ends_begin : (m : Site) (y : Sort) → ends_decls y ≡ true → begins_decl m y ≡ false
ends_begin m s.RBrace h = refl
ends_begin m s.Module h = refl
ends_begin m s.Configuration h = refl
ends_begin m s.Generic h = refl
ends_begin m s.Interface h = refl
ends_begin m _ h = absurd cc

-- tokens of one lexeme are of one sort
lexeme_sorted : (ns : Names) (t : Token) → Sorted ns (lexeme_of t) (sort ns t)
unfolding sort
lexeme_sorted ns t = record { is = λ u e. ap (λ (v : Lexeme). named (class_of v.kind v.text) (is_type ns v.text)) e }

module _ {ns : Names} (t : Token) (h : ends_decls (sort ns t) ≡ true) where
  has_end_token : Prints ns ns (Form.by inner.end_token) (lexeme_of t ∷ []) Any (λ u. Unit {0})
  has_end_token = has_by (sort ns t) (lead (sort ns t) (lexeme_sorted ns t) refl) (ended (ends_decls (sort ns t)) h)
    where
      ended : (b : Bool) → b ≡ true → Prints ns ns (gr.when b (gr.one (sort ns t))) (lexeme_of t ∷ []) Any (λ u. Unit {0})
      ended true e = has_token (lexeme_sorted ns t) (λ u w. tt)
      ended false e = absurd cc

has_ended : {ns ms : Names} (m : Site) (xs : List Decl) (t : Token) → Decls m xs ns ms → ends_decls (sort ms t) ≡ true → Prints ns ms (inner.ended_decls m) (decls_words xs ++ (lexeme_of t ∷ [])) Any (Matched SameDecl xs)
has_ended {ms = ms} m xs t r h = has_before (has_decls m xs r) (lead (sort ms t) (lexeme_sorted ms t) (tt, ends_begin m (sort ms t) h)) (has_end_token t h)

y_end_token : {spare : ℕ} {ns : Names} → Yields spare ns (Form.by inner.end_token) (Quiet ns (λ t. Unit {0}))
y_end_token = y_by (λ x. y_when (ends_decls x) y_one)

-- declarations with the token behind them
decls_law : (d : ℕ) (m : Site) (u v : Place) (xs : List Decl) → SpellsIn production d (Phrase.decls m) u xs v → Decls m xs u.names v.names
unfolding Spells SpellsIn
decls_law zero m u v xs h = absurd h
decls_law (suc d) m u v xs h =
    let k = (y_decls m).gives u h.2 h.0 refl h.3 in
    let e = (y_end_token {spare = d}).gives h.2 v h.1 refl h.4 in
    subst (λ ys. Decls m ys u.names v.names) (sym h.5) (subst (λ n. Decls m h.0 u.names n) (sym e.0) k)

pub lists : DeclarationListsAreReadAgain
lists = record {
  before = λ levels m p q xs h ts rest e c. form_between (λ ys g. matched_map decl_shape xs ys g) ((has_decls m xs ((y_decls m).gives p q xs refl h)).run (ts ++ rest) rest (read ts rest e) (tt, c));
  ended = λ levels m p q xs h ts rest t e c. between (λ ys g. matched_map decl_shape xs ys g) ((has_ended m xs t (decls_law levels m p q xs h) c).run ((ts ++ (t ∷ [])) ++ rest) rest (read (ts ++ (t ∷ [])) rest (map-append lexeme_of ts (t ∷ []) ∙ ap (λ ws. ws ++ (lexeme_of t ∷ [])) e)) tt);
}

pub attributes : AttributesAreReadAgain
unfolding StmtLaw
attributes levels p q x h ts rest e = again (λ y same. same) ((has_attribute x (stmt_law levels Phrase.attribute p q x h).1).run (ts ++ rest) rest (read ts rest e) tt)
