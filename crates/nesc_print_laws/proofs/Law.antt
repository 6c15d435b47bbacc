-- Expressions and types are read again.
use Rattle.std.proofs.Common.{◌≡◌, suc, List, ◌++◌, map, sym, ap, subst, ◌∙◌, arith}
use Rattle.nm_base.specs.declared.token.Token.{Token}
use Rattle.nesc_tree.specs.declared.operand.CastType.{CastType}
use Rattle.nesc_tree.specs.Form.{SpellsIn}
use Rattle.nesc_tree.specs.Phrase.{Phrase, Of}
use Rattle.nesc_tree.specs.Plain as p
use Rattle.nesc_tree.specs.Sorts.{Names, ahead}
use Rattle.nesc_tree.specs.View.{expr_of, spec_of, base_of, exprs}
use Rattle.nesc_grammar.specs.Production.{production}
use Rattle.nesc_print_words.specs.Lexemes.{Words}
use Rattle.nesc_print_words.specs.Expressions.{type_words}
use Rattle.printed_words.specs.LaidOut.{lexeme_of}
use Rattle.nesc_print_laws.specs.ReadAgain.{ReadAgain, ExpressionsAreReadAgain, TypesAreReadAgain, SameCastType}
use Rattle.nesc_print_laws.specs.Placeless.{placeless_type}
use Rattle.nesc_print_laws.proofs.Texts.{Read, read_of, at, Has, has_words}
use Rattle.nesc_print_laws.proofs.Runs.{expr_form}
use Rattle.nesc_print_laws.proofs.Types.{has_type}
use Rattle.nesc_print_laws.proofs.Fields.{plain_words, spec_same}
use Rattle.nesc_print_laws.proofs.Types
use Rattle.nesc_print_laws.proofs.Views as view
use Rattle.nesc_print_laws.proofs.Exprs.{two}
use Rattle.nesc_print_laws.proofs.Known.{Law, law, FineType}

pub read : {ws : Words} (ts rest : List Token) → map lexeme_of ts ≡ ws → Read ws (ts ++ rest) rest
read ts rest e = subst (λ ws. Read ws (ts ++ rest) rest) e (read_of ts rest)

pub again : {k : Phrase} {ns : Names} {ts rest : List Token} {P Q : Of k → Type 0} → ((a : Of k) → P a → Q a) → Has (production k) (at ns (ts ++ rest)) (at ns rest) P → ReadAgain k ns ts rest Q
unfolding SpellsIn
again k h = record { levels = suc h.least; tree = h.value; spelled = h.spells h.least (omega arith); same = k h.value h.ok }

pub expressions : ExpressionsAreReadAgain
unfolding Law
expressions levels least m u v a h ts rest e c = again (λ b same. same) ((expr_form (law levels (Phrase.expr least) u v a h).1 m).run (ts ++ rest) rest (read ts rest e) c)

-- a type without stars and dimensions
plain_view : (ns : Names) (t : CastType) → FineType ns t → spec_of t.ty ≡ p.type_spec (base_of t.ty.base) 0 p.no_exprs t.ty.is_const
plain_view ns t h = view.spec_view t.ty ∙ two (λ n d. p.type_spec (base_of t.ty.base) n (exprs (map expr_of d)) t.ty.is_const) h.stars h.dims

type_again : (ns : Names) (t : CastType) → FineType ns t → (ts rest : List Token) → map lexeme_of ts ≡ type_words (spec_of t.ty) → Types.Ends (ahead ns rest) → ReadAgain Phrase.type ns ts rest (SameCastType t)
type_again ns t h ts rest e c =
    again (λ u same. spec_same (base_of t.ty.base) t.ty.is_const u same ∙ ap placeless_type (sym (plain_view ns t h)))
    ((has_words (plain_words (base_of t.ty.base) t.ty.is_const ∙ ap type_words (sym (plain_view ns t h))) (has_type h.basic t.ty.is_const)).run (ts ++ rest) rest (read ts rest e) c)

pub types : TypesAreReadAgain
unfolding Law
types levels u v t h ts rest e c = type_again u.names t (law levels Phrase.type u v t h).1 ts rest e c
