-- The tokens of printed files are read again.
use Rattle.std.proofs.Common.{◌≡◌, ℕ, List, [], ◌++◌, map, refl, sym, ap, subst, ◌∙◌, append-nil}
use Rattle.nm_base.specs.declared.token.Token.{Token}
use Rattle.nesc_tree.specs.declared.contexts.Site.TheVariants as site
use Rattle.nesc_tree.specs.declared.components.Part.{Part}
use Rattle.nesc_tree.specs.declared.components.Part.TheVariants as part
use Rattle.nesc_tree.specs.declared.components.Unit as unit
use Rattle.nesc_tree.specs.Form.{Spells, SpellsIn}
use Rattle.nesc_tree.specs.Phrase.{Phrase, Of}
use Rattle.nesc_tree.specs.Sorts.{Names}
use Rattle.nesc_grammar.specs.Declarations.{decls_before}
use Rattle.nesc_grammar.specs.Production.{production}
use Rattle.printed_words.specs.LaidOut.{lexeme_of, LexesTo}
use Rattle.printed_words.proofs.Lexing.{laid_words_lex}
use Rattle.nesc_print_words.specs.Statements.{decls_words}
use Rattle.nesc_print_words.specs.Components.{part_words, unit_words}
use Rattle.nesc_print_laws.proofs.Exprs.{two}
use Rattle.nesc_print_decl_laws.specs.DeclarationsAgain.{ReadBetween, FormBetween, SameDecls}
use Rattle.nesc_print_decl_laws.proofs.DeclLaw.{lists}
use Rattle.nesc_print_whole.specs.WholeWords.{AreWhole, TokensAreWhole}
use Rattle.nesc_print_whole.proofs.Units.{words}
use Rattle.nesc_print_unit_laws.specs.UnitShapes.{part_shape, unit_shape}
use Rattle.nesc_print_unit_laws.specs.PrintedFiles.{IsFile, ReadsBack, PrintedFilesAreReadAgain}
use Rattle.nesc_print_unit_laws.proofs.UnitLaw.{interfaces, components}

-- all the tokens, with nothing behind them
whole : {k : Phrase} {names after : Names} {ts : List Token} {P : Of k → Type 0} {X : Type 0} → ReadBetween k names after ts [] P
    → ((levels : ℕ) (a : Of k) → SpellsIn production levels k (record { names = names; rest = ts }) a (record { names = after; rest = [] }) → P a → X) → X
whole {k = k} {names = names} {after = after} {ts = ts} r f = f r.levels r.tree (subst (λ us. SpellsIn production r.levels k (record { names = names; rest = us }) r.tree (record { names = after; rest = [] })) (append-nil ts) r.spelled) r.same

module _ (names after : Names) (u : unit.Unit) where
  -- tokens that are its words spell it again
  record Again (ts : List Token) : Type 0 where
    tree : unit.Unit
    is_file : IsFile names after ts tree
    same : unit_shape tree ≡ unit_shape u

  header_again : (ts : List Token) → u.part ≡ part.Header → FormBetween (decls_before site.Header) names after ts [] (SameDecls u.decls) → Again ts
  header_again ts e r = record {
    tree = record { decls = r.value; part = part.Header };
    is_file = IsFile.header r.levels refl (subst (λ us. Spells r.levels (SpellsIn production r.levels) (decls_before site.Header) (record { names = names; rest = us }) r.value (record { names = after; rest = [] })) (append-nil ts) r.spelled);
    same = two (λ d z. record { decls = d; part = z }) r.same (ap part_shape (sym e));
  }

  again : (all ts : List Token) → IsFile names after all u → map lexeme_of ts ≡ unit_words u → Again ts
  again all ts (IsFile.interface levels h) e = whole (interfaces levels _ _ u h ts [] e) (λ n a s g. record { tree = a; is_file = IsFile.interface n s; same = g })
  again all ts (IsFile.component levels h) e = whole (components levels _ _ u h ts [] e) (λ n a s g. record { tree = a; is_file = IsFile.component n s; same = g })
  again all ts (IsFile.header levels i h) e = header_again ts i (lists.before levels site.Header _ _ u.decls h ts [] (e ∙ (ap (λ (x : Part). decls_words u.decls ++ part_words x) i ∙ append-nil (decls_words u.decls))) refl)

header_words : (u : unit.Unit) → u.part ≡ part.Header → unit_words u ≡ decls_words u.decls
header_words u i = ap (λ (x : Part). decls_words u.decls ++ part_words x) i ∙ append-nil (decls_words u.decls)

words_whole : (names after : Names) (ts : List Token) (u : unit.Unit) → IsFile names after ts u → TokensAreWhole ts → AreWhole (unit_words u)
words_whole names after ts u (IsFile.interface levels h) w = words.interfaces levels _ _ u h w
words_whole names after ts u (IsFile.component levels h) w = words.components levels _ _ u h w
words_whole names after ts u (IsFile.header levels i h) w = subst AreWhole (sym (header_words u i)) (words.lists levels site.Header _ _ u.decls h w)

pub files : PrintedFilesAreReadAgain
files names after ts u h w file text l = by (words_whole names after ts u h w)
  where
    by : AreWhole (unit_words u) → ReadsBack names after file text u
    by z = again_of (laid_words_lex file text (unit_words u) l z)
      where
        again_of : LexesTo file text (unit_words u) → ReadsBack names after file text u
        again_of x = (let k = again names after u ts x.tokens h x.are_words in record { tokens = x.tokens; lexes = x.lexes; whole = subst AreWhole (sym x.are_words) z; tree = k.tree; is_file = k.is_file; same = k.same })
