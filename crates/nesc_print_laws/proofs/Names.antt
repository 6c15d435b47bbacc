-- Names, which are no keywords, and type names.
use Rattle.std.proofs.Common.{◌≡◌, ℕ, Bool, true, false, List, [], ◌∷◌, refl, ap, ◌∙◌}
use Rattle.nm_base.specs.declared.token.Token.{Token}
use Rattle.nesc_tree.specs.declared.sorts.Sort.{Sort}
use Rattle.nesc_tree.specs.declared.sorts.Sort.TheVariants as s
use Rattle.nesc_tree.specs.Sorts.{Names, sort, named, is_type}
use Rattle.nesc_tree.specs.Sorts as sorts
use Rattle.nesc_grammar.specs.Grammar as gr
use Rattle.printed_words.specs.LaidOut.{Lexeme, lexeme_of}
use Rattle.nesc_print_words.specs.Lexemes.{word, number, character, literal}
use Rattle.nesc_print_laws.proofs.Texts.{Prints, Sorted, Any, sorted_class, lead, has_token, has_by}

pub text_is : (t : Token) {w : Lexeme} → lexeme_of t ≡ w → t.text ≡ w.text
text_is t e = ap (λ (l : Lexeme). l.text) e

-- a name is no keyword
abbrev pub IsName : List ℕ → Type 0
IsName n = sorts.keyword n ≡ s.Word

pub number_sorted : {ns : Names} (n : List ℕ) → Sorted ns (number n) s.Number
number_sorted {ns} n = sorted_class ns (number n) s.Number refl refl

pub char_sorted : {ns : Names} (n : List ℕ) → Sorted ns (character n) s.Char
char_sorted {ns} n = sorted_class ns (character n) s.Char refl refl

pub text_sorted : {ns : Names} (n : List ℕ) → Sorted ns (literal n) s.Text
text_sorted {ns} n = sorted_class ns (literal n) s.Text refl refl

pub word_sorted : (ns : Names) (n : List ℕ) (b : Bool) → IsName n → is_type ns n ≡ b → Sorted ns (word n) (named s.Word b)
unfolding sort
word_sorted ns n b k i = record { is = λ t e. ap (λ (v : Lexeme). named (sorts.class_of v.kind v.text) (is_type ns v.text)) e ∙ (ap (λ (x : Sort). named x (is_type ns n)) k ∙ ap (λ (c : Bool). named s.Word c) i) }

-- a name, whether or not it is a type name
pub has_name : (ns : Names) (n : List ℕ) → IsName n → Prints ns ns gr.name (word n ∷ []) Any (λ t. t.text ≡ n)
has_name ns n k = by (is_type ns n) refl
  where
    by : (b : Bool) → is_type ns n ≡ b → Prints ns ns gr.name (word n ∷ []) Any (λ t. t.text ≡ n)
    by true i = has_by s.TypeName (lead s.TypeName (word_sorted ns n true k i) refl) (has_token (word_sorted ns n true k i) (λ t w. text_is t w))
    by false i = has_by s.Word (lead s.Word (word_sorted ns n false k i) refl) (has_token (word_sorted ns n false k i) (λ t w. text_is t w))
