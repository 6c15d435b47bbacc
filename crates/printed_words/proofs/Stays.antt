-- A whole word stays the longest lexeme where what follows may follow it.
use Rattle.std.proofs.Common.{◌≡◌, ℕ, zero, suc, ◌<◌, true, false, List, [], ◌∷◌, ◌++◌, length, take, refl, sym, ap, subst, ◌∙◌, arith, length-append}
use Rattle.std.proofs.lemmas.Bool.{false_from_ne_true}
use Rattle.nm_base.specs.declared.token.Kind.{Kind}
use Rattle.nm_base.specs.declared.token.Kind.TheVariants.{Word, Number, Char, Text, Sign}
use Rattle.nesc_tokens.specs.Spelling.{spells}
use Rattle.nesc_tokens.specs.Longest.{kind_at}
use Rattle.nesc_tokens.specs.Lexes.{begins_comment, IsLongest}
use Rattle.nesc_tokens.proofs.Runs.{not_both}
use Rattle.nesc_tokens.proofs.LexemeKinds.{kind_is, empty_is_none}
use Rattle.printed_words.specs.LaidOut.{may_follow, may_stand_behind}
use Rattle.printed_words.proofs.Bytes.{word_all, number_all, never_word}
use Rattle.printed_words.proofs.Longer.{never_sign, no_comment_of_one, comment_goes_on, no_comment_of_sign}
use Rattle.printed_words.proofs.Quoting.{never_character, never_text}

never_longer : (kind : Kind) (x : ℕ) (xs : List ℕ) (b : ℕ) (tail : List ℕ) → spells kind (x ∷ xs) ≡ true → may_follow (x ∷ xs) b ≡ true → spells kind ((x ∷ xs) ++ b ∷ tail) ≡ true → ⊥
never_longer Word x xs b tail short apart long = never_word x xs b tail (word_all (x ∷ xs) short) apart (word_all ((x ∷ xs) ++ b ∷ tail) long)
never_longer Number x xs b tail short apart long = never_word x xs b tail (number_all (x ∷ xs) short) apart (number_all ((x ∷ xs) ++ b ∷ tail) long)
never_longer Char x xs b tail short apart long = never_character (x ∷ xs) b tail short long
never_longer Text x xs b tail short apart long = never_text (x ∷ xs) b tail short long
never_longer Sign x xs b tail short apart long = never_sign (x ∷ xs) b tail short apart long

-- a longer front
longer_front : (xs : List ℕ) (b : ℕ) (rest : List ℕ) (m : ℕ) → length xs < m → (tail : List ℕ) × (take m (xs ++ b ∷ rest) ≡ xs ++ b ∷ tail)
longer_front [] b rest zero lt = absurd (omega arith)
longer_front [] b rest (suc m) lt = (take m rest, refl)
longer_front (x ∷ xs) b rest zero lt = absurd (omega arith)
longer_front (x ∷ xs) b rest (suc m) lt =
    let more = longer_front xs b rest m (omega (arith, lt)) in
    (more.0, ap (λ (l : List ℕ). x ∷ l) more.1)

pub front_is : (xs rest : List ℕ) → take (length xs) (xs ++ rest) ≡ xs
front_is [] rest = refl
front_is (x ∷ xs) rest = ap (λ (l : List ℕ). x ∷ l) (front_is xs rest)

none_longer : (kind : Kind) (x : ℕ) (xs : List ℕ) (b : ℕ) (rest : List ℕ) → spells kind (x ∷ xs) ≡ true → may_follow (x ∷ xs) b ≡ true → (other : Kind) (m : ℕ) → length (x ∷ xs) < m → spells other (take m ((x ∷ xs) ++ b ∷ rest)) ≡ false
none_longer kind x xs b rest short apart other m lt =
    let longer = longer_front (x ∷ xs) b rest m lt in
    ap (spells other) longer.1 ∙ false_from_ne_true _ (λ long.
    let same : other ≡ kind = sym (kind_is other x (xs ++ b ∷ longer.0) long) ∙ kind_is kind x xs short in
    never_longer kind x xs b longer.0 short apart (subst (λ (k : Kind). spells k ((x ∷ xs) ++ b ∷ longer.0) ≡ true) same long))

longest : (kind : Kind) (text rest : List ℕ) → spells kind text ≡ true → may_stand_behind text rest ≡ true → IsLongest kind (length text) (text ++ rest)
longest kind [] rest whole apart = not_both _ whole (empty_is_none kind)
longest kind (x ∷ xs) [] whole apart = record {
  within = omega (arith, length-append (x ∷ xs) []);
  spelled = ap (spells kind) (front_is (x ∷ xs) []) ∙ whole;
  longest = λ other m lt le. absurd (omega (arith, lt, le, length-append (x ∷ xs) []));
}
longest kind (x ∷ xs) (b ∷ rest) whole apart = record {
  within = omega (arith, length-append (x ∷ xs) (b ∷ rest));
  spelled = ap (spells kind) (front_is (x ∷ xs) (b ∷ rest)) ∙ whole;
  longest = λ other m lt le. none_longer kind x xs b rest whole apart other m lt;
}

-- ---- no comment begins there

slash_first : (a : ℕ) (bytes : List ℕ) → begins_comment (a ∷ bytes) ≡ true → a ≡ 47
slash_first a [] is = absurd (not_both _ is (no_comment_of_one a))
slash_first a (b ∷ bytes) is = (comment_goes_on a b is).0

no_slash : (a : ℕ) (bytes : List ℕ) (kind : Kind) → kind_at a ≡ kind → (kind ≡ Sign → ⊥) → begins_comment (a ∷ bytes) ≡ false
no_slash a bytes kind at other = false_from_ne_true _ (λ is. other (sym at ∙ ap kind_at (slash_first a bytes is)))

behind : (text rest : List ℕ) → may_stand_behind text rest ≡ true → (b : ℕ) (tail : List ℕ) → rest ≡ b ∷ tail → may_follow text b ≡ true
behind text rest apart b tail is = subst (λ (l : List ℕ). may_stand_behind text l ≡ true) is apart

no_comment : (kind : Kind) (text rest : List ℕ) → spells kind text ≡ true → may_stand_behind text rest ≡ true → begins_comment (text ++ rest) ≡ false
no_comment kind [] rest whole apart = not_both _ whole (empty_is_none kind)
no_comment Word (x ∷ xs) rest whole apart = no_slash x (xs ++ rest) Word (kind_is Word x xs whole) (λ e. cc)
no_comment Number (x ∷ xs) rest whole apart = no_slash x (xs ++ rest) Number (kind_is Number x xs whole) (λ e. cc)
no_comment Char (x ∷ xs) rest whole apart = no_slash x (xs ++ rest) Char (kind_is Char x xs whole) (λ e. cc)
no_comment Text (x ∷ xs) rest whole apart = no_slash x (xs ++ rest) Text (kind_is Text x xs whole) (λ e. cc)
no_comment Sign (x ∷ xs) rest whole apart = no_comment_of_sign (x ∷ xs) rest whole (behind (x ∷ xs) rest apart)

pub stays_whole : (kind : Kind) (text rest : List ℕ) → spells kind text ≡ true → may_stand_behind text rest ≡ true → (begins_comment (text ++ rest) ≡ false) × IsLongest kind (length text) (text ++ rest)
stays_whole kind text rest whole apart = (no_comment kind text rest whole apart, longest kind text rest whole apart)
