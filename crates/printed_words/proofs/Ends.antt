-- What may follow a text is told by its last byte.
use Rattle.std.proofs.Common.{◌≡◌, ℕ, ◌+◌, ◌-◌, ◌<◌, ◌≤◌, true, false, List, [], ◌∷◌, ◌++◌, length, take, get_or, refl, sym, ap, subst, ◌∙◌, arith, take_all}
use Rattle.std.specs.Prelude.{slice_index, ◌==◌}
use Rattle.std.proofs.lemmas.List.{take_more}
use Rattle.printed_words.specs.LaidOut.{Lexeme, Laid, is_apart, may_follow, may_stand_behind}

ends_at : (a : ℕ) (text : List ℕ) (b : ℕ) → is_apart (slice_index (a ∷ text) (length text)) b ≡ may_follow (a ∷ text) b
ends_at a [] b = refl
ends_at a (c ∷ text) b = ends_at c text b

pub follows_end : (text : List ℕ) (b : ℕ) → (length text == 0) ≡ false → is_apart (slice_index text (length text - 1)) b ≡ may_follow text b
follows_end [] b some = absurd cc
follows_end (a ∷ text) b some =
    let at : length (a ∷ text) - 1 ≡ length text = omega arith in
    ap (λ (n : ℕ). is_apart (slice_index (a ∷ text) n) b) at ∙ ends_at a text b

-- behind a space stands any word
blank_follows : (text : List ℕ) (b : ℕ) → may_follow (text ++ 32 ∷ []) b ≡ true
blank_follows [] b = refl
blank_follows (a ∷ []) b = refl
blank_follows (a ∷ c ∷ text) b = blank_follows (c ∷ text) b

pub blank_behind : (text after word : List ℕ) → after ≡ text ++ 32 ∷ [] → may_stand_behind after word ≡ true
blank_behind text after [] is = refl
blank_behind text after (b ∷ word) is = ap (λ (t : List ℕ). may_follow t b) is ∙ blank_follows text b

-- one word after the other
pub laid_more : (text : List ℕ) (xs : List Lexeme) (i : ℕ) (x : Lexeme) → i < length xs → x ≡ get_or xs i x → Laid text (take i xs ++ x ∷ []) → Laid text (take (i + 1) xs)
laid_more text xs i x below is laid = subst (Laid text) (ap (λ (y : Lexeme). take i xs ++ y ∷ []) is ∙ sym (take_more xs i x below)) laid

pub laid_all : (text : List ℕ) (xs : List Lexeme) (i : ℕ) → length xs ≤ i → Laid text (take i xs) → Laid text xs
laid_all text xs i past laid = subst (Laid text) (take_all i xs past) laid

pub ruleset laid_words = (laid_more, laid_all)
