-- Texts that are written piece by piece.
use Rattle.std.proofs.Common.{◌≡◌, ℕ, ◌+◌, ◌<◌, ◌≤◌, ◌==◌, false, cond, List, [], ◌∷◌, ◌++◌, length, drop, get_or, arith, refl, sym, ap, ◌∙◌, append_assoc, drop-cons, add-one}
use Rattle.std.specs.Prelude.{codes}
use Rattle.std.proofs.lemmas.Bool.Decides.{nat_tests}
use Rattle.std.proofs.lemmas.List.{drop_all}
use Rattle.mote_text.specs.ImageText.{before_word, image_text, word_text, words_from}

-- ---- the words of a section

pub next_word : (k : ℕ) (ws : List ℕ) → k < length ws → words_from k (drop k ws) ≡ (before_word k ++ word_text (get_or ws k 0)) ++ words_from (k + 1) (drop (k + 1) ws)
next_word k ws lt = ap (words_from k) (drop-cons ws k 0 lt) ∙ ap (λ n. (before_word k ++ word_text (get_or ws k 0)) ++ words_from (k + 1) (drop n ws)) (sym (add-one k))

pub last_word : (k : ℕ) (ws : List ℕ) → length ws ≤ k → 0 < k → words_from k (drop k ws) ≡ 10 ∷ []
last_word k ws le some =
    let t : (k == 0) ≡ false = grind (arith, nat_tests) in
    ap (words_from k) (drop_all k ws le) ∙ ap (λ t. cond t [] (10 ∷ [])) t

pub no_words : (ws : List ℕ) → length ws ≡ 0 → words_from 0 ws ≡ []
no_words [] h = refl
no_words (w ∷ ws) h = absurd (omega arith)

-- ---- an image

abbrev pub code_section : List ℕ → List ℕ
code_section code = codes "@4000\n" ++ words_from 0 code

abbrev pub vector_section : List ℕ → List ℕ
vector_section vectors = codes "@FFE0\n" ++ words_from 0 vectors

regroup : (w v : List ℕ) → w ++ (codes "@FFE0\n" ++ (v ++ codes "q\n")) ≡ ((((w ++ codes "@FFE0") ++ 10 ∷ []) ++ v) ++ codes "q") ++ 10 ∷ []
regroup w v = sym (simp append_assoc)

pub image_pieces : (read code vectors : List ℕ) → read ≡ code → code_section read ++ (vector_section vectors ++ codes "q\n") ≡ image_text code vectors
image_pieces read code vectors e =
    ap (λ c. code_section c ++ (vector_section vectors ++ codes "q\n")) e ∙ ap (λ t. codes "@4000\n" ++ t) (regroup (words_from 0 code) (words_from 0 vectors))
