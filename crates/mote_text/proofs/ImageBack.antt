-- A printed image reads back to its map.
use Rattle.std.proofs.Common.{◌≡◌, ℕ, ◌+◌, ◌*◌, ◌%◌, ◌<◌, ◌≤◌, ◌==◌, Bool, true, false, cond, List, [], ◌∷◌, ◌++◌, length, Option, Some, None, arith, refl, sym, ap, subst, ◌∙◌, append_assoc, length-append}
use Rattle.std.specs.Prelude.{codes, Result, Ok, Err}
use Rattle.std.specs.List.{All}
use Rattle.std.specs.Str.Lines.{lines}
use Rattle.std.proofs.lemmas.Bool.Decides.{nat_tests}
use Rattle.std.proofs.lemmas.List.{append-nil}
use Rattle.std.proofs.lemmas.List.Elements.{All-nil}
use Rattle.msp_isa.specs.Image.{IsImage, image_map}
use Rattle.mote_text.specs.Lines.{next_line, read_lines}
use Rattle.mote_text.specs.ImageLines.{ImageReadsBack, Reading, image_of, image_step, memory_of, nothing_read}
use Rattle.mote_text.specs.ImageText.{before_word, word_text, words_from}
use Rattle.mote_text.proofs.Cutting.{IsPlain, first_line, plain_then}
use Rattle.mote_text.proofs.ImageBytes.{all_read}
use Rattle.mote_text.proofs.ImageCells.{IsClear, memory, past, past_is, put, put_behind, put_clear, with_word}
use Rattle.mote_text.proofs.ImageWords.{AreWords, before_byte, behind, behind_more, line_step, plain_line, words_and_one}
use Rattle.mote_text.proofs.Writing.{code_section, image_pieces, vector_section}

-- ---- lines

-- from any line on, the text leads from this state to this memory
abbrev Reads : Reading → List ℕ → (ℕ → ℕ) → Type 0
Reads r text x = (n : ℕ) → read_lines image_step memory_of n r (lines text) ≡ Ok x

-- a line that leads to the state from which the rest is read
line_read : (r s : Reading) (line rest : List ℕ) (x : ℕ → ℕ) → 0 < length line → All IsPlain line → image_step r line ≡ Some s → Reads s rest x → Reads r (line ++ 10 ∷ rest) x
line_read r s line rest x some plain step h n = ap (read_lines image_step memory_of n r) (first_line line rest some plain) ∙ ap after step ∙ h (next_line n)
  where
    after : Option Reading → Result (ℕ → ℕ) ℕ
    after o =
        elim o [
          | None ↦ Err n
          | Some t ↦ read_lines image_step memory_of (next_line n) t (lines rest)
        ]

-- ---- sections

-- the state behind words from an address on
abbrev written : ℕ → (ℕ → Option ℕ) → List ℕ → Reading
written a m ws = before_byte (past a ws) (put m a ws)

-- some words, and then others
written_twice : (xs ys : List ℕ) (a : ℕ) (m : ℕ → Option ℕ) → written (past a xs) (put m a xs) ys ≡ written a m (xs ++ ys)
written_twice [] ys a m = refl
written_twice (w ∷ xs) ys a m = written_twice xs ys (a + 1 + 1) (with_word m a w)

module _ (rest : List ℕ) (x : ℕ → ℕ) where
  -- the words of this line so far, and the words to come, from the k-th on
  abbrev Continues : List ℕ → Type 0
  Continues ws =
      (w : ℕ) (more : List ℕ) (k a : ℕ) (m : ℕ → Option ℕ) → w < 0x10000 → AreWords more → length more < 8 → (length more + 1) % 8 ≡ k % 8 → 0 < k
      → 0x4000 ≤ a → a + 2 * (length more + 1 + length ws) ≤ 0x10000 → IsClear m a
      → Reads (written a m (w ∷ (more ++ ws))) rest x → Reads (before_byte a m) ((word_text w ++ behind more) ++ (words_from k ws ++ rest)) x

  -- the last line of a section
  no_more : Continues []
  no_more w more k a m small words short place some low high clear h =
      let t : false ≡ (k == 0) = grind (arith, nat_tests) in
      subst (λ t. Reads (before_byte a m) ((word_text w ++ behind more) ++ (cond t [] (10 ∷ []) ++ rest)) x) t
      (line_read (before_byte a m) (written a m (w ∷ more)) (word_text w ++ behind more) rest x (omega arith) (plain_line w more small words)
      (line_step w more small words short a m low (omega (arith, high)) clear)
      (subst (λ l. Reads (written a m (w ∷ l)) rest x) (append-nil more) h))

  -- one word more, on this line or the next one
  one_more : (v : ℕ) (vs : List ℕ) → v < 0x10000 → Continues vs → Continues (v ∷ vs)
  one_more v vs hv later w more k a m small words short place some low high clear h = by_test (k % 8 == 0) refl
    where
      line : List ℕ
      line = word_text w ++ behind more

      to_come : List ℕ
      to_come = words_from (k + 1) vs

      started : (k == 0) ≡ false
      started = grind (arith, nat_tests)

      before_is : (t : Bool) → (k % 8 == 0) ≡ t → before_word k ≡ cond t (10 ∷ []) (codes " ")
      before_is t e = ap (λ s. cond s [] (cond (k % 8 == 0) (10 ∷ []) (codes " "))) started ∙ ap (λ s. cond s (10 ∷ []) (codes " ")) e

      behind_line : past a (w ∷ more) ≡ a + 2 * (length more + 1)
      behind_line = omega (arith, past_is (w ∷ more) a)

      longer : length (more ++ v ∷ []) ≡ length more + 1
      longer = length-append more (v ∷ [])

      -- the word begins a line
      begins : k % 8 ≡ 0 → Reads (before_byte a m) (line ++ 10 ∷ (word_text v ++ (to_come ++ rest))) x
      begins full =
          line_read (before_byte a m) (written a m (w ∷ more)) line (word_text v ++ (to_come ++ rest)) x (omega arith) (plain_line w more small words)
          (line_step w more small words short a m low (omega (arith, high)) clear)
          (later v [] (k + 1) (past a (w ∷ more)) (put m a (w ∷ more)) hv tt (omega arith) (omega (arith, full)) (omega arith) (omega (arith, behind_line)) (omega (arith, behind_line, high)) (put_clear (w ∷ more) m a clear)
          (subst (λ s. Reads s rest x) (sym (written_twice (w ∷ more) (v ∷ vs) a m)) h))

      -- the word stands on the line
      stays : length more + 1 < 8 → Reads (before_byte a m) (line ++ 32 ∷ (word_text v ++ (to_come ++ rest))) x
      stays room =
          subst (λ t. Reads (before_byte a m) t x) same
          (later w (more ++ v ∷ []) (k + 1) a m small (words_and_one more v words hv) (omega (arith, longer, room)) (omega (arith, longer, place, room)) (omega arith) low (omega (arith, longer, high)) clear
          (subst (λ l. Reads (written a m (w ∷ l)) rest x) (sym (append_assoc more (v ∷ []) vs)) h))
        where
          same : (word_text w ++ behind (more ++ v ∷ [])) ++ (to_come ++ rest) ≡ line ++ 32 ∷ (word_text v ++ (to_come ++ rest))
          same = ap (λ t. (word_text w ++ t) ++ (to_come ++ rest)) (behind_more more v) ∙ append_assoc line (32 ∷ word_text v) (to_come ++ rest)

      by_test : (t : Bool) → (k % 8 == 0) ≡ t → Reads (before_byte a m) (line ++ (words_from k (v ∷ vs) ++ rest)) x
      by_test true e = subst (λ b. Reads (before_byte a m) (line ++ ((b ++ word_text v ++ to_come) ++ rest)) x) (sym (before_is true e)) (begins (grind (arith, nat_tests)))
      by_test false e = subst (λ b. Reads (before_byte a m) (line ++ ((b ++ word_text v ++ to_come) ++ rest)) x) (sym (before_is false e)) (stays (let inside : 0 < k % 8 = grind (arith, nat_tests) in omega (arith, place, short)))

  -- all words to come
  continues : (ws : List ℕ) → AreWords ws → Continues ws
  continues [] h = no_more
  continues (v ∷ vs) h = one_more v vs h.0 (continues vs h.1)

  -- the words of a section are stored
  words_read : (ws : List ℕ) (a : ℕ) (m : ℕ → Option ℕ) → AreWords ws → 0x4000 ≤ a → a + 2 * length ws ≤ 0x10000 → IsClear m a → Reads (written a m ws) rest x → Reads (before_byte a m) (words_from 0 ws ++ rest) x
  words_read [] a m words low high clear h = h
  words_read (w ∷ ws) a m words low high clear h = continues ws words.1 w [] 1 a m words.0 tt (omega arith) refl (omega arith) low (omega (arith, high)) clear h

-- ---- a text

module _ (code vectors : List ℕ) (is : IsImage code vectors) where
  -- the cells before and behind the code
  abbrev empty : ℕ → Option ℕ
  empty a = None

  abbrev with_code : ℕ → Option ℕ
  with_code = put empty 0x4000 code

  -- the end of the text
  at_end : Reads (written 0xFFE0 with_code vectors) (codes "q\n") (image_map code vectors)
  at_end n = all_read (next_line n) (record { next = Some (past 0xFFE0 vectors); byte_at = put with_code 0xFFE0 vectors; ended = true }) (image_map code vectors) refl (memory code vectors is.fits is.sixteen)

  -- the section of the vectors, wherever the code ended
  vectors_read : (a : ℕ) → Reads (before_byte a with_code) (vector_section vectors ++ codes "q\n") (image_map code vectors)
  vectors_read a =
      line_read (before_byte a with_code) (before_byte 0xFFE0 with_code) (codes "@FFE0") (words_from 0 vectors ++ codes "q\n") (image_map code vectors) (omega arith) (plain_then (codes "@FFE0") refl [] (All-nil IsPlain)) refl
      (words_read (codes "q\n") (image_map code vectors) vectors 0xFFE0 with_code is.vector_words (omega arith) (omega (arith, is.sixteen)) clear at_end)
    where
      clear : IsClear with_code 0xFFE0
      clear x le = put_behind code empty 0x4000 x (omega (arith, is.fits))

  -- both sections
  whole_read : Reads nothing_read (code_section code ++ (vector_section vectors ++ codes "q\n")) (image_map code vectors)
  whole_read =
      line_read nothing_read (before_byte 0x4000 empty) (codes "@4000") (words_from 0 code ++ (vector_section vectors ++ codes "q\n")) (image_map code vectors) (omega arith) (plain_then (codes "@4000") refl [] (All-nil IsPlain)) refl
      (words_read (vector_section vectors ++ codes "q\n") (image_map code vectors) code 0x4000 empty is.code_words (omega arith) (omega (arith, is.fits)) (λ x le. refl) (vectors_read (past 0x4000 code)))

pub reads_back : ImageReadsBack
unfolding image_of
reads_back code vectors is =
    ap (λ t. read_lines image_step memory_of 1 nothing_read (lines t)) (sym (image_pieces code code vectors refl))
    ∙ whole_read code vectors is 1
