-- A printed line of words reads back to their bytes.
use Rattle.std.proofs.Common.{◌≡◌, ℕ, ◌+◌, ◌*◌, ◌/◌, ◌%◌, ◌<◌, ◌≤◌, ◌==◌, Bool, true, false, cond, List, [], ◌∷◌, ◌++◌, length, Option, Some, None, arith, refl, ap, ◌∙◌}
use Rattle.std.specs.Prelude.{nat_le}
use Rattle.std.specs.List.{All, AllByRecursion}
use Rattle.std.specs.Option.{option_map, option_and_then}
use Rattle.std.specs.Char.{digit_value}
use Rattle.std.specs.Str.Parse.{AllDigits, digits_value}
use Rattle.std.proofs.lemmas.Bool.Decides.{nat_tests}
use Rattle.std.proofs.lemmas.List.Elements.{All-nil, All-cons}
use Rattle.mote_text.specs.Hex.{hex_byte, hex_upper}
use Rattle.mote_text.specs.Lines.{numeral}
use Rattle.mote_text.specs.ImageLines.{Bytes, End, ImageLine, Reading, Section, after_line, image_line, image_step, line_bytes, section_address, spaced_bytes}
use Rattle.mote_text.specs.ImageText.{word_text}
use Rattle.mote_text.proofs.Cutting.{IsPlain}
use Rattle.mote_text.proofs.ImageCells.{IsClear, past, put, twice, word_bytes, words_stored}
use Rattle.mote_text.proofs.Numerals.{some_where}

-- ---- digits

module _ (d : ℕ) (small : d < 16) where
  -- its digit has its value
  upper_value : digit_value (hex_upper d) ≡ d
  upper_value = grind (arith, nat_tests)

  -- and is no character that is none
  pub no_digit : (x : ℕ) → 16 ≤ digit_value x → (hex_upper d == x) ≡ false
  no_digit x far = by_test (hex_upper d == x) refl
    where
      by_test : (t : Bool) → (hex_upper d == x) ≡ t → (hex_upper d == x) ≡ false
      by_test true e =
          let is : hex_upper d ≡ x = grind (arith, nat_tests) in
          let k : digit_value (hex_upper d) ≡ digit_value x = ap digit_value is in
          absurd (omega (arith, upper_value))
      by_test false e = e

  plain_upper : IsPlain (hex_upper d)
  plain_upper = (no_digit 10 (omega arith), no_digit 13 (omega arith))

module _ (b : ℕ) (small : b < 256) where
  byte_digits : AllDigits 16 (hex_byte b)
  byte_digits = (omega (arith, upper_value (b / 16) (omega arith)), (omega (arith, upper_value (b % 16) (omega arith)), tt))

  byte_value : digits_value 16 (hex_byte b) ≡ b
  byte_value = omega (arith, upper_value (b / 16) (omega arith), upper_value (b % 16) (omega arith))

  -- two digits give their byte back
  byte_numeral : numeral 16 255 (hex_byte b) ≡ Some b
  byte_numeral = some_where 16 255 (hex_byte b) (omega arith, byte_digits) (omega (arith, byte_value)) ∙ ap Some byte_value

  plain_byte : (xs : List ℕ) → All IsPlain xs → All IsPlain (hex_byte b ++ xs)
  plain_byte xs h =
      All-cons IsPlain (hex_upper (b / 16)) (hex_upper (b % 16) ∷ xs) (plain_upper (b / 16) (omega arith))
      (All-cons IsPlain (hex_upper (b % 16)) xs (plain_upper (b % 16) (omega arith)) h)

-- ---- a line of words

-- numbers of 16 bits
abbrev pub AreWords : List ℕ → Type 0
AreWords ws = AllByRecursion (λ w. w < 0x10000) ws

-- the words behind the first one of a line
abbrev pub behind : List ℕ → List ℕ
behind [] = []
behind (w ∷ ws) = 32 ∷ (word_text w ++ behind ws)

-- one word more at the end
pub behind_more : (more : List ℕ) (v : ℕ) → behind (more ++ v ∷ []) ≡ behind more ++ 32 ∷ word_text v
behind_more [] v = refl
behind_more (w ∷ more) v = ap (λ t. 32 ∷ (word_text w ++ t)) (behind_more more v)

pub words_and_one : (more : List ℕ) (v : ℕ) → AreWords more → v < 0x10000 → AreWords (more ++ v ∷ [])
words_and_one [] v h hv = (hv, tt)
words_and_one (w ∷ more) v h hv = (h.0, words_and_one more v h.1 hv)

-- a byte in front of what is read behind it
abbrev one_byte : Option ℕ → Option (List ℕ) → Option (List ℕ)
one_byte o rest = option_and_then (λ b. option_map (λ bs. b ∷ bs) rest) o

module _ (w : ℕ) (small : w < 0x10000) where
  low : numeral 16 255 (hex_byte (w % 256)) ≡ Some (w % 256)
  low = byte_numeral (w % 256) (omega arith)

  high : numeral 16 255 (hex_byte (w / 256)) ≡ Some (w / 256)
  high = byte_numeral (w / 256) (omega arith)

  pub plain_word : (xs : List ℕ) → All IsPlain xs → All IsPlain (word_text w ++ xs)
  plain_word xs h =
      plain_byte (w % 256) (omega arith) (32 ∷ (hex_byte (w / 256) ++ xs))
      (All-cons IsPlain 32 (hex_byte (w / 256) ++ xs) (refl, refl) (plain_byte (w / 256) (omega arith) xs h))

-- no line ends among the words
plain_behind : (ws : List ℕ) → AreWords ws → All IsPlain (behind ws)
plain_behind [] h = All-nil IsPlain
plain_behind (w ∷ ws) h = All-cons IsPlain 32 (word_text w ++ behind ws) (refl, refl) (plain_word w h.0 (behind ws) (plain_behind ws h.1))

-- a line of words has their bytes
spaced_words : (w : ℕ) (more : List ℕ) → w < 0x10000 → AreWords more → spaced_bytes (word_text w ++ behind more) ≡ Some (word_bytes (w ∷ more))
unfolding spaced_bytes
spaced_words w [] small h =
    ap (λ o. one_byte o (option_map (λ b. b ∷ []) (numeral 16 255 (hex_byte (w / 256))))) (low w small)
    ∙ ap (λ o. one_byte (Some (w % 256)) (option_map (λ b. b ∷ []) o)) (high w small)
spaced_words w (v ∷ vs) small h =
    ap (λ o. one_byte o (one_byte (numeral 16 255 (hex_byte (w / 256))) (spaced_bytes (word_text v ++ behind vs)))) (low w small)
    ∙ ap (λ o. one_byte (Some (w % 256)) (one_byte o (spaced_bytes (word_text v ++ behind vs)))) (high w small)
    ∙ ap (λ o. one_byte (Some (w % 256)) (one_byte (Some (w / 256)) o)) (spaced_words v vs h.0 h.1)

-- ---- the step of a line

-- the next byte goes to this address
abbrev pub before_byte : ℕ → (ℕ → Option ℕ) → Reading
before_byte a m = record { next = Some a; byte_at = m; ended = false }

-- a line of words is cut from the text as it stands
pub plain_line : (w : ℕ) (more : List ℕ) → w < 0x10000 → AreWords more → All IsPlain (word_text w ++ behind more)
plain_line w more small words = plain_word w small (behind more) (plain_behind more words)

-- eight words at most
module _ (w : ℕ) (more : List ℕ) (small : w < 0x10000) (words : AreWords more) (short : length more < 8) where
  -- sixteen bytes at most
  few_bytes : line_bytes (word_text w ++ behind more) ≡ Some (word_bytes (w ∷ more))
  few_bytes =
      ap (option_and_then (λ bs. cond (nat_le (length bs) 16) (Some bs) None)) (spaced_words w more small words)
      ∙ ap (λ t. cond t (Some (word_bytes (w ∷ more))) None) few
    where
      few : nat_le (length (word_bytes (w ∷ more))) 16 ≡ true
      few = let n : length (word_bytes (w ∷ more)) ≤ 16 = omega (arith, twice (w ∷ more)) in grind (arith, nat_tests)

  -- neither an address nor the end
  line_is : image_line (word_text w ++ behind more) ≡ Some (Bytes (word_bytes (w ∷ more)))
  line_is =
      ap (λ t. by_first t (first == 113) (line_bytes (first ∷ others))) (no_digit (w % 256 / 16) (omega arith) 64 (omega arith))
      ∙ ap (λ t. by_first false t (line_bytes (first ∷ others))) (no_digit (w % 256 / 16) (omega arith) 113 (omega arith))
      ∙ ap (by_first false false) few_bytes
    where
      first : ℕ
      first = hex_upper (w % 256 / 16)

      others : List ℕ
      others = hex_upper (w % 256 % 16) ∷ 32 ∷ (hex_byte (w / 256) ++ behind more)

      by_first : Bool → Bool → Option (List ℕ) → Option ImageLine
      by_first s t o = cond s (option_map Section (section_address others)) (cond t (cond (length others == 0) (Some End) None) (option_map Bytes o))

  -- the line stores its words
  pub line_step : (a : ℕ) (m : ℕ → Option ℕ) → 0x4000 ≤ a → a + 2 * (length more + 1) ≤ 0x10000 → IsClear m a → image_step (before_byte a m) (word_text w ++ behind more) ≡ Some (before_byte (past a (w ∷ more)) (put m a (w ∷ more)))
  line_step a m low high h =
      ap (option_and_then (after_line (before_byte a m))) line_is
      ∙ ap (option_map (λ s. before_byte s.0 s.1)) (words_stored (w ∷ more) m a low (omega arith) h)
