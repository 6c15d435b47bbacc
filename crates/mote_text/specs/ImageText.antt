-- The printed form of an image (TI-TXT): sections with their address, bytes as two hexadecimal digits with spaces between
-- them, sixteen bytes a line, words low byte first.
use Rattle.std.specs.Prelude.{ℕ, ◌+◌, ◌/◌, ◌%◌, ◌==◌, if◌then◌else◌, List, [], ◌∷◌, ◌++◌, codes}
use Rattle.mote_text.specs.Hex.{hex_byte}

abbrev pub word_text : ℕ → List ℕ
word_text w = hex_byte (w % 256) ++ codes " " ++ hex_byte (w / 256)

-- what stands before the k-th word of a section: a line has eight words
abbrev pub before_word : ℕ → List ℕ
before_word k = if k == 0 then [] else (if k % 8 == 0 then 10 ∷ [] else codes " ")

-- the words from the k-th on, and the end of the last line
abbrev pub words_from : ℕ → List ℕ → List ℕ
words_from k [] = if k == 0 then [] else 10 ∷ []
words_from k (w ∷ ws) = before_word k ++ word_text w ++ words_from (k + 1) ws

abbrev pub image_text : List ℕ → List ℕ → List ℕ
image_text code vectors = codes "@4000" ++ 10 ∷ [] ++ words_from 0 code ++ codes "@FFE0" ++ 10 ∷ [] ++ words_from 0 vectors ++ codes "q" ++ 10 ∷ []
