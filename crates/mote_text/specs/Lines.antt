-- Texts that are read line by line: where lines and words are cut, and numbers (own).
use Rattle.std.specs.Prelude.{ℕ, ◌+◌, ◌==◌, min, Bool, ◌&&◌, nat_lt, nat_le, if◌then◌else◌, List, [], ◌∷◌, length, Option, Some, None, Result, Ok, Err}
use Rattle.std.specs.List.{list_all, slice_split}
use Rattle.std.specs.Char.{digit_value}
use Rattle.std.specs.Str.Parse.{digits_value}

-- what is not blank is cut into words at each space
abbrev pub words : List ℕ → List (List ℕ)
words line = slice_split (λ b. b == 32) line

-- one digit or more of this base, for a number up to `most`
abbrev pub is_numeral : ℕ → ℕ → List ℕ → Bool
is_numeral base most ds = nat_lt 0 (length ds) && list_all (λ d. nat_lt (digit_value d) base) ds && nat_le (digits_value base ds) most

abbrev pub numeral : ℕ → ℕ → List ℕ → Option ℕ
numeral base most ds = if is_numeral base most ds then Some (digits_value base ds) else None

-- the number of the line after line n, in 32 bits
abbrev pub next_line : ℕ → ℕ
next_line n = min (n + 1) 0xFFFFFFFF

-- A text is read line by line from line n on: each line leads from a state to the next one, and the last state has an answer
-- or refuses the line after the last. The error is the number of the first line that is refused.
abbrev pub read_lines : {S A : Type 0} → (S → List ℕ → Option S) → (S → Option A) → ℕ → S → List (List ℕ) → Result A ℕ
read_lines step answer n s [] =
    elim (answer s) [
      | None ↦ Err n
      | Some a ↦ Ok a
    ]
read_lines step answer n s (line ∷ lines) =
    elim (step s line) [
      | None ↦ Err n
      | Some t ↦ read_lines step answer (next_line n) t lines
    ]
