-- The constants of `unique` (nesC Language Reference): each use gets the number of the earlier uses of its text, and `uniqueCount`
-- gives the number of all uses of a text, which is 0 where `unique` is never used with it.
use Rattle.std.specs.Prelude.{◌≡◌, ℕ, ◌+◌, Bool, false, cond, List, [], ◌∷◌, ◌++◌, length, suc, bytes_eq, if◌then◌else◌, unwrap_or}
use Rattle.wire_names.specs.Places.{Placed, place_of}
use Rattle.wire_instances.specs.declared.plan.Made.{Made}
use Rattle.wire_units.specs.declared.loaded.Loaded.{Loaded}
use Rattle.wire_uniques.specs.declared.used.Use.{Use}
use Rattle.wire_uniques.specs.Expressions.{Uses}
use Rattle.wire_uniques.specs.Parts.{in_instance, in_headers, parts_of}

-- asking for a count is no use of the text
abbrev pub uses_text : List ℕ → Use → Bool
uses_text text one = cond one.is_count false (bytes_eq text one.text)

abbrev pub count_of : Uses → List ℕ → ℕ
count_of [] text = 0
count_of (one ∷ uses) text = if uses_text text one then suc (count_of uses text) else count_of uses text

-- the numbers of uses that stand behind earlier ones; what asks for a count has one too, which nobody looks at
abbrev pub numbered : Uses → Uses → List ℕ
numbered earlier [] = []
numbered earlier (one ∷ uses) = count_of earlier one.text ∷ numbered (earlier ++ one ∷ []) uses

-- how many uses stand before each instance
abbrev pub starts_from : List Uses → ℕ → List Made → List ℕ
starts_from parts before [] = []
starts_from parts before (m ∷ ms) = before ∷ starts_from parts (before + length (in_instance parts m)) ms

abbrev pub starts_of : List Loaded → List Made → List ℕ
starts_of units made = starts_from (parts_of units) (length (in_headers units)) made

-- the counts and the numbers behind these uses
pub record AreNumbers (counts : Placed) (numbers : List ℕ) (uses : Uses) : Type 0 where
  pub counted : (text : List ℕ) → unwrap_or (place_of counts text) 0 ≡ count_of uses text
  pub given : numbers ≡ numbered [] uses
