-- Whether values of a type have a part of another type, struct by struct (own).
use Rattle.std.specs.Prelude.{◌≡◌, ℕ, zero, suc, ◌==◌, Bool, false, ◌&&◌, ◌||◌, not, List, [], length, slice_index_or}
use Rattle.std.specs.List.{list_any}
use Rattle.nesc_core.specs.Plain.{Ty, void, int, pointer, array, struct, Field}
use Rattle.nesc_core.specs.Parts.{same_type}

-- given which structs have one among their fields
abbrev pub has_part : (wanted : Ty) → (of_struct : ℕ → Bool) → Ty → Bool
has_part wanted of_struct void = same_type void wanted
has_part wanted of_struct (int t) = same_type (int t) wanted
has_part wanted of_struct (pointer t) = same_type (pointer t) wanted
has_part wanted of_struct (array t n) = same_type (array t n) wanted || (not (n == 0) && has_part wanted of_struct t)
has_part wanted of_struct (struct k) = same_type (struct k) wanted || of_struct k

-- a field of struct k has one, where structs stand at most `depth` deep in one another
abbrev pub struct_has : List (List Field) → (wanted : Ty) → (depth : ℕ) → (k : ℕ) → Bool
struct_has structs wanted zero k = false
struct_has structs wanted (suc depth) k = list_any (λ f. has_part wanted (struct_has structs wanted depth) f.ty) (slice_index_or structs k [])

abbrev pub is_marked : List Bool → ℕ → Bool
is_marked marks k = slice_index_or marks k false

-- the marks tell which structs have one among their fields
abbrev pub AreMarked : List (List Field) → (wanted : Ty) → List Bool → Type 0
AreMarked structs wanted marks = (k : ℕ) → is_marked marks k ≡ struct_has structs wanted (length structs) k
