-- Sizes of types in any program, well formed or not: up to 65,536, which stands for all from there on (own).
use Rattle.std.specs.Prelude.{ℕ, ◌<◌, min, List, [], length, Option, Some, None, slice_index_or}
use Rattle.std.specs.List.{All}
use Rattle.nesc_core.specs.declared.layout.Layout.{Layout}
use Rattle.nesc_core.specs.Plain.{Ty, void, int, pointer, array, struct, Field}
use Rattle.nesc_core.specs.Size.{layout, NamesBelow}

abbrev pub most : ℕ
most = 65536

abbrev pub cut : Layout → Layout
cut l = layout (min l.size most) l.align

-- the struct that values of the type are made of
abbrev pub struct_in : Ty → Option ℕ
struct_in void = None
struct_in (int t) = None
struct_in (pointer t) = None
struct_in (array t n) = struct_in t
struct_in (struct k) = Some k

-- the fields of each struct name structs of lower numbers alone
abbrev pub AreInOrder : List (List Field) → Type 0
AreInOrder structs = (k : ℕ) → k < length structs → All (λ f. NamesBelow k f.ty) (slice_index_or structs k [])
