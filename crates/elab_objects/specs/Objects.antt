-- Objects from their addresses, and from whether each address is taken (own: cut where the code is cut).
use Rattle.std.specs.Prelude.{⊤, ℕ, ◌<◌, Bool, true, List, [], ◌∷◌, slice_set}
use Rattle.nesc_core.specs.Plain.{Object}
use Rattle.program_meaning.specs.Making.{Variable}

abbrev pub AreLow : List ℕ → Type 0
AreLow [] = ⊤
AreLow (a ∷ later) = (a < 65536) × AreLow later

-- these numbers are marked
abbrev pub marked : List Bool → (numbers : List ℕ) → List Bool
marked flags [] = flags
marked flags (k ∷ ks) = marked (slice_set flags k true) ks

abbrev pub object_at : Variable → (addr : ℕ) → (taken : Bool) → Object
object_at v a t = record { name = v.name; ty = v.ty; addr = a; norace = v.norace; taken = t }

abbrev pub objects_by : List Variable → List ℕ → List Bool → List Object
objects_by [] later ts = []
objects_by (v ∷ vs) [] ts = []
objects_by (v ∷ vs) (a ∷ later) [] = []
objects_by (v ∷ vs) (a ∷ later) (t ∷ ts) = object_at v a t ∷ objects_by vs later ts
