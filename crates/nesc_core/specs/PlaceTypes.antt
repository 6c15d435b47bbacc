-- The types of places, and where fields lie (C99, 6.5.2.1, 6.5.2.3, 6.5.3.2 and 6.7.2.1).
use Rattle.std.specs.Prelude.{ℕ, List, [], map, take, Option, Some, None, slice_get, slice_index_or}
use Rattle.nesc_core.specs.declared.tree.CoreType.{CoreType}
use Rattle.nesc_core.specs.Plain.{Ty, void, int, pointer, array, struct, Place, Field, Object, Program}
use Rattle.nesc_core.specs.Plain as plain
use Rattle.nesc_core.specs.Size.{rounded, fields_layout, layout_of}
use Rattle.nesc_core.specs.View as view

abbrev pub element_of : Ty → Ty
element_of (array t n) = t
element_of _ = void

abbrev pub count_of : Ty → ℕ
count_of (array t n) = n
count_of _ = 0

abbrev pub fields_of : List (List Field) → Ty → List Field
fields_of structs (struct k) = slice_index_or structs k []
fields_of structs _ = []

abbrev pub field_type : Option Field → Ty
field_type None = void
field_type (Some f) = f.ty

abbrev pub object_type : Option Object → Ty
object_type None = void
object_type (Some o) = o.ty

-- in a body with these types of locals; void where there is no such object, local, element or field
abbrev pub place_type : Program → List Ty → Place → Ty
place_type p types (plain.object k) = object_type (slice_get p.objects k)
place_type p types (plain.local x) = slice_index_or types x void
place_type p types (plain.deref e t) = t
place_type p types (plain.index place e) = element_of (place_type p types place)
place_type p types (plain.field place k) = field_type (slice_get (fields_of p.structs (place_type p types place)) k)

-- a type where there is one, else void
abbrev pub type_in : Option CoreType → Ty
type_in None = void
type_in (Some t) = view.type_of t

-- how far from its struct's address field k lies
abbrev pub field_offset : List (List Field) → Ty → ℕ → ℕ
field_offset structs t k =
    let before = fields_layout (map (λ f. layout_of structs f.ty) (take k (fields_of structs t))) in
    rounded before.size (layout_of structs (field_type (slice_get (fields_of structs t) k))).align
