-- The layouts of all structs by number, and the layout of a type from such a list (own).
use Rattle.std.specs.Prelude.{ℕ, List, map, length, slice_index_or}
use Rattle.std.specs.List.{range_with_len}
use Rattle.nesc_core.specs.declared.layout.Layout.{Layout}
use Rattle.nesc_core.specs.Plain.{Field}
use Rattle.nesc_core.specs.Size.{layout, struct_at, struct_of_fields, fields_layout, type_layout}

-- of the first n structs
abbrev pub first_layouts : List (List Field) → (n : ℕ) → List Layout
first_layouts structs n = map (struct_at structs (length structs)) (range_with_len 0 n)

abbrev pub layouts_of : List (List Field) → List Layout
layouts_of structs = first_layouts structs (length structs)

-- struct k's
abbrev pub at : List Layout → ℕ → Layout
at layouts k = slice_index_or layouts k (layout 0 1)

-- the layout of a struct with these fields, whose own structs have these layouts
abbrev pub made_of : List Layout → List Field → Layout
made_of layouts fields = struct_of_fields (fields_layout (map (λ f. type_layout (at layouts) f.ty) fields))
