-- The types of values that are no arrays and no structs (own).
use Rattle.nesc_core.specs.Plain.{Ty, void, int, pointer}
use Rattle.nesc_core.specs.View.{type_of}
use Rattle.well_formed.specs.declared.kind.Kind.{Kind}
use Rattle.well_formed.specs.declared.kind.Kind.TheVariants.{Void, Int, Pointer}

abbrev pub type_of_kind : Kind → Ty
type_of_kind Void = void
type_of_kind (Int t) = int t
type_of_kind (Pointer t) = pointer (type_of t.now)
