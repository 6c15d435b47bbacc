-- The shared objects at which pointers may point, by the pointers' type (own).
use Rattle.std.specs.Prelude.{⊤, ◌≡◌, ℕ, Bool, if◌then◌else◌, List, [], ◌∷◌, Option, Some, None}
use Rattle.std.specs.List.{filter}
use Rattle.nesc_core.specs.Parts.{same_type}
use Rattle.nesc_core.specs.Plain.{Ty, Program}
use Rattle.nesc_core.specs.View.{type_of}
use Rattle.race_report.specs.declared.kinds.Kind.{Kind}
use Rattle.race_report.specs.Firsts.{is_some, shared_from}
use Rattle.race_report.specs.Starts.{pointed}

-- one of the bodies in this order touches object x, which has no `norace`
abbrev pub is_shared : Program → (order : List ℕ) → (x : ℕ) → Bool
is_shared p order x = is_some (shared_from p order x)

-- the shared objects at which a pointer to this type may point, in order
abbrev pub shared_objects : Program → (order : List ℕ) → Ty → List ℕ
shared_objects p order t = filter (is_shared p order) (pointed p t)

abbrev pub objects_in : List Kind → Ty → Option (List ℕ)
objects_in [] t = None
objects_in (kind ∷ kinds) t = if same_type (type_of kind.ty.now) t then Some kind.objects else objects_in kinds t

abbrev pub AreKinds : Program → (order : List ℕ) → List Kind → Type 0
AreKinds p order [] = ⊤
AreKinds p order (kind ∷ kinds) = (kind.objects ≡ shared_objects p order (type_of kind.ty.now)) × AreKinds p order kinds
