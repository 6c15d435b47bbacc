-- Where a body is evaluated, as what a body does is written.
use Rattle.std.specs.Prelude.{ℕ, ℤ, List, map}
use Rattle.nesc_core.specs.Plain.{Ty, Place, Program}
use Rattle.nesc_core.specs.View.{type_of, program_of}
use Rattle.nesc_core.specs.PlaceTypes.{place_type}
use Rattle.core_meaning.specs.Layout.{size_of}
use Rattle.core_meaning.specs.Work.{Work}
use Rattle.core_meaning.specs.Act.{calls_of, fill}
use Rattle.core_act.specs.declared.scope.Scope.{Scope}
use Rattle.core_act.specs.Evaluable.{Holds}

abbrev pub program_in : Scope → Program
program_in s = program_of s.program.now

abbrev pub types_in : Scope → List Ty
types_in s = map type_of s.types.now

abbrev pub fill_in : Scope → (first count : ℕ) → List ℤ → Work (Unit {0})
fill_in s first count vs = fill (program_in s) (types_in s) (calls_of (program_in s) s.depth s.turns) s.turns first count vs

-- the type of a place
abbrev pub type_at : Scope → Place → Ty
type_at s place = place_type (program_in s) (types_in s) place

-- how much a value there takes
abbrev pub size_at : Scope → Place → ℕ
size_at s place = size_of (program_in s) (type_at s place)

abbrev pub IsHeld : Scope → Type 0
IsHeld s = Holds (program_in s) (types_in s)
