-- Parts of a local or of a variable that an initialiser is for (own).
use Rattle.std.specs.Prelude.{ℕ, List, [], ◌∷◌, fold}
use Rattle.nm_base.specs.declared.int_type.IntType.{IntType}
use Rattle.nm_base.specs.declared.int_type.IntType.TheVariants.{I16}
use Rattle.nesc_core.specs.Plain as core
use Rattle.nesc_core.specs.Plain.{Ty, Place}
use Rattle.nesc_core.specs.View.{type_of}
use Rattle.elab_meaning.specs.Convert.{Target, target}
use Rattle.elab_meaning.specs.Places.{element_number}
use Rattle.elab_pieces.specs.declared.parts.Part as rust_part
use Rattle.elab_pieces.specs.declared.parts.Root.{Root}
use Rattle.elab_pieces.specs.declared.parts.Root.TheVariants as R
use Rattle.elab_pieces.specs.declared.parts.Step.{Step}
use Rattle.elab_pieces.specs.declared.parts.Step.TheVariants as S

-- the way to a part: its place, and the types of the indexes in it, the last first
pub record Way : Type 0 where
  pub place : Place
  pub indexes : List IntType

abbrev pub step_from : Way → Step → Way
step_from w (S.Element i) = record { place = element_number w.place i; indexes = I16 ∷ w.indexes }
step_from w (S.Field k) = record { place = core.field w.place k; indexes = w.indexes }

-- a place behind a step
abbrev pub stepped : Target → Step → Target
stepped t s =
    let w = step_from (record { place = t.place; indexes = t.indexes }) s in
    target w.place w.indexes t.ty

abbrev pub root_of : Root → Place
root_of (R.Local k) = core.local k
root_of (R.Object k) = core.object k

abbrev pub start_at : Root → Way
start_at r = record { place = root_of r; indexes = [] }

abbrev pub way_of : rust_part.Part → Way
way_of p = fold step_from (start_at p.root) p.steps.items

abbrev pub aim : Way → Ty → Target
aim w t = target w.place w.indexes t

abbrev pub aim_of : rust_part.Part → Target
aim_of p = aim (way_of p) (type_of p.ty)
