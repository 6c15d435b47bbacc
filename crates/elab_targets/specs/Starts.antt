-- Tables of all instances of an application, and where the numbers of each begin (own).
use Rattle.std.specs.Prelude.{◌≡◌, ℕ, ◌+◌, List, [], ◌∷◌, Option, Some, None}
use Rattle.program_meaning.specs.Numbers.{first_bodies, first_tasks}
use Rattle.program_meaning.specs.Parts.{Application, Instance}
use Rattle.elab_targets.specs.Places.{ArePlaces}
use Rattle.elab_targets.specs.declared.places.Places.{Places}
use Rattle.elab_targets.specs.declared.tables.Tables.{Tables}

abbrev pub AllPlaces : List Instance → List Places → Type 0
AllPlaces [] [] = Unit {0}
AllPlaces [] (t ∷ ts) = ⊥
AllPlaces (i ∷ is) [] = ⊥
AllPlaces (i ∷ is) (t ∷ ts) = ArePlaces i.decls t × AllPlaces is ts

-- the places of an instance, where there is one
abbrev pub AreOf : Option Instance → Option Places → Type 0
AreOf None None = Unit {0}
AreOf None (Some t) = ⊥
AreOf (Some i) None = ⊥
AreOf (Some i) (Some t) = ArePlaces i.decls t

-- where each of these counts begins, and where the last one ends
abbrev pub starts : (Places → ℕ) → ℕ → List Places → List ℕ
starts count from [] = from ∷ []
starts count from (t ∷ ts) = from ∷ starts count (from + count t) ts

abbrev pub bodies_of : Places → ℕ
bodies_of t = t.bodies

abbrev pub tasks_of : Places → ℕ
tasks_of t = t.tasks

pub record AreTables (app : Application) (t : Tables) : Type 0 where
  pub of_headers : ArePlaces app.headers t.headers
  pub of_instances : AllPlaces app.instances t.instances.items
  pub bodies_begin : t.first_bodies.items ≡ first_bodies app
  pub tasks_begin : t.first_tasks.items ≡ first_tasks app
