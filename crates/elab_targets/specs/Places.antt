-- Tables of the places of functions, tasks and implementations of items, and of the names that are called or posted (own).
use Rattle.std.specs.Prelude.{◌≡◌, ℕ, ◌+◌, Bool, true, false, ◌&&◌, cond, List, Option}
use Rattle.std.specs.List.{list_any}
use Rattle.std.specs.Option.{option_or}
use Rattle.wire_names.specs.Places as names
use Rattle.wire_names.specs.Texts.{same_text}
use Rattle.body_meaning.specs.Tree.{Decl, Head}
use Rattle.program_meaning.specs.Numbers.{bodies_in, implements, is_function, is_item_kind, is_task, place_of, task_place, tasks_in}
use Rattle.program_meaning.specs.declared.used.Use.{Use}
use Rattle.program_meaning.specs.Uses.{is_used}
use Rattle.elab_targets.specs.Tables.{AreNamed, item_place, when}
use Rattle.elab_targets.specs.declared.places.Places.{Places}
use Rattle.elab_targets.specs.declared.items.ItemPlaces.{ItemPlaces}
use Rattle.elab_targets.specs.declared.used.Used as table

abbrev pub table_of : (is_default : Bool) → Places → ItemPlaces
table_of true t = t.defaults
table_of false t = t.implementations

abbrev pub implementation_place : Places → (element item : List ℕ) → (is_default : Bool) → Option ℕ
implementation_place t element item is_default = item_place (table_of is_default t) element item

-- the table has the places that each look-up gives by the declarations
pub record ArePlaces (ds : List Decl) (t : Places) : Type 0 where
  pub functions_are : (name : List ℕ) → names.place_of t.functions name ≡ place_of (is_function name) ds
  pub tasks_are : (name : List ℕ) → names.place_of t.task_places name ≡ task_place name ds
  pub items_are : (element item : List ℕ) (is_default : Bool) → implementation_place t element item is_default ≡ place_of (implements element item is_default) ds
  pub named : (is_default : Bool) → AreNamed (table_of is_default t)
  pub bodies_are : t.bodies ≡ bodies_in ds
  pub tasks_count : t.tasks ≡ tasks_in ds

-- a function, a task or an implementation is added
pub record IsDefined (h : Head) (old new : Places) : Type 0 where
  pub functions_are : (name : List ℕ) → names.place_of new.functions name ≡ option_or (names.place_of old.functions name) (when (is_function name h) old.bodies)
  pub tasks_are : (name : List ℕ) → names.place_of new.task_places name ≡ option_or (names.place_of old.task_places name) (when (is_task h && is_function name h) old.tasks)
  pub items_are : ((is_default : Bool) → AreNamed (table_of is_default old)) → (element item : List ℕ) (is_default : Bool)
      → implementation_place new element item is_default ≡ option_or (implementation_place old element item is_default) (when (implements element item is_default h) old.bodies)
  pub named : ((is_default : Bool) → AreNamed (table_of is_default old)) → (is_default : Bool) → AreNamed (table_of is_default new)
  pub bodies_are : new.bodies ≡ old.bodies + 1
  pub tasks_count : new.tasks ≡ old.tasks + cond (is_task h) 1 0

-- an implementation is added to the tables of items, and all else stays
pub record IsItemKept (h : Head) (old new : Places) : Type 0 where
  pub items_are : is_item_kind h.kind ≡ true → ((is_default : Bool) → AreNamed (table_of is_default old)) → (element item : List ℕ) (is_default : Bool)
      → implementation_place new element item is_default ≡ option_or (implementation_place old element item is_default) (when (implements element item is_default h) old.bodies)
  pub named : ((is_default : Bool) → AreNamed (table_of is_default old)) → (is_default : Bool) → AreNamed (table_of is_default new)
  pub functions_stay : new.functions ≡ old.functions
  pub tasks_stay : new.task_places ≡ old.task_places
  pub bodies_stay : new.bodies ≡ old.bodies
  pub count_stays : new.tasks ≡ old.tasks

-- ---- names that are called or posted

abbrev pub names_of : Bool → table.Used → List (List ℕ)
names_of true t = t.posted
names_of false t = t.called

pub record AreUsed (us : List Use) (t : table.Used) : Type 0 where
  pub has : (posts : Bool) (name : List ℕ) → list_any (same_text name) (names_of posts t) ≡ is_used us posts name
