-- Places among the definitions, where one more declaration stands behind.
use Rattle.std.proofs.Common.{◌≡◌, ℕ, ◌+◌, Bool, true, false, ◌&&◌, cond, List, [], ◌∷◌, ◌++◌, length, Option, Some, None, refl, sym, ap, ◌∙◌, arith, filter, length-append}
use Rattle.std.specs.List.{position_from, cons_option}
use Rattle.std.specs.Option.{option_map, option_or}
use Rattle.std.proofs.lemmas.List.{append-nil}
use Rattle.std.proofs.lemmas.List.Elements.{filter_map-append, filter-append}
use denote.Ref.{Bor}
use Rattle.nesc_tree.specs.declared.declarations.FuncHead.{FuncHead}
use Rattle.body_meaning.specs.Tree.{Decl, Head}
use Rattle.body_meaning.specs.View.{head_of}
use Rattle.program_meaning.specs.Numbers.{bodies_in, definition_in, definitions, implements, is_function, is_task, place_of, task_place, tasks_in}
use Rattle.wire_names.specs.Places as names
use Rattle.elab_targets.specs.Places.{ArePlaces, IsDefined, implementation_place, table_of}
use Rattle.elab_targets.specs.Tables.{AreNamed, HasNone, when}
use Rattle.elab_targets.specs.declared.places.Places.{Places}
use Rattle.elab_targets.proofs.Naming.{one_more}

nothing_more : (o : Option ℕ) → option_or o None ≡ o
nothing_more None = refl
nothing_more (Some k) = refl

from_zero : (o : Option ℕ) (b : Bool) (n : ℕ) → option_or o (when b (0 + n)) ≡ option_or o (when b n)
from_zero o b n = let e : 0 + n ≡ n = omega arith in ap (λ k. option_or o (when b k)) e

module _ (ds : List Decl) (d : Decl) where
  behind : (o : Option Head) → definition_in d ≡ o → definitions (ds ++ d ∷ []) ≡ definitions ds ++ cons_option o []
  behind o e = filter_map-append definition_in ds (d ∷ []) ∙ ap (λ (x : Option Head). definitions ds ++ cons_option x []) e

  -- ---- one that defines nothing

  module _ (none : definition_in d ≡ None) where
    same : definitions ds ≡ definitions (ds ++ d ∷ [])
    same = sym (behind None none ∙ append-nil (definitions ds))

    pub skipped : (t : Places) → ArePlaces ds t → ArePlaces (ds ++ d ∷ []) t
    skipped t are = record {
      functions_are = λ name. are.functions_are name ∙ ap (position_from (is_function name) 0) same;
      tasks_are = λ name. are.tasks_are name ∙ ap (λ hs. position_from (is_function name) 0 (filter is_task hs)) same;
      items_are = λ element item is_default. are.items_are element item is_default ∙ ap (position_from (implements element item is_default) 0) same;
      named = are.named;
      bodies_are = are.bodies_are ∙ ap length same;
      tasks_count = are.tasks_count ∙ ap (λ hs. length (filter is_task hs)) same;
    }

  -- ---- a function, a task or an implementation

  module _ (h : Head) (is_some : definition_in d ≡ Some h) where
    one_definition : definitions (ds ++ d ∷ []) ≡ definitions ds ++ h ∷ []
    one_definition = behind (Some h) is_some

    place_more : (is : Head → Bool) → place_of is (ds ++ d ∷ []) ≡ option_or (place_of is ds) (when (is h) (bodies_in ds))
    place_more is = ap (position_from is 0) one_definition ∙ one_more is 0 (definitions ds) h ∙ from_zero (place_of is ds) (is h) (bodies_in ds)

    count_more : bodies_in (ds ++ d ∷ []) ≡ bodies_in ds + 1
    count_more = ap length one_definition ∙ length-append (definitions ds) (h ∷ [])

    tasks_more : filter is_task (definitions (ds ++ d ∷ [])) ≡ filter is_task (definitions ds) ++ cond (is_task h) (h ∷ []) []
    tasks_more = ap (filter is_task) one_definition ∙ filter-append is_task (definitions ds) (h ∷ [])

    task_more : (is : Head → Bool) → position_from is 0 (filter is_task (definitions (ds ++ d ∷ []))) ≡ option_or (position_from is 0 (filter is_task (definitions ds))) (when (is_task h && is h) (tasks_in ds))
    task_more is = ap (position_from is 0) tasks_more ∙ by (is_task h) where
      tasks : List Head
      tasks = filter is_task (definitions ds)

      by : (b : Bool) → position_from is 0 (tasks ++ cond b (h ∷ []) []) ≡ option_or (position_from is 0 tasks) (when (b && is h) (length tasks))
      by true = one_more is 0 tasks h ∙ from_zero (position_from is 0 tasks) (is h) (length tasks)
      by false = ap (position_from is 0) (append-nil tasks) ∙ sym (nothing_more (position_from is 0 tasks))

    task_count : tasks_in (ds ++ d ∷ []) ≡ tasks_in ds + cond (is_task h) 1 0
    task_count = ap length tasks_more ∙ length-append (filter is_task (definitions ds)) (cond (is_task h) (h ∷ []) []) ∙ by (is_task h) where
      by : (b : Bool) → tasks_in ds + length (cond b (h ∷ []) []) ≡ tasks_in ds + cond b 1 0
      by true = refl
      by false = refl

    pub defined : (old new : Places) → IsDefined h old new → ArePlaces ds old → ArePlaces (ds ++ d ∷ []) new
    defined old new says are = record {
      functions_are = λ name. says.functions_are name
          ∙ ap (λ (o : Option ℕ). option_or o (when (is_function name h) old.bodies)) (are.functions_are name)
          ∙ ap (λ (n : ℕ). option_or (place_of (is_function name) ds) (when (is_function name h) n)) are.bodies_are
          ∙ sym (place_more (is_function name));
      tasks_are = λ name. says.tasks_are name
          ∙ ap (λ (o : Option ℕ). option_or o (when (is_task h && is_function name h) old.tasks)) (are.tasks_are name)
          ∙ ap (λ (n : ℕ). option_or (task_place name ds) (when (is_task h && is_function name h) n)) are.tasks_count
          ∙ sym (task_more (is_function name));
      items_are = λ element item is_default. says.items_are are.named element item is_default
          ∙ ap (λ (o : Option ℕ). option_or o (when (implements element item is_default h) old.bodies)) (are.items_are element item is_default)
          ∙ ap (λ (n : ℕ). option_or (place_of (implements element item is_default) ds) (when (implements element item is_default h) n)) are.bodies_are
          ∙ sym (place_more (implements element item is_default));
      named = says.named are.named;
      bodies_are = says.bodies_are ∙ ap (λ (n : ℕ). n + 1) are.bodies_are ∙ sym count_more;
      tasks_count = says.tasks_count ∙ ap (λ (n : ℕ). n + cond (is_task h) 1 0) are.tasks_count ∙ sym task_count;
    }

-- ---- where nothing is defined

pub none_defined : (t : Places) → t.functions ≡ [] → t.task_places ≡ [] → HasNone t.implementations → HasNone t.defaults → t.bodies ≡ 0 → t.tasks ≡ 0 → ArePlaces [] t
none_defined t functions tasks implementations defaults bodies count = record {
  functions_are = λ name. ap (λ ps. names.place_of ps name) functions;
  tasks_are = λ name. ap (λ ps. names.place_of ps name) tasks;
  items_are = items;
  named = named_are;
  bodies_are = bodies;
  tasks_count = count;
} where
  items : (element item : List ℕ) (is_default : Bool) → implementation_place t element item is_default ≡ None
  items element item true = defaults.none element item
  items element item false = implementations.none element item

  named_are : (is_default : Bool) → AreNamed (table_of is_default t)
  named_are true = defaults.named
  named_are false = implementations.named

-- ---- what was found of a declaration

module _ (r : Option (Bor FuncHead)) (o : Option Head) (says : option_map (λ x. head_of x.now) r ≡ o) where
  pub none_found : r ≡ None → o ≡ None
  none_found is = sym says ∙ ap (option_map (λ (x : Bor FuncHead). head_of x.now)) is

  pub one_found : (x : Bor FuncHead) → r ≡ Some x → o ≡ Some (head_of x.now)
  one_found x is = sym says ∙ ap (option_map (λ (y : Bor FuncHead). head_of y.now)) is
