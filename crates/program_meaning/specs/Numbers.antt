-- The numbers of functions and tasks, by the trees alone, so that each call knows them (own: header functions in reading order, then those
-- of modules by instance and text; tasks in the order of their bodies).
use Rattle.std.specs.Prelude.{ℕ, ◌+◌, Bool, true, false, not, ◌&&◌, List, [], ◌∷◌, ◌++◌, length, Option, Some, None, option_and_then, slice_get, bytes_eq}
use Rattle.std.specs.List.{filter, filter_map, position_from}
use Rattle.std.specs.Option.{option_map}
use Rattle.nesc_tree.specs.declared.declarations.FuncKind.{FuncKind}
use Rattle.nesc_tree.specs.declared.declarations.FuncKind.TheVariants as kind
use Rattle.body_meaning.specs.Tree as tree
use Rattle.body_meaning.specs.Tree.{Decl, Head, MaybeStmt}
use Rattle.program_meaning.specs.Parts.{Application, Instance}

abbrev pub is_task_kind : FuncKind → Bool
is_task_kind kind.Task = true
is_task_kind kind.Plain = false
is_task_kind kind.Command = false
is_task_kind kind.Event = false

-- a command or an event
abbrev pub is_item_kind : FuncKind → Bool
is_item_kind kind.Command = true
is_item_kind kind.Event = true
is_item_kind kind.Plain = false
is_item_kind kind.Task = false

abbrev pub head_with : Head → MaybeStmt → Option Head
head_with h tree.no_stmt = None
head_with h (tree.some_stmt x) = Some h

-- a function with a body
abbrev pub definition_in : Decl → Option Head
definition_in (tree.typedef name t attrs at) = None
definition_in (tree.type_only t at) = None
definition_in (tree.variables t norace vs) = None
definition_in (tree.function head body) = head_with head body

abbrev pub definitions : List Decl → List Head
definitions ds = filter_map definition_in ds

-- a function or a task, by its name
abbrev pub is_function : (name : List ℕ) → Head → Bool
is_function name h = not (is_item_kind h.kind) && bytes_eq h.name name

abbrev pub is_task : Head → Bool
is_task h = is_task_kind h.kind

abbrev pub is_text : List ℕ → Option (List ℕ) → Bool
is_text name None = false
is_text name (Some x) = bytes_eq x name

-- the implementation of an item, or its default
abbrev pub implements : (element item : List ℕ) → (is_default : Bool) → Head → Bool
implements element item true h = is_item_kind h.kind && (h.is_default && (bytes_eq h.name element && is_text item h.item))
implements element item false h = is_item_kind h.kind && (not h.is_default && (bytes_eq h.name element && is_text item h.item))

-- ---- places among the definitions of headers or of a module

abbrev pub place_of : (Head → Bool) → List Decl → Option ℕ
place_of is ds = position_from is 0 (definitions ds)

-- the place of a task among the tasks
abbrev pub task_place : (name : List ℕ) → List Decl → Option ℕ
task_place name ds = position_from (is_function name) 0 (filter is_task (definitions ds))

-- ---- where the numbers of each instance begin

abbrev pub ends : (List Decl → ℕ) → ℕ → List Instance → List ℕ
ends count from [] = from ∷ []
ends count from (i ∷ is) = from ∷ ends count (from + count i.decls) is

abbrev pub bodies_in : List Decl → ℕ
bodies_in ds = length (definitions ds)

abbrev pub tasks_in : List Decl → ℕ
tasks_in ds = length (filter is_task (definitions ds))

-- the first body of each instance, and behind them the first dispatch body
abbrev pub first_bodies : Application → List ℕ
first_bodies app = ends bodies_in (bodies_in app.headers) app.instances

abbrev pub first_tasks : Application → List ℕ
first_tasks app = ends tasks_in 0 app.instances

abbrev pub or_none : Option ℕ → ℕ
or_none None = 0
or_none (Some n) = n

abbrev pub first_body : Application → (instance : ℕ) → ℕ
first_body app k = or_none (slice_get (first_bodies app) k)

abbrev pub first_task : Application → (instance : ℕ) → ℕ
first_task app k = or_none (slice_get (first_tasks app) k)

abbrev pub first_dispatch : Application → ℕ
first_dispatch app = first_body app (length app.instances)

-- ---- numbers of bodies

abbrev pub numbered : (first : ℕ) → Option ℕ → Option ℕ
numbered first place = option_map (λ k. first + k) place

abbrev pub implementation_in : Application → (instance : ℕ) → (element item : List ℕ) → (is_default : Bool) → Instance → Option ℕ
implementation_in app k element item is_default i = numbered (first_body app k) (place_of (implements element item is_default) i.decls)

-- the body that implements an item of an element of an instance
abbrev pub implementation : Application → (instance : ℕ) → (element item : List ℕ) → (is_default : Bool) → Option ℕ
implementation app k element item is_default =
    option_and_then (implementation_in app k element item is_default) (slice_get app.instances k)

-- the body of that number, if it is a task's
abbrev pub task_body : ℕ → FuncKind → List ℕ
task_body k kind.Task = k ∷ []
task_body k kind.Plain = []
task_body k kind.Command = []
task_body k kind.Event = []

abbrev pub task_bodies_from : (number : ℕ) → List Head → List ℕ
task_bodies_from k [] = []
task_bodies_from k (h ∷ hs) = task_body k h.kind ++ task_bodies_from (k + 1) hs

abbrev pub definitions_in : List Instance → List Head
definitions_in [] = []
definitions_in (i ∷ is) = definitions i.decls ++ definitions_in is

-- the functions of all bodies but those of dispatch
abbrev pub definitions_of : Application → List Head
definitions_of app = definitions app.headers ++ definitions_in app.instances

-- the bodies of the tasks
abbrev pub tasks_of : Application → List ℕ
tasks_of app = task_bodies_from 0 (definitions_of app)
