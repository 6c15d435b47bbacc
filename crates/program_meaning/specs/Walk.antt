-- The walk over the declarations of headers and of the instances of modules, in the order of the text (C99, 6.7 and 6.9; the nesC 1.3
-- Reference, 5 to 8): variables become objects, functions become bodies, and calls of items ask for dispatch functions.
use Rattle.std.specs.Prelude.{ℕ, nat_eq, nat_le, Bool, true, false, ◌&&◌, if◌then◌else◌, List, [], ◌∷◌, length, map, drop, fold, codes, Option, Some, None, slice_get, bytes_eq, Ok}
use Rattle.std.specs.List.{filter, list_any}
use Rattle.nm_base.specs.declared.pos.Pos.{Pos}
use Rattle.nm_base.specs.declared.refusal.Refusal.TheVariants.{Syntax, BadType, UnknownName, DuplicateName, ArgumentMismatch, VectorTwice}
use Rattle.nesc_core.specs.Plain as core
use Rattle.nesc_core.specs.Plain.{Ty, void, Body, Warning, Program}
use Rattle.nesc_core.specs.Weights.{frame_weight}
use Rattle.nesc_tree.specs.Plain as s
use Rattle.nesc_tree.specs.declared.declarations.FuncKind.{FuncKind}
use Rattle.nesc_tree.specs.declared.declarations.FuncKind.TheVariants as kind
use Rattle.nesc_types.specs.Rule.{Rule, refuse}
use Rattle.nesc_types.specs.Values.{Constant}
use Rattle.elab_meaning.specs.Scope.{Env, Meaning, Struct, function, task, type}
use Rattle.elab_meaning.specs.Elab.{Asked, State}
use Rattle.elab_meaning.specs.Convert.{is_void}
use Rattle.elab_meaning.specs.Operators.{Based, new_name}
use Rattle.elab_meaning.specs.Wired.{base_of}
use Rattle.body_meaning.specs.Tree as tree
use Rattle.body_meaning.specs.Tree.{Decl, Head, MaybeStmt, Param, Stmt}
use Rattle.body_meaning.specs.Stmts.{initials_of, type_named, type_declared}
use Rattle.program_meaning.specs.declared.used.Use.{Use}
use Rattle.program_meaning.specs.Uses.{is_used}
use Rattle.program_meaning.specs.Numbers.{is_function, is_task_kind, is_item_kind, place_of, task_place, numbered}
use Rattle.program_meaning.specs.Heads.{Form, Heading, heading, same_form, same_signature, same_kind, same_flag, same_types, line, code_of, no_locals}
use Rattle.program_meaning.specs.Items.{Fact, dispatch_text, dotted}
use Rattle.program_meaning.specs.Dispatch.{dispatch, combines, parameters}
use Rattle.program_meaning.specs.Variables.{declared_variable, name_in_force}
use Rattle.program_meaning.specs.Making.{Made, Declared, by, ◌>>=◌, ◌>>◌, give, whole, part, in_boot, add_declared, add_variable, add_initial, add_body, add_handler, add_dispatch, add_warning, boots_by}

-- What is told to the declarations of the headers, or of a module's instance: the item facts of its elements with what its bodies know of
-- them, the uses of its functions' names, and the numbers of its first body and task. A module has a name in print; the headers' functions
-- may combine results
pub record Told : Type 0 where
  pub env : Env
  pub values : List (Option Constant)
  pub facts : List Fact
  pub decls : List Decl
  pub uses : List Use
  pub first_body : ℕ
  pub first_task : ℕ
  pub instance : Option (List ℕ)
  pub is_main : Bool
  pub headers : List Declared
  pub header_decls : List Decl

-- ---- names in print

abbrev pub of_instance : Option (List ℕ) → List ℕ → List ℕ
of_instance None name = name
of_instance (Some i) name = dotted i name

abbrev pub with_item : List ℕ → Option (List ℕ) → List ℕ
with_item name None = name
with_item name (Some item) = dotted name item

-- ---- frames (own: at most 10,000 bytes)

abbrev pub fields_of : List Struct → List (List core.Field)
fields_of structs = map (λ (x : Struct). x.fields) structs

abbrev pub of_structs : List Struct → Program
of_structs structs =
    record { structs = fields_of structs; objects = []; bodies = []; tasks = []; handlers = []; boot = 0; warnings = [] }

abbrev pub weighed : Pos → List Struct → Body → Rule (Unit {0})
weighed at structs b = if nat_le (frame_weight (of_structs structs) b) 10000 then Ok tt else refuse (BadType at)

-- ---- dispatch functions that calls ask for

abbrev pub is_combining : List ℕ → Declared → Bool
is_combining name d = bytes_eq d.name name && d.is_defined

-- two results of the type give a third
abbrev pub combines_type : Ty → Form → Bool
combines_type t f = same_kind f.kind kind.Plain && (same_types f.params (t ∷ t ∷ []) && same_types (f.result ∷ []) (t ∷ []))

abbrev pub combining : Pos → Ty → Option ℕ → List Declared → Rule (Option ℕ)
combining at t None ds = refuse (BadType at)
combining at t (Some body) [] = refuse (BadType at)
combining at t (Some body) (d ∷ ds) = if combines_type t d.form then Ok (Some body) else refuse (BadType at)

abbrev pub combined_by : Told → Pos → Fact → Option (List ℕ) → Rule (Option ℕ)
combined_by told at x None = Ok None
combined_by told at x (Some name) =
    combining at x.form.result (place_of (is_function name) told.header_decls) (filter (is_combining name) told.headers)

-- a function is looked for where two results are combined
abbrev pub combined : Told → Pos → Fact → Rule (Option ℕ)
combined told at x = if combines x then combined_by told at x x.combine else Ok None

abbrev pub loses : Fact → Option ℕ → Bool
loses x None = combines x
loses x (Some f) = false

abbrev pub warned : Bool → Pos → (name : List ℕ) → Made (Unit {0})
warned true at name = add_warning (record { pos = at; name = name })
warned false at name = give tt

abbrev pub called_from_here : Pos → (comes_out : Bool) → Rule (Unit {0})
called_from_here at true = Ok tt
called_from_here at false = refuse (BadType at)

-- calls come out of the item, its results are combined, and the frame is not too large
abbrev pub dispatched : (name : List ℕ) → Told → Pos → Fact → Made (Unit {0})
dispatched name told at x = do
  by (called_from_here at x.comes_out)
  f ← by (combined told at x)
  w ← whole
  by (weighed at w.work.structs (dispatch name x.form f at x.cases))
  add_dispatch (dispatch name x.form f at x.cases)
  warned (loses x f) at name

abbrev pub asked_of : (instance : List ℕ) → Told → Asked → Option Fact → Made (Unit {0})
asked_of instance told a None = by (refuse (UnknownName a.at))
asked_of instance told a (Some x) = dispatched (dispatch_text instance x) told a.at x

abbrev pub or_nothing : Option (List ℕ) → List ℕ
or_nothing None = []
or_nothing (Some x) = x

abbrev pub all_asked : Told → List Asked → Made (Unit {0})
all_asked told [] = give tt
all_asked told (a ∷ rest) = do
  asked_of (or_nothing told.instance) told a (slice_get told.facts a.item)
  all_asked told rest

-- those that were not there before, in the order of their first calls
abbrev pub dispatch_asked : Told → Made (Unit {0})
dispatch_asked told = do
  w ← whole
  all_asked told (drop (length w.dispatch) w.work.asked)

-- ---- variables

abbrev pub variable : Told → Based → (said_const norace : Bool) → tree.Variable → Made (Unit {0})
variable told b said norace v = do
  w ← whole
  t ← part (declared_variable told.env told.values b said v (length w.variables))
  add_variable (record { name = of_instance told.instance v.name; ty = t; norace = norace })
  es ← in_boot (initials_of told.env told.values v.at (core.object (length w.variables)) t v.init)
  add_initial (map core.eval es)
  dispatch_asked told

abbrev pub variables : Told → Based → (said_const norace : Bool) → List tree.Variable → Made (Unit {0})
variables told b said norace [] = give tt
variables told b said norace (v ∷ vs) = do
  variable told b said norace v
  variables told b said norace vs

abbrev pub start : Pos
start = record { file = 0; line = 1; col = 1 }

-- what is told of their type stands at the first name
abbrev pub first_at : List tree.Variable → Pos
first_at [] = start
first_at (v ∷ vs) = v.at

abbrev pub variables_of : Told → s.TypeSpec → (norace : Bool) → List tree.Variable → Made (Unit {0})
variables_of told (s.type_spec base stars dims is_const) norace vs = do
  b ← part (base_of told.env told.values (first_at vs) base)
  variables told b is_const norace vs

-- variables are declared in modules alone
abbrev pub variables_in : Told → Option (List ℕ) → s.TypeSpec → (norace : Bool) → List tree.Variable → Made (Unit {0})
variables_in told None t norace vs = by (refuse (Syntax (first_at vs)))
variables_in told (Some i) t norace vs = variables_of told t norace vs

-- ---- what functions, tasks and items are by their heads

abbrev pub in_module : Option (List ℕ) → Bool
in_module None = false
in_module (Some i) = true

abbrev pub plain_name : Pos → Option (List ℕ) → Option Param → Rule (Unit {0})
plain_name at None None = Ok tt
plain_name at (Some item) bracket = refuse (BadType at)
plain_name at None (Some p) = refuse (BadType at)

abbrev pub item_name : Pos → Option (List ℕ) → Rule (Unit {0})
item_name at None = refuse (UnknownName at)
item_name at (Some item) = Ok tt

-- a function and a task have a name alone, and a command and an event that of an item
abbrev pub well_named : Head → FuncKind → Rule (Unit {0})
well_named h kind.Plain = plain_name h.at h.item h.bracket
well_named h kind.Task = plain_name h.at h.item h.bracket
well_named h kind.Command = item_name h.at h.item
well_named h kind.Event = item_name h.at h.item

-- a task of a module takes nothing and gives nothing
abbrev pub well_tasked : (in_module : Bool) → Pos → Form → Rule (Unit {0})
well_tasked inside at f = if inside && (same_types f.params [] && is_void f.result) then Ok tt else refuse (BadType at)

abbrev pub is_fact : (element item : List ℕ) → Fact → Bool
is_fact element item x = bytes_eq x.element element && bytes_eq x.name item

-- commands of a provided interface and events of a used one are implemented, and there are defaults for the others
abbrev pub implements : Form → Fact → Bool
implements f x =
    same_flag f.is_default x.comes_out && (same_kind f.kind x.form.kind && (same_flag f.is_async x.form.is_async && same_signature f x.form))

abbrev pub implemented_item : Pos → Form → List Fact → Rule (Unit {0})
implemented_item at f [] = refuse (UnknownName at)
implemented_item at f (x ∷ xs) = if implements f x then Ok tt else refuse (ArgumentMismatch at)

abbrev pub well_formed : Told → Head → Form → FuncKind → Rule (Unit {0})
well_formed told h f kind.Plain = Ok tt
well_formed told h f kind.Task = well_tasked (in_module told.instance) h.at f
well_formed told h f kind.Command = implemented_item h.at f (filter (is_fact h.name (or_nothing h.item)) told.facts)
well_formed told h f kind.Event = implemented_item h.at f (filter (is_fact h.name (or_nothing h.item)) told.facts)

-- ---- earlier declarations: a prototype, once, and its definition (C99, 6.2.1)

abbrev pub same_item : Option (List ℕ) → Option (List ℕ) → Bool
same_item None None = true
same_item (Some x) (Some y) = bytes_eq x y
same_item _ _ = false

abbrev pub newer : Head → Option Declared → Declared → Option Declared
newer h found d = if bytes_eq d.name h.name && same_item d.item h.item then Some d else found

abbrev pub earlier : List Declared → Head → Option Declared
earlier ds h = fold (newer h) None ds

abbrev pub is_definition : MaybeStmt → Bool
is_definition tree.no_stmt = false
is_definition (tree.some_stmt x) = true

abbrev pub agrees : Pos → (is_definition : Bool) → Form → Option Declared → Rule (Unit {0})
agrees at defines f None = Ok tt
agrees at false f (Some d) = refuse (DuplicateName at)
agrees at true f (Some d) =
    if d.is_defined then refuse (DuplicateName at) else if same_form d.form f then Ok tt else refuse (ArgumentMismatch at)

-- an item's name is that of its element
abbrev pub is_new : Head → State → Option Declared → FuncKind → Rule (Unit {0})
is_new h x (Some d) k = Ok tt
is_new h x None kind.Plain = new_name h.at x.first_name x.names h.name
is_new h x None kind.Task = new_name h.at x.first_name x.names h.name
is_new h x None kind.Command = Ok tt
is_new h x None kind.Event = Ok tt

-- ---- handlers: the line may stand at the prototype, at the definition, or at both

abbrev pub line_before : Option Declared → Option ℕ
line_before None = None
line_before (Some d) = d.line

abbrev pub one_line : Pos → (own earlier : Option ℕ) → Rule (Option ℕ)
one_line at None before = Ok before
one_line at (Some n) None = Ok (Some n)
one_line at (Some n) (Some m) = if nat_eq n m then Ok (Some n) else refuse (ArgumentMismatch at)

abbrev pub has_line : ℕ → ℕ × ℕ → Bool
has_line line h = nat_eq h.0 line

abbrev pub free_line : Pos → ℕ → List (ℕ × ℕ) → Rule (Unit {0})
free_line at line handlers = if list_any (has_line line) handlers then refuse (VectorTwice at) else Ok tt

abbrev pub handles : Pos → Option ℕ → Made (Unit {0})
handles at None = give tt
handles at (Some line) = do
  w ← whole
  by (free_line at line w.handlers)
  add_handler line (length w.bodies)

-- ---- names of functions and tasks

-- a function that has no body and is never called: its name hides others, and nothing can be done with it
abbrev pub no_function : Meaning
no_function = type void false

abbrev pub function_of : Form → Option ℕ → Meaning
function_of f None = no_function
function_of f (Some body) = function body f.params f.result

abbrev pub task_of : Option ℕ → Meaning
task_of None = no_function
task_of (Some k) = task k

abbrev pub in_force : Told → Head → Form → Option Declared → FuncKind → Made (Unit {0})
in_force told h f (Some d) k = give tt
in_force told h f None kind.Plain =
    part (name_in_force h.name (function_of f (numbered told.first_body (place_of (is_function h.name) told.decls))))
in_force told h f None kind.Task = part (name_in_force h.name (task_of (numbered told.first_task (task_place h.name told.decls))))
in_force told h f None kind.Command = give tt
in_force told h f None kind.Event = give tt

-- ---- prototypes: what is called or posted, or handles a line, has a body

abbrev pub is_needed : Told → Head → (line : Option ℕ) → Bool
is_needed told h None = is_used told.uses (is_task_kind h.kind) h.name
is_needed told h (Some n) = true

abbrev pub found_or : Rule (Unit {0}) → Option ℕ → Rule (Unit {0})
found_or r None = r
found_or r (Some k) = Ok tt

abbrev pub prototype_stands : Told → Head → (line : Option ℕ) → Rule (Unit {0})
prototype_stands told h l =
    if is_item_kind h.kind
    then Ok tt
    else found_or (if is_needed told h l then refuse (UnknownName h.at) else Ok tt) (place_of (is_function h.name) told.decls)

-- ---- bodies

abbrev pub body : Told → Head → Form → (locals : List Ty) → core.Stmt → Body
body told h f locals code = record {
  name = of_instance told.instance (with_item h.name h.item);
  params = length (parameters f);
  locals = locals;
  result = f.result;
  code = code;
  is_async = h.is_async;
  is_item = is_item_kind h.kind;
}

-- the initial values of variables come to it, so it is weighed when all are known
abbrev pub boot_function : Told → Head → Heading → Stmt → Made (Unit {0})
boot_function told h g x = do
  code ← in_boot (code_of told.env told.values g x)
  w ← whole
  boots_by (record { body = length w.bodies; at = h.at })
  add_body (body told h g.form [] code)
  dispatch_asked told

abbrev pub other_function : Told → Head → Heading → Stmt → Made (Unit {0})
other_function told h g x = do
  code ← part (code_of told.env told.values g x)
  w ← whole
  by (weighed h.at w.work.structs (body told h g.form w.work.locals code))
  add_body (body told h g.form w.work.locals code)
  part no_locals
  dispatch_asked told

abbrev pub boots : Told → Head → Bool
boots told h = told.is_main && (same_kind h.kind kind.Plain && bytes_eq h.name (codes "boot"))

abbrev pub defined : Told → Head → Heading → Option ℕ → MaybeStmt → Made (Unit {0})
defined told h g l tree.no_stmt = do
  by (prototype_stands told h l)
  part no_locals
defined told h g l (tree.some_stmt x) = do
  handles h.at l
  if boots told h then boot_function told h g x else other_function told h g x

abbrev pub function_declared : Told → Head → MaybeStmt → Made (Unit {0})
function_declared told h x = do
  by (well_named h h.kind)
  g ← part (heading told.env told.values h)
  by (well_formed told h g.form h.kind)
  w ← whole
  by (agrees h.at (is_definition x) g.form (earlier w.declared h))
  by (is_new h w.work (earlier w.declared h) h.kind)
  own ← part (line told.env told.values (in_module told.instance) h g.form)
  l ← by (one_line h.at own (line_before (earlier w.declared h)))
  in_force told h g.form (earlier w.declared h) h.kind
  add_declared (record { name = h.name; item = h.item; form = g.form; line = l; is_defined = is_definition x })
  defined told h g l x

-- ---- declarations, in the order of the text

abbrev pub declaration : Told → Decl → Made (Unit {0})
declaration told (tree.typedef name t attrs at) = do
  x ← part (type_named told.env told.values at name t)
  give tt
declaration told (tree.type_only t at) = do
  x ← part (type_declared told.env told.values at t)
  give tt
declaration told (tree.variables t norace vs) = variables_in told told.instance t norace vs
declaration told (tree.function h x) = function_declared told h x

abbrev pub declarations : Told → List Decl → Made (Unit {0})
declarations told [] = give tt
declarations told (d ∷ ds) = do
  declaration told d
  declarations told ds
