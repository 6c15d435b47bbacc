-- The headers and the instances of modules one behind the other: what is told to each, and its scopes (own: headers, then parameters and
-- elements, then the implementation).
use Rattle.std.specs.Prelude.{ℕ, suc, ◌+◌, ◌-◌, Bool, false, not, List, [], ◌∷◌, ◌++◌, length, map, codes, Option, Some, None, slice_get, unwrap_or, bytes_eq, Ok}
use Rattle.std.specs.List.{filter, filter_map, list_any, range_with_len}
use Rattle.nesc_core.specs.Plain.{Field, Ty, void, int, pointer, array, struct}
use Rattle.elab_meaning.specs.Scope.{Env, Struct}
use Rattle.elab_meaning.specs.Elab.{State}
use Rattle.body_meaning.specs.Scopes.{opened, back_to}
use Rattle.body_meaning.specs.Tree as tree
use Rattle.body_meaning.specs.Tree.{Decl, Head}
use Rattle.program_meaning.specs.Parts.{Application, Argument, a_type, a_constant, Given, Instance}
use Rattle.program_meaning.specs.declared.used.Use.{Use}
use Rattle.program_meaning.specs.Uses.{in_decls}
use Rattle.program_meaning.specs.Numbers.{first_body, first_dispatch, first_task, is_function}
use Rattle.program_meaning.specs.Items.{Fact, facts_of, given_names, instance_text, item_of, out_target, value_given}
use Rattle.program_meaning.specs.Walk.{Told, declaration, declarations}
use Rattle.program_meaning.specs.Making.{Made, Whole, ◌>>=◌, ◌>>◌, give, whole, part, nothing_declared}

-- ---- the uses of the names of a header's functions: a module that declares the name itself uses its own

abbrev pub head_of : Decl → Option Head
head_of (tree.typedef name t attrs at) = None
head_of (tree.type_only t at) = None
head_of (tree.variables t norace vs) = None
head_of (tree.function h body) = Some h

abbrev pub is_foreign : List Head → Use → Bool
is_foreign own u = not (list_any (is_function u.name) own)

abbrev pub foreign_uses : List Decl → List Use
foreign_uses ds = filter (is_foreign (filter_map head_of ds)) (in_decls ds)

abbrev pub uses_in_instances : List Instance → List Use
uses_in_instances [] = []
uses_in_instances (i ∷ is) = foreign_uses i.decls ++ uses_in_instances is

abbrev pub header_uses : Application → List Use
header_uses app = in_decls app.headers ++ uses_in_instances app.instances

-- ---- what is told

abbrev pub header_env : Application → Env
header_env app = record { instance = 0; uniques = app.uniques; counts = app.counts; items = []; first_dispatch = first_dispatch app }

abbrev pub header_told : Application → Told
header_told app = record {
  env = header_env app;
  values = [];
  facts = [];
  decls = app.headers;
  uses = header_uses app;
  first_body = 0;
  first_task = 0;
  instance = None;
  is_main = false;
  headers = [];
  header_decls = app.headers;
}

-- before the items of an instance are known
abbrev pub head_env : Application → (number : ℕ) → Instance → Env
head_env app k i = record { instance = k; uniques = i.uniques; counts = app.counts; items = []; first_dispatch = first_dispatch app }

abbrev pub instance_told : Application → (headers : Whole) → (number : ℕ) → Instance → List Fact → Told
instance_told app h k i facts = record {
  env = record (head_env app k i) { items = map item_of facts };
  values = map (λ (x : Fact). value_given (out_target x)) facts;
  facts = facts;
  decls = i.decls;
  uses = in_decls i.decls;
  first_body = first_body app k;
  first_task = first_task app k;
  instance = Some (instance_text i);
  is_main = bytes_eq i.component (codes "MainC");
  headers = h.declared;
  header_decls = app.headers;
}

-- ---- the structs that were met where types stand in wires: no header function was looked at there, and structs of its own have numbers
-- between those of others

-- the numbers of those that headers declare outside functions, and the number of the first behind all of headers
pub record Met : Type 0 where
  pub headers : List ℕ
  pub behind : ℕ

abbrev pub met : List ℕ → ℕ → Met
met headers behind = record { headers = headers; behind = behind }

abbrev pub number_of : Met → ℕ → ℕ
number_of m k = unwrap_or (slice_get m.headers k) (m.behind + (k - length m.headers))

abbrev pub type_as : Met → Ty → Ty
type_as m void = void
type_as m (int t) = int t
type_as m (pointer t) = pointer (type_as m t)
type_as m (array t n) = array (type_as m t) n
type_as m (struct k) = struct (number_of m k)

abbrev pub field_as : Met → Field → Field
field_as m f = record f { ty = type_as m f.ty }

abbrev pub struct_as : Met → Struct → Struct
struct_as m x = record x { fields = map (field_as m) x.fields }

abbrev pub argument_as : Met → Argument → Argument
argument_as m (a_type t is_const) = a_type (type_as m t) is_const
argument_as m (a_constant x) = a_constant x

abbrev pub given_as : Met → Given → Given
given_as m x = record x { argument = argument_as m x.argument }

abbrev pub structs_met : Met → List Struct → Made (Unit {0})
structs_met m xs = λ w. Ok (tt, record w { work = record w.work { structs = w.work.structs ++ map (struct_as m) xs } })

-- ---- headers

-- the numbers of the structs of a declaration that is no function
abbrev pub declared_by : Decl → (before behind : ℕ) → List ℕ
declared_by (tree.typedef name t attrs at) before behind = range_with_len before (behind - before)
declared_by (tree.type_only t at) before behind = range_with_len before (behind - before)
declared_by (tree.variables t norace vs) before behind = range_with_len before (behind - before)
declared_by (tree.function h body) before behind = []

abbrev pub headers_declared : Told → List Decl → Made (List ℕ)
headers_declared told [] = give []
headers_declared told (d ∷ ds) = do
  before ← whole
  declaration told d
  behind ← whole
  more ← headers_declared told ds
  give (declared_by d (length before.work.structs) (length behind.work.structs) ++ more)

-- ---- one instance, behind the headers; its names are no longer in force behind it

abbrev pub instance_declared : Application → (headers : Whole) → Met → (number : ℕ) → Instance → Made (Unit {0})
instance_declared app h m k i = do
  nothing_declared
  part opened
  part (given_names (map (given_as m) i.given))
  facts ← part (facts_of app (head_env app k i) h.work k i.elems)
  part opened
  declarations (instance_told app h k i facts) i.decls
  part (back_to h.work)

abbrev pub instances_declared : Application → (headers : Whole) → Met → (number : ℕ) → List Instance → Made (Unit {0})
instances_declared app h m k [] = give tt
instances_declared app h m k (i ∷ is) = do
  instance_declared app h m k i
  instances_declared app h m (suc k) is

abbrev pub behind_headers : Application → Met → Made (Unit {0})
behind_headers app m = do
  structs_met m app.structs
  h ← whole
  instances_declared app h m 0 app.instances

abbrev pub all_declared : Application → Made (Unit {0})
all_declared app = do
  numbers ← headers_declared (header_told app) app.headers
  h ← whole
  behind_headers app (met numbers (length h.work.structs))

-- ---- where it begins

abbrev pub no_state : State
no_state = record { names = []; tags = []; first_name = 0; first_tag = 0; structs = []; locals = []; taken = []; asked = [] }

abbrev pub nothing : Whole
nothing = record {
  work = no_state;
  declared = [];
  variables = [];
  initial = [];
  boot_locals = [];
  boot = None;
  bodies = [];
  handlers = [];
  dispatch = [];
  warnings = [];
}
