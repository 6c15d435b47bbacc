-- What wires need to know of types and constants (nesC 1.3 Reference, sections 6 to 9; own: the order, and what is refused where).
-- First come the types of headers, then the specifications of components that are not generic, each a fault of its own. Then the
-- lines of each instance are looked at, up to the first that is refused: pairs stop there or before.
use Rattle.std.specs.Prelude.{ℕ, ◌+◌, ℤ, Bool, true, false, cond, List, [], ◌∷◌, ◌++◌, length, map, set, Option, Some, None, Result, Ok, Err, is_some, slice_get, option_map, unwrap_or}
use Rattle.std.specs.Ordering.{int_eq}
use Rattle.nm_base.specs.declared.pos.Pos.{Pos}
use Rattle.nm_base.specs.declared.fault.Fault.{Fault}
use Rattle.nm_base.specs.declared.fault.Fault.TheVariants as fault
use Rattle.nm_base.specs.declared.refusal.Refusal.TheVariants.{BadType, NotConstant, UnknownName}
use Rattle.nm_base.specs.declared.int_type.IntType.{IntType}
use Rattle.nm_base.specs.declared.int_type.IntType.TheVariants.{U8, U16}
use Rattle.nm_base.specs.IntType.{wrapped}
use Rattle.nesc_core.specs.Plain.{Ty}
use Rattle.nesc_core.specs.Parts.{same_type}
use Rattle.nesc_tree.specs.Plain as s
use Rattle.nesc_tree.specs.Plain.{TypeSpec, MaybeExpr}
use Rattle.nesc_types.specs.Constant.{pos_of}
use Rattle.nesc_types.specs.Rule.{Rule, refuse}
use Rattle.nesc_types.specs.Values.{Constant}
use Rattle.elab_meaning.specs.Scope.{Env, Meaning, task, constant, type}
use Rattle.elab_meaning.specs.Elab.{State, Elab, by, ◌>>=◌, ◌>>◌, give, add_name}
use Rattle.elab_meaning.specs.Convert.{int_of, integer}
use Rattle.elab_meaning.specs.Wired.{type_of, whole_constant}
use Rattle.body_meaning.specs.Tree.{Decl}
use Rattle.body_meaning.specs.Tree as tree
use Rattle.body_meaning.specs.Stmts.{declaration}
use Rattle.wire_instances.specs.declared.plan.Made.{Made}
use Rattle.wire_pairs.specs.declared.facts.Bracket.{Bracket}
use Rattle.wire_pairs.specs.declared.facts.ElementFacts.{ElementFacts}
use Rattle.wire_pairs.specs.declared.facts.InstanceFacts.{InstanceFacts}
use Rattle.wire_pairs.specs.declared.facts.LineFacts.{LineFacts}
use Rattle.wire_pairs.specs.declared.facts.LineFacts.TheVariants as line_facts
use Rattle.wire_pairs.specs.declared.facts.Unlinked.{Unlinked}
use Rattle.wire_pairs.specs.declared.facts.Unlinked.TheVariants as unlinked
use Rattle.wire_pairs.specs.Application.{made_at}
use Rattle.wire_pairs.specs.Brackets.{is_before}
use Rattle.wire_facts.specs.Components.{Param, Arg, Element, Line, Component, of_type, of_value, names_instance, wire, declares}
use Rattle.wire_facts.specs.Scopes.{Base, base_of, Scope, no_scope, with_own, in_block, inside}

-- ---- names

-- a component, an element and a function are neither constants nor types; their names hide others, as that of a task does
abbrev pub hides : List ℕ → Elab (Unit {0})
hides name = add_name name (task 0)

abbrev pub done : {A : Type 0} → Elab A → Elab (Unit {0})
done work = work >>= λ _. give tt

-- a function is looked at with the bodies; a header has no variables
abbrev pub header_declared : Env → Decl → Elab (Unit {0})
header_declared env (tree.function h body) = hides h.name
header_declared env (tree.variables t norace vs) = give tt
header_declared env (tree.typedef name t attrs at) = done (declaration env [] at (tree.typedef name t attrs at))
header_declared env (tree.type_only t at) = done (declaration env [] at (tree.type_only t at))

abbrev pub all_declared : Env → List Decl → Elab (Unit {0})
all_declared env [] = give tt
all_declared env (d ∷ ds) = header_declared env d >> all_declared env ds

-- ---- refusals at a line: what has no place among those of wires is no type, or no constant, there

abbrev pub unlinked_as : Unlinked → Fault → Unlinked
unlinked_as otherwise (fault.Refused (BadType at)) = unlinked.BadType at
unlinked_as otherwise (fault.Refused (NotConstant at)) = unlinked.NotConstant at
unlinked_as otherwise (fault.Refused (UnknownName at)) = unlinked.UnknownName at
unlinked_as otherwise _ = otherwise

-- ---- elements

-- the place of a type among those that were met
abbrev pub place_of : (k : ℕ) → List Ty → Ty → Option ℕ
place_of k [] t = None
place_of k (u ∷ us) t = cond (same_type u t) (Some k) (place_of (k + 1) us t)

abbrev pub added : List Ty → Ty → Option ℕ → ℕ × List Ty
added types t (Some k) = (k, types)
added types t None = (length types, types ++ t ∷ [])

abbrev pub numbered : List Ty → Ty → ℕ × List Ty
numbered types t = added types t (place_of 0 types t)

abbrev pub arg_told : Env → Pos → List Ty → TypeSpec → Elab (ℕ × List Ty)
arg_told env at types t = do
  u ← type_of env [] at t
  give (numbered types u)

-- behind the numbers of earlier ones
abbrev pub args_told : Env → Pos → List Ty → (before : List ℕ) → List TypeSpec → Elab (List ℕ × List Ty)
args_told env at types before [] = give (before, types)
args_told env at types before (t ∷ ts) = do
  one ← arg_told env at types t
  args_told env at one.1 (before ++ one.0 ∷ []) ts

-- the parameter of a bracket is an unsigned integer of 8 or 16 bits
abbrev pub greatest_of : Pos → Option IntType → Rule (Option ℕ)
greatest_of at (Some U8) = Ok (Some 255)
greatest_of at (Some U16) = Ok (Some 65535)
greatest_of at _ = refuse (BadType at)

abbrev pub greatest_told : Env → Pos → Option TypeSpec → Elab (Option ℕ)
greatest_told env at None = give None
greatest_told env at (Some t) = do
  u ← type_of env [] at t
  by (greatest_of at (int_of u))

-- what is told of an element, and the types that were met by then; its name is in force behind it
abbrev pub element_told : Env → List Ty → Element → Elab (ElementFacts × List Ty)
element_told env types e = do
  args ← args_told env e.at types [] e.args
  greatest ← greatest_told env e.at e.param
  hides e.name
  give (record { args = args.0; greatest = greatest }, args.1)

abbrev pub elements_told : Env → List Ty → (before : List ElementFacts) → List Element → Elab (List ElementFacts × List Ty)
elements_told env types before [] = give (before, types)
elements_told env types before (e ∷ es) = do
  one ← element_told env types e
  elements_told env one.1 (before ++ one.0 ∷ []) es

-- ---- generic components

-- what an argument is, where it stands
pub data Given : Type 0 where
  a_type : Ty → Given
  a_constant : Pos → Constant → Given

abbrev pub given : Env → Pos → Arg → Elab Given
given env at (of_type t) = do
  u ← type_of env [] at t
  give (a_type u)
given env at (of_value e) = do
  x ← whole_constant env [] e
  give (a_constant (pos_of e) x)

abbrev pub holds : IntType → ℤ → Bool
holds t x = int_eq (wrapped t x) x

-- a constant that the parameter's type holds
abbrev pub ranged : Pos → IntType → ℤ → Rule Meaning
ranged at t x = cond (holds t x) (Ok (constant t x)) (refuse (NotConstant at))

abbrev pub meaning_given : (line : Pos) → Option IntType → Given → Rule Meaning
meaning_given line None (a_type t) = Ok (type t false)
meaning_given line None (a_constant at x) = refuse (BadType at)
meaning_given line (Some t) (a_type u) = refuse (BadType line)
meaning_given line (Some t) (a_constant at x) = ranged at t x.1

-- the integer type of a parameter that is no type
abbrev pub param_type : Env → Pos → Option TypeSpec → Elab (Option IntType)
param_type env at None = give None
param_type env at (Some t) = do
  u ← type_of env [] at t
  i ← by (integer at u)
  give (Some i)

-- a parameter gets its argument; its type may name earlier ones
abbrev pub param_declared : Env → (at line : Pos) → Param → Given → Elab (Unit {0})
param_declared env at line p x = do
  t ← param_type env at p.ty
  m ← by (meaning_given line t x)
  add_name p.name m

-- an argument is evaluated in the maker's scope, and then declared in that of the instance
abbrev pub param_given : Base → (maker made : Env) → (at line : Pos) → Param → Arg → Scope → Elab Scope
param_given b maker made at line p x scope = do
  g ← given maker line x
  more ← inside b scope (param_declared made at line p g)
  give more.1

-- from left to right
abbrev pub params_declared : Base → (maker made : Env) → (at line : Pos) → List Param → List Arg → Scope → Elab Scope
params_declared b maker made at line (p ∷ ps) (x ∷ xs) scope = do
  more ← param_given b maker made at line p x scope
  params_declared b maker made at line ps xs more
params_declared b maker made at line _ _ scope = give scope

-- ---- instances

-- what is seen of an instance: its scope, and what is told of its elements and of its lines
pub record Seen : Type 0 where
  pub scope : Scope
  pub elements : List ElementFacts
  pub lines : List LineFacts

abbrev pub unseen : Seen
unseen = record { scope = no_scope; elements = []; lines = [] }

-- the specification of an instance, whose parameters are declared
abbrev pub specified : Base → Env → List Element → List Ty → Scope → Elab (Seen × List Ty)
specified b env es types scope = do
  x ← inside b scope (elements_told env types [] es)
  give (record { scope = x.1; elements = x.0.0; lines = [] }, x.0.1)

-- the arguments, and then the specification of the instance that they make
abbrev pub made_by : Base → (maker made : Env) → (at line : Pos) → List Element → List Param → List Arg → List Ty → Elab (Seen × List Ty)
made_by b maker made at line es params args types = do
  scope ← params_declared b maker made at line params args no_scope
  specified b made es types scope

-- ---- applications

-- the files and the instances, and what is told of `unique` to headers and to each instance
pub record Application : Type 0 where
  pub components : List Component
  pub made : List Made
  pub headers : Env
  pub envs : List Env

-- what is told to an instance; others are told what headers are
abbrev pub env_of : Application → (instance : ℕ) → Env
env_of app k = unwrap_or (slice_get app.envs k) app.headers

abbrev pub nowhere : Component
nowhere = record { decls = []; generic = None; elements = []; lines = []; at = record { file = 0; line = 1; col = 1 } }

abbrev pub component_at : Application → Option Made → Component
component_at app None = nowhere
component_at app (Some m) = unwrap_or (slice_get app.components m.component) nowhere

abbrev pub component_of : Application → (instance : ℕ) → Component
component_of app k = component_at app (slice_get app.made k)

abbrev pub headers_declared : Env → List Component → Elab (Unit {0})
headers_declared env [] = give tt
headers_declared env (c ∷ cs) = all_declared env c.decls >> headers_declared env cs

-- what was seen by then: of each instance, and the types that were met
pub record Survey : Type 0 where
  pub seen : List Seen
  pub types : List Ty

abbrev pub survey : List Seen → List Ty → Survey
survey seen types = record { seen = seen; types = types }

-- the specification of an instance that is not generic
abbrev pub single_specified : Base → Env → Component → (is_generic : Bool) → List Ty → Elab (Seen × List Ty)
single_specified b env c true types = give (unseen, types)
single_specified b env c false types = specified b env c.elements types no_scope

abbrev pub with_next : Survey → Seen × List Ty → Survey
with_next x found = survey (x.seen ++ found.0 ∷ []) found.1

abbrev pub singles_specified : Application → Base → (instance : ℕ) → List Made → Survey → Elab Survey
singles_specified app b k [] x = give x
singles_specified app b k (m ∷ ms) x = do
  one ← single_specified b (env_of app k) (component_of app k) (is_some (component_of app k).generic) x.types
  singles_specified app b (k + 1) ms (with_next x one)

-- ---- lines

-- what the lines behind one go on with: the types that were met, and the state
abbrev pub Course : Type 0
Course = List Ty × State

-- what is told of a line, what is seen of the instances behind it, and the course, where it is not refused
pub record Behind : Type 0 where
  pub facts : LineFacts
  pub seen : List Seen
  pub course : Option Course

abbrev pub untold : LineFacts
untold = line_facts.Brackets None None

abbrev pub behind : LineFacts → List Seen → Option Course → Behind
behind facts seen course = record { facts = facts; seen = seen; course = course }

abbrev pub goes_on : Survey → State → Behind
goes_on x s = behind untold x.seen (Some (x.types, s))

abbrev pub refused : List Seen → Unlinked → Behind
refused seen e = behind (line_facts.Refused e) seen None

abbrev pub with_hidden : List ℕ → State → State
with_hidden name st = record st { names = st.names ++ (record { name = name; meaning = task 0 } ∷ []) }

abbrev pub named_then : (otherwise : Unlinked) → List ℕ → List Seen → Rule (Survey × State) → Behind
named_then otherwise name seen (Ok x) = goes_on x.0 (with_hidden name x.1)
named_then otherwise name seen (Err e) = refused seen (unlinked_as otherwise e)

abbrev pub with_seen : ℕ → Survey → Seen × List Ty → Survey
with_seen k x found = survey (set x.seen k found.0) found.1

abbrev pub instance_made : Application → Base → (maker made : ℕ) → (line : Pos) → List Ty → List Arg → Elab (Seen × List Ty)
instance_made app b i k line types args =
    made_by b (env_of app i) (env_of app k) (component_of app k).at line (component_of app k).elements (unwrap_or (component_of app k).generic []) args types

abbrev pub new_instance : Application → Base → (maker : ℕ) → (line : Pos) → Survey → List Arg → Option ℕ → Elab Survey
new_instance app b i line x args None = give x
new_instance app b i line x args (Some k) = do
  found ← instance_made app b i k line x.types args
  give (with_seen k x found)

abbrev pub bracket : Pos → Result ℤ Unlinked → Option Bracket
bracket at z = Some (record { at = at; value = z })

abbrev pub bracket_found : Pos → Rule (Constant × State) → Option Bracket × Option State
bracket_found at (Ok x) = (bracket at (Ok x.0.1), Some x.1)
bracket_found at (Err e) = (bracket at (Err (unlinked_as (unlinked.NotConstant at) e)), None)

-- a bracket in its scope, and the state behind it
abbrev pub bracketed : Env → MaybeExpr → State → Option Bracket × Option State
bracketed env s.no_expr st = (None, Some st)
bracketed env (s.some_expr e) st = bracket_found (pos_of e) (whole_constant env [] e st)

-- one that is not looked at, behind a refused one
abbrev pub unlooked : MaybeExpr → Option Bracket
unlooked s.no_expr = None
unlooked (s.some_expr e) = bracket (pos_of e) (Err (unlinked.NotConstant (pos_of e)))

abbrev pub second_bracketed : Env → MaybeExpr → Option State → Option Bracket × Option State
second_bracketed env second None = (unlooked second, None)
second_bracketed env second (Some st) = bracketed env second st

-- two brackets in their order, and the state behind both
abbrev pub Both : Type 0
Both = (Option Bracket × Option Bracket) × Option State

abbrev pub second_behind : Env → (second : MaybeExpr) → Option Bracket × Option State → Both
second_behind env second first = ((first.0, (second_bracketed env second first.1).0), (second_bracketed env second first.1).1)

abbrev pub in_order : Env → (first second : MaybeExpr) → State → Both
in_order env first second st = second_behind env second (bracketed env first st)

abbrev pub turned : Both → Both
turned x = ((x.0.1, x.0.0), x.1)

abbrev pub begins_before : MaybeExpr → MaybeExpr → Bool
begins_before (s.some_expr a) (s.some_expr b) = is_before (pos_of a) (pos_of b)
begins_before a b = false

-- the bracket that begins first in the text is looked at first
abbrev pub both_bracketed : Env → (from to : MaybeExpr) → State → Both
both_bracketed env from to st = cond (begins_before to from) (turned (in_order env to from st)) (in_order env from to st)

abbrev pub wire_told : Survey → Both → Behind
wire_told x both = behind (line_facts.Brackets both.0.0 both.0.1) x.seen (option_map (λ st. (x.types, st)) both.1)

abbrev pub declared_then : Survey → (otherwise : Unlinked) → Rule (Unit {0} × State) → Behind
declared_then x otherwise (Ok found) = goes_on x found.1
declared_then x otherwise (Err e) = refused x.seen (unlinked_as otherwise e)

abbrev pub decl_place : Decl → Pos
decl_place (tree.typedef name t attrs at) = at
decl_place (tree.type_only t at) = at
decl_place (tree.variables t norace vs) = record { file = 0; line = 1; col = 1 }
decl_place (tree.function h body) = h.at

abbrev pub line_told : Application → Base → (instance line : ℕ) → Line → Survey → State → Behind
line_told app b i k (names_instance None name at) x st = goes_on x (with_hidden name st)
line_told app b i k (names_instance (Some args) name at) x st =
    named_then (unlinked.BadType at) name x.seen (new_instance app b i at x args (made_at app.made i k) st)
line_told app b i k (wire from to at) x st = wire_told x (both_bracketed (env_of app i) from to st)
line_told app b i k (declares d) x st = declared_then x (unlinked.BadType (decl_place d)) (done (declaration (env_of app i) [] (decl_place d) d) st)

-- the lines of an instance up to the first that is refused; what is seen by then; and the course, where none is
pub record Told : Type 0 where
  pub lines : List LineFacts
  pub seen : List Seen
  pub course : Option Course

abbrev pub told : List LineFacts → List Seen → Option Course → Told
told lines seen course = record { lines = lines; seen = seen; course = course }

abbrev pub lines_behind : List LineFacts → List Seen → Option Course → (Survey → State → List LineFacts → Told) → Told
lines_behind lines seen None next = told lines seen None
lines_behind lines seen (Some c) next = next (survey seen c.0) c.1 lines

abbrev pub line_then : List LineFacts → Behind → (Survey → State → List LineFacts → Told) → Told
line_then before f next = lines_behind (before ++ f.facts ∷ []) f.seen f.course next

abbrev pub lines_told : Application → Base → (instance line : ℕ) → List Line → Survey → State → List LineFacts → Told
lines_told app b i k [] x st before = told before x.seen (Some (x.types, st))
lines_told app b i k (l ∷ ls) x st before = line_then before (line_told app b i k l x st) (lines_told app b i (k + 1) ls)

-- ---- instances

abbrev pub seen_at : List Seen → (instance : ℕ) → Seen
seen_at seen i = unwrap_or (slice_get seen i) unseen

-- inside the instance's own scope, the implementation is one block
abbrev pub instance_told : Application → Base → (instance : ℕ) → List Seen → Course → Told
instance_told app b i seen c =
    lines_told app b i 0 (component_of app i).lines (survey seen c.0) (with_own b (in_block b (seen_at seen i).scope) c.1) []

abbrev pub with_lines : (instance : ℕ) → List LineFacts → List Seen → List Seen
with_lines i lines seen = set seen i (record (seen_at seen i) { lines = lines })

-- what is seen of all instances, and the course behind them where no line is refused
pub record Sight : Type 0 where
  pub seen : List Seen
  pub course : Option Course

abbrev pub sight : List Seen → Option Course → Sight
sight seen course = record { seen = seen; course = course }

-- the instances from one on, up to the first line that is refused
abbrev pub goes_on_to : List Seen → Option Course → (List Seen → Course → Sight) → Sight
goes_on_to seen None next = sight seen None
goes_on_to seen (Some c) next = next seen c

abbrev pub instances_told : Application → Base → (instance : ℕ) → List Made → List Seen → Course → Sight
instances_told app b i [] seen c = sight seen (Some c)
instances_told app b i (m ∷ ms) seen c =
    (λ (t : Told). goes_on_to (with_lines i t.lines t.seen) t.course (instances_told app b (i + 1) ms)) (instance_told app b i seen c)

abbrev pub facts_in : Seen → InstanceFacts
facts_in x = record { elements = x.elements; lines = x.lines }

-- ---- all of it

abbrev pub start : State
start = record { names = []; tags = []; first_name = 0; first_tag = 0; structs = []; locals = []; taken = []; asked = [] }

abbrev pub all_told : Application → Base → Rule (Survey × State) → Rule Sight
all_told app b (Ok x) = Ok (instances_told app b 0 app.made x.0.seen (x.0.types, x.1))
all_told app b (Err e) = Err e

abbrev pub with_specifications : Application → Rule (Unit {0} × State) → Rule Sight
with_specifications app (Ok x) = all_told app (base_of x.1) (singles_specified app (base_of x.1) 0 app.made (survey [] []) x.1)
with_specifications app (Err e) = Err e

-- headers, specifications, and then lines
abbrev pub sight_of : Application → Rule Sight
sight_of app = with_specifications app (headers_declared app.headers app.components start)

abbrev pub facts_by : Rule Sight → Rule (List InstanceFacts)
facts_by (Ok x) = Ok (map facts_in x.seen)
facts_by (Err e) = Err e

abbrev pub facts_of : Application → Rule (List InstanceFacts)
facts_of app = facts_by (sight_of app)
