-- What one part of a declaration does, given what stands before it (own: the equations of the meaning, cut where the code is cut).
use Rattle.std.specs.Prelude.{ℕ, Bool, true, false, if◌then◌else◌, List, [], ◌∷◌, length, map, Option, Some, None, is_some, slice_get}
use Rattle.nm_base.specs.declared.pos.Pos.{Pos}
use Rattle.nesc_core.specs.Plain as core
use Rattle.nesc_core.specs.Plain.{Ty, Body}
use Rattle.nesc_tree.specs.Plain as s
use Rattle.nesc_tree.specs.declared.declarations.FuncKind.{FuncKind}
use Rattle.elab_meaning.specs.Scope.{Meaning}
use Rattle.elab_meaning.specs.Elab.{Asked}
use Rattle.elab_meaning.specs.Operators.{Based}
use Rattle.elab_walk.specs.Objects.{declared}
use Rattle.elab_meaning.specs.Wired.{base_of}
use Rattle.body_meaning.specs.Tree as tree
use Rattle.body_meaning.specs.Tree.{Decl, Head, MaybeStmt, Stmt}
use Rattle.body_meaning.specs.Stmts.{declaration, initials_of}
use Rattle.program_meaning.specs.Dispatch.{dispatch}
use Rattle.program_meaning.specs.Heads.{Form, Heading, heading, line, code_of, no_locals}
use Rattle.program_meaning.specs.Items.{Fact}
use Rattle.program_meaning.specs.Variables.{name_in_force}
use Rattle.program_meaning.specs.Making.{Made, Declared, Whole, by, ◌>>=◌, ◌>>◌, give, whole, part, in_boot, add_body, add_declared, add_dispatch, add_initial, add_variable, boots_by}
use Rattle.program_meaning.specs.Walk.{Told, agrees, body, boot_function, boots, called_from_here, combined, dispatch_asked, earlier, handles, in_module, is_definition, is_new, line_before, loses, of_instance, one_line, or_nothing, prototype_stands, warned, weighed, well_formed, well_named}
use Rattle.program_meaning.specs.Walk as walk

-- ---- dispatch functions

abbrev pub weighed_dispatch : Pos → Body → Made (Unit {0})
weighed_dispatch at b = do
  w ← whole
  by (weighed at w.work.structs b)
  add_dispatch b

abbrev pub made_dispatch : (name : List ℕ) → Pos → Fact → Option ℕ → Made (Unit {0})
made_dispatch name at x f = do
  weighed_dispatch at (dispatch name x.form f at x.cases)
  warned (loses x f) at name

abbrev pub dispatched : (name : List ℕ) → Told → Pos → Fact → Made (Unit {0})
dispatched name told at x = do
  by (called_from_here at x.comes_out)
  f ← by (combined told at x)
  made_dispatch name at x f

abbrev pub one_asked : Told → Asked → Made (Unit {0})
one_asked told a = walk.asked_of (or_nothing told.instance) told a (slice_get told.facts a.item)

-- ---- variables

abbrev pub noted : Told → tree.Variable → (norace : Bool) → Ty → Made (Unit {0})
noted told v norace t = add_variable (record { name = of_instance told.instance v.name; ty = t; norace = norace })

abbrev pub initialised : Told → tree.Variable → (number : ℕ) → Ty → Made (Unit {0})
initialised told v k t = do
  es ← in_boot (initials_of told.env told.values v.at (core.object k) t v.init)
  add_initial (map core.eval es)

abbrev pub of_type : Told → tree.Variable → (norace : Bool) → (number : ℕ) → Ty → Made (Unit {0})
of_type told v norace k t = do
  noted told v norace t
  initialised told v k t

abbrev pub variable : Told → Based → (said_const norace : Bool) → tree.Variable → Made (Unit {0})
variable told b said norace v = do
  w ← whole
  t ← part (declared told.env told.values b said v (length w.variables))
  of_type told v norace (length w.variables) t
  dispatch_asked told

-- the type before their stars, which is told of at a place
abbrev pub found_base : Told → Pos → s.Base → Made Based
found_base told at b = part (base_of told.env told.values at b)

-- ---- bodies

abbrev pub booted : Pos → Made (Unit {0})
booted at = do
  w ← whole
  boots_by (record { body = length w.bodies; at = at })

abbrev pub boot_body : Pos → Body → Made (Unit {0})
boot_body at b = do
  booted at
  add_body b

abbrev pub boot_code : Told → Heading → Stmt → Made core.Stmt
boot_code told g x = in_boot (code_of told.env told.values g x)

abbrev pub work_code : Told → Heading → Stmt → Made core.Stmt
work_code told g x = part (code_of told.env told.values g x)

abbrev pub without_locals : Whole → Whole
without_locals w = record w { work = record w.work { locals = [] } }

abbrev pub weighed_body : Pos → Body → Made (Unit {0})
weighed_body at b = do
  w ← whole
  by (weighed at w.work.structs b)
  add_body b

-- the locals of the work are those of the body
abbrev pub finished : Told → Head → Form → core.Stmt → Made (Unit {0})
finished told h f code = λ w. weighed_body h.at (body told h f w.work.locals code) (without_locals w)

abbrev pub other_function : Told → Head → Heading → Stmt → Made (Unit {0})
other_function told h g x = do
  code ← work_code told g x
  finished told h g.form code
  dispatch_asked told

abbrev pub bodied : Told → Head → Heading → Stmt → Made (Unit {0})
bodied told h g x = if boots told h then boot_function told h g x else other_function told h g x

abbrev pub defined : Told → Head → Heading → (line : Option ℕ) → MaybeStmt → Made (Unit {0})
defined told h g l tree.no_stmt = do
  by (prototype_stands told h l)
  part no_locals
defined told h g l (tree.some_stmt x) = do
  handles h.at l
  bodied told h g x

-- ---- functions

abbrev pub named : List ℕ → Meaning → Made (Unit {0})
named name x = part (name_in_force name x)

abbrev pub first_in_force : Told → Head → Form → FuncKind → Made (Unit {0})
first_in_force told h f k = walk.in_force told h f None k

abbrev pub in_force : Told → Head → Form → (is_declared : Bool) → Made (Unit {0})
in_force told h f true = give tt
in_force told h f false = first_in_force told h f h.kind

-- what was declared before
pub record Before : Type 0 where
  pub is_declared : Bool
  pub line : Option ℕ

abbrev pub before_by : Option Declared → Before
before_by d = record { is_declared = is_some d; line = line_before d }

abbrev pub agreed : Head → Form → (defines : Bool) → Made Before
agreed h f defines = do
  w ← whole
  by (agrees h.at defines f (earlier w.declared h))
  by (is_new h w.work (earlier w.declared h) h.kind)
  give (before_by (earlier w.declared h))

abbrev pub own_line : Told → Head → Form → Made (Option ℕ)
own_line told h f = part (line told.env told.values (in_module told.instance) h f)

abbrev pub lined : Told → Head → Form → (before : Option ℕ) → Made (Option ℕ)
lined told h f b = do
  own ← own_line told h f
  by (one_line h.at own b)

abbrev pub noted_function : Head → Form → (line : Option ℕ) → (is_defined : Bool) → Made (Unit {0})
noted_function h f l is_defined = add_declared (record { name = h.name; item = h.item; form = f; line = l; is_defined = is_defined })

abbrev pub entered : Told → Head → Form → (is_declared : Bool) → (line : Option ℕ) → (is_defined : Bool) → Made (Unit {0})
entered told h f is_declared l is_defined = do
  in_force told h f is_declared
  noted_function h f l is_defined

-- what was declared before agrees
abbrev pub placed : Told → Head → Heading → Before → MaybeStmt → Made (Unit {0})
placed told h g b x = do
  l ← lined told h g.form b.line
  entered told h g.form b.is_declared l (is_definition x)
  defined told h g l x

abbrev pub with_heading : Told → Head → Heading → MaybeStmt → Made (Unit {0})
with_heading told h g x = do
  by (well_formed told h g.form h.kind)
  b ← agreed h g.form (is_definition x)
  placed told h g b x

abbrev pub found_heading : Told → Head → Made Heading
found_heading told h = part (heading told.env told.values h)

abbrev pub function_declared : Told → Head → MaybeStmt → Made (Unit {0})
function_declared told h x = do
  by (well_named h h.kind)
  g ← found_heading told h
  with_heading told h g x

-- ---- names of types

abbrev pub declared_type : Told → Pos → Decl → Made (Unit {0})
declared_type told at d = do
  x ← part (declaration told.env told.values at d)
  give tt
