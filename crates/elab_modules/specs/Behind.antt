-- What is behind headers, and parts of what is done there (own: the equations of the meaning, cut where the code is cut).
use Rattle.std.specs.Prelude.{◌≡◌, ℕ, List, [], length, map}
use Rattle.body_meaning.specs.Scopes.{opened, back_to}
use Rattle.body_meaning.specs.Tree.{Decl}
use Rattle.elab_facts.specs.View.{declared_of}
use Rattle.elab_kept.specs.Grows.{IsPrefix}
use Rattle.elab_meaning.specs.Elab.{State}
use Rattle.elab_modules.specs.declared.around.Around as rust
use Rattle.elab_pieces.specs.Flow.{outer, outer_of}
use Rattle.program_meaning.specs.Items.{Fact, facts_of, given_names}
use Rattle.program_meaning.specs.Making.{Made, Whole, ◌>>=◌, ◌>>◌, give, whole, part, nothing_declared}
use Rattle.program_meaning.specs.Modules.{Met, declared_by, given_as, head_env, instance_told, instances_declared}
use Rattle.program_meaning.specs.Parts.{Application, Instance}
use Rattle.program_meaning.specs.Walk.{Told, declaration, declarations}

-- the names and tags of headers are the first that are in force
abbrev pub Has : (headers now : State) → Type 0
Has h s = IsPrefix h.names s.names × IsPrefix h.tags s.tags

-- what is lent to each instance is what the program had behind the headers
pub record AreBehind (x : rust.Around) (h : Whole) : Type 0 where
  pub declared : h.declared ≡ map declared_of x.headers.now
  pub outer : outer h.work ≡ outer_of x.outer

-- ---- headers

-- what they declared is lent to instances
abbrev pub without_declared : Whole → Whole
without_declared w = record w { declared = [] }

-- a declaration, with the numbers of the structs that it declares outside a function
abbrev pub header_declared : Told → Decl → Made (List ℕ)
header_declared told d = do
  before ← whole
  declaration told d
  behind ← whole
  give (declared_by d (length before.work.structs) (length behind.work.structs))

-- ---- instances

-- nothing is declared, and the parameters are in force
abbrev pub begun : Met → Instance → Made (Unit {0})
begun m i = do
  nothing_declared
  part opened
  part (given_names (map (given_as m) i.given))

abbrev pub instance_facts : Application → (headers : Whole) → (number : ℕ) → Instance → Made (List Fact)
instance_facts app h k i = part (facts_of app (head_env app k i) h.work k i.elems)

-- in a scope of their own, behind which the names and tags of headers alone are in force
abbrev pub declared_inside : (headers : Whole) → Told → List Decl → Made (Unit {0})
declared_inside h told ds = do
  part opened
  declarations told ds
  part (back_to h.work)

-- the implementation of an instance, whose items' facts are known
abbrev pub implemented : Application → (headers : Whole) → (number : ℕ) → Instance → List Fact → Made (Unit {0})
implemented app h k i facts = declared_inside h (instance_told app h k i facts) i.decls

-- an instance whose parameters are in force
abbrev pub behind_given : Application → (headers : Whole) → (number : ℕ) → Instance → Made (Unit {0})
behind_given app h k i = do
  facts ← instance_facts app h k i
  implemented app h k i facts

abbrev pub all_instances : Application → Met → Made (Unit {0})
all_instances app m = do
  h ← whole
  instances_declared app h m 0 app.instances
