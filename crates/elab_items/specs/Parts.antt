-- Items cut where the code is cut (own: the equations of the meaning).
use Rattle.std.specs.Prelude.{ℕ, nat_eq, if◌then◌else◌, List, [], ◌∷◌, ◌++◌, Option, Some, None}
use Rattle.nm_base.specs.declared.pos.Pos.{Pos}
use Rattle.nesc_tree.specs.Plain as s
use Rattle.nesc_types.specs.Values.{Constant}
use Rattle.elab_meaning.specs.Scope.{Entry, Env}
use Rattle.elab_meaning.specs.Elab.{Elab, ◌>>=◌, ◌>>◌, give}
use Rattle.elab_meaning.specs.Operators.{Based}
use Rattle.elab_meaning.specs.Wired.{base_of, is_const_at}
use Rattle.elab_locals.specs.Parts.{shaped}
use Rattle.elab_heads.specs.Parts.{signature}
use Rattle.wire_facts.specs.Scopes.{Base, Scope, inside}
use Rattle.program_meaning.specs.Items.{Fact, fact, type_entry}
use Rattle.program_meaning.specs.Parts.{Application, Elem, Sig}

abbrev pub first : {A : Type 0} → List A → Option A
first [] = None
first (x ∷ xs) = Some x

abbrev pub base_name : s.Base → Option (List ℕ)
base_name s.void = None
base_name (s.int t) = None
base_name (s.named n) = Some n
base_name (s.struct tag) = None
base_name (s.struct_of tag _) = None
base_name (s.enum tag) = None
base_name (s.enum_of tag _) = None

abbrev pub type_name : s.TypeSpec → Option (List ℕ)
type_name (s.type_spec base stars dims is_const) = if nat_eq stars 0 then base_name base else None

-- the names of its own that an interface sees
abbrev pub interface_scope : List Entry → Scope
interface_scope params = record { names = params; tags = [] }

-- work that sees the headers and these names
abbrev pub in_interface : {A : Type 0} → Base → List Entry → Elab A → Elab A
in_interface b params work = do
  x ← inside b (interface_scope params) work
  give x.0

module _ (env : Env) (values : List (Option Constant)) where
  abbrev pub argument_type : Pos → s.TypeSpec → Elab Based
  argument_type at (s.type_spec base stars dims is_const) = do
    b ← base_of env values at base
    t ← shaped env values at b stars dims
    give (record { ty = t; is_const = is_const_at stars is_const b.is_const })

  -- a parameter stands for its argument
  abbrev pub one_argument : Pos → List ℕ → s.TypeSpec → Elab Entry
  one_argument at n t = do
    b ← argument_type at t
    give (type_entry n b)

  abbrev pub arguments : Pos → List (List ℕ) → List s.TypeSpec → Elab (List Entry)
  arguments at (n ∷ ns) (t ∷ ts) = do
    x ← one_argument at n t
    rest ← arguments at ns ts
    give (x ∷ rest)
  arguments at _ _ = give []

module _ (app : Application) (env : Env) (values : List (Option Constant)) where
  abbrev pub one_item : (instance : ℕ) → Elem → Sig → Elab Fact
  one_item k x item = do
    f ← signature env values item
    give (fact app k x item f)

  abbrev pub items_of : (instance : ℕ) → Elem → List Sig → Elab (List Fact)
  items_of k x [] = give []
  items_of k x (item ∷ rest) = do
    f ← one_item k x item
    more ← items_of k x rest
    give (f ∷ more)

  abbrev pub facts_of_element : Base → (instance : ℕ) → Elem → Elab (List Fact)
  facts_of_element b k x = do
    params ← arguments env values x.at x.interface.params x.args
    in_interface b params (items_of k x x.interface.items)

  abbrev pub facts_of : Base → (instance : ℕ) → List Elem → Elab (List Fact)
  facts_of b k [] = give []
  facts_of b k (x ∷ xs) = do
    fs ← facts_of_element b k x
    more ← facts_of b k xs
    give (fs ++ more)
