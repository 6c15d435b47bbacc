-- The items of a module's elements (nesC 1.3 Reference, 4 to 6 and 9): what their interfaces declare, and which bodies the wires reach.
use Rattle.std.specs.Prelude.{ℕ, pos, Bool, true, false, nat_eq, if◌then◌else◌, List, [], ◌∷◌, ◌++◌, length, map, codes, decimal, Option, Some, None, option_and_then, slice_get, bytes_eq, Ok, Err}
use Rattle.std.specs.List.{filter, filter_map, list_any}
use Rattle.std.specs.Option.{option_map}
use Rattle.nm_base.specs.declared.pos.Pos.{Pos}
use Rattle.nm_base.specs.declared.int_type.IntType.{IntType}
use Rattle.nm_base.specs.IntType.{wrapped}
use Rattle.nesc_tree.specs.Plain as s
use Rattle.nesc_tree.specs.declared.declarations.FuncKind.{FuncKind}
use Rattle.nesc_tree.specs.declared.declarations.FuncKind.TheVariants as kind
use Rattle.nesc_types.specs.Rule.{Rule}
use Rattle.nesc_types.specs.Values.{Constant}
use Rattle.wire_targets.specs.declared.end.End.{End}
use Rattle.elab_meaning.specs.Scope.{Entry, Env, Item, Meaning, constant, type}
use Rattle.elab_meaning.specs.Elab.{Elab, State, ◌>>=◌, ◌>>◌, give, add_name}
use Rattle.elab_meaning.specs.Operators.{Based}
use Rattle.elab_meaning.specs.Wired.{starred, dimensioned, is_const_at, base_of, lengths}
use Rattle.body_meaning.specs.Tree as tree
use Rattle.body_meaning.specs.Tree.{Attr, AttrArg, Decl, Head}
use Rattle.program_meaning.specs.Parts.{Application, Argument, a_type, a_constant, Elem, Given, Instance, Sig, Wired}
use Rattle.program_meaning.specs.Numbers.{implementation, implementation_in}
use Rattle.program_meaning.specs.Heads.{Form, heading_alone, is_named, same_flag}

-- ---- bodies that are reached

-- what a target gets first: the value that the wires give its parameter, or the parameter of the call
pub data First : Type 0 where
  nothing : First
  given : Constant → First
  passed_on : IntType → First

pub record Target : Type 0 where
  pub body : ℕ
  pub first : First

-- the targets of one value of the parameter, or of all others
pub record Reached : Type 0 where
  pub value : Option ℕ
  pub targets : List Target

abbrev pub first_of : Option IntType → Option ℕ → First
first_of None value = nothing
first_of (Some t) (Some n) = given (t, wrapped t (pos n))
first_of (Some t) None = passed_on t

abbrev pub target : First → ℕ → Target
target first body = record { body = body; first = first }

module _ (app : Application) where
  abbrev pub target_at : (item : List ℕ) → End → Instance → Elem → Option Target
  target_at item e i x = option_map (target (first_of x.parameter e.param)) (implementation_in app e.instance x.name item false i)

  abbrev pub target_in : (item : List ℕ) → End → Instance → Option Target
  target_in item e i = option_and_then (target_at item e i) (slice_get i.elems e.element)

  abbrev pub target_of : (item : List ℕ) → End → Option Target
  target_of item e = option_and_then (target_in item e) (slice_get app.instances e.instance)

  abbrev pub targets_of : (item : List ℕ) → List End → List Target
  targets_of item ends = filter_map (target_of item) ends

  -- ---- of an element of an instance

  module _ (instance : ℕ) (x : Elem) where
    abbrev pub some_target : Option Target → List Target
    some_target None = []
    some_target (Some t) = t ∷ []

    -- the module's own implementation for where nothing is reached
    abbrev pub default_of : (item : List ℕ) → List Target
    default_of item = some_target (option_map (target (first_of x.parameter None)) (implementation app instance x.name item true))

    abbrev pub or_default : (item : List ℕ) → List Target → List Target
    or_default item [] = default_of item
    or_default item (t ∷ ts) = t ∷ ts

    abbrev pub named_case : (item : List ℕ) → Wired → Reached
    named_case item y = record { value = Some y.value; targets = or_default item (targets_of item y.ends) }

    abbrev pub other_case : List Target → List Reached
    other_case [] = []
    other_case (t ∷ ts) = record { value = None; targets = t ∷ ts } ∷ []

    -- the values that wires name, and then all others
    abbrev pub cases_of : (item : List ℕ) → List Reached
    cases_of item = map (named_case item) x.named ++ other_case (or_default item (targets_of item x.others))

    abbrev pub only_one : List Target → Option Target
    only_one [] = None
    only_one (t ∷ []) = Some t
    only_one (t ∷ u ∷ more) = None

    -- the one target of a call without a parameter
    abbrev pub one_target : (parameter : Option IntType) → (item : List ℕ) → Option Target
    one_target None item = only_one (targets_of item x.others)
    one_target (Some t) item = None

-- ---- the function that combines two results

abbrev pub is_text_in : List ℕ → List (List ℕ) → Bool
is_text_in name names = list_any (bytes_eq name) names

-- the name of a type that stands by itself
abbrev pub type_name : s.TypeSpec → Option (List ℕ)
type_name (s.type_spec (s.named n) stars dims is_const) = if nat_eq stars 0 then Some n else None
type_name (s.type_spec _ stars dims is_const) = None

abbrev pub attrs_of : (name : List ℕ) → Decl → Option (List Attr)
attrs_of name (tree.typedef n t attrs at) = if bytes_eq n name then Some attrs else None
attrs_of name (tree.type_only t at) = None
attrs_of name (tree.variables t norace vs) = None
attrs_of name (tree.function h body) = None

abbrev pub first_in : List (List Attr) → List Attr
first_in [] = []
first_in (x ∷ xs) = x

-- what stands between the quotes of a text
abbrev pub without_last : List ℕ → List ℕ
without_last [] = []
without_last (c ∷ []) = []
without_last (c ∷ d ∷ cs) = c ∷ without_last (d ∷ cs)

abbrev pub unquoted : List ℕ → List ℕ
unquoted [] = []
unquoted (c ∷ cs) = without_last cs

-- no function has the empty name
abbrev pub function_named : List AttrArg → List ℕ
function_named (tree.text t ∷ []) = unquoted t
function_named _ = []

abbrev pub combined_by : List Attr → Option (List ℕ)
combined_by [] = None
combined_by (a ∷ more) = Some (function_named a.args)

-- of the type of this name, which a header declares
abbrev pub combine_of : List Decl → (name : List ℕ) → Option (List ℕ)
combine_of headers name = combined_by (filter (is_named (codes "combine")) (first_in (filter_map (attrs_of name) headers)))

-- a type parameter of the interface hides a header's type
abbrev pub combine_named : List Decl → (params : List (List ℕ)) → Option (List ℕ) → Option (List ℕ)
combine_named headers params None = None
combine_named headers params (Some n) = if is_text_in n params then None else combine_of headers n

-- ---- items

-- an item of an element of an instance. Its form has the parameter of the element as its bracket; calls come out where a used command
-- is called or a provided event is signalled
pub record Fact : Type 0 where
  pub element : List ℕ
  pub name : List ℕ
  pub form : Form
  pub is_event : Bool
  pub comes_out : Bool
  pub one : Option Target
  pub cases : List Reached
  pub combine : Option (List ℕ)

abbrev pub kind_of : (is_event : Bool) → FuncKind
kind_of true = kind.Event
kind_of false = kind.Command

abbrev pub head_of : Sig → Head
head_of x = record {
  kind = kind_of x.is_event;
  name = x.name;
  item = None;
  bracket = None;
  is_async = x.is_async;
  is_default = false;
  result = x.result;
  params = x.params;
  attrs = [];
  at = x.at;
}

abbrev pub fact : Application → (instance : ℕ) → Elem → Sig → Form → Fact
fact app k x item f = record {
  element = x.name;
  name = item.name;
  form = record f { bracket = x.parameter };
  is_event = item.is_event;
  comes_out = same_flag x.provides item.is_event;
  one = one_target app k x x.parameter item.name;
  cases = cases_of app k x item.name;
  combine = combine_named app.headers x.interface.params (type_name item.result);
}

-- an interface sees the headers and its own parameters (own), whatever the module declares
abbrev pub interface_state : (headers : State) → List Entry → State → State
interface_state h params x = record x {
  names = h.names ++ params;
  tags = h.tags;
  first_name = length h.names;
  first_tag = length h.tags;
}

abbrev pub as_before : {A : Type 0} → State → Rule (A × State) → Rule (A × State)
as_before old (Ok x) =
    Ok (x.0, record x.1 { names = old.names; tags = old.tags; first_name = old.first_name; first_tag = old.first_tag })
as_before old (Err e) = Err e

abbrev pub in_interface : {A : Type 0} → (headers : State) → List Entry → Elab A → Elab A
in_interface h params work = λ x. as_before x (work (interface_state h params x))

abbrev pub type_entry : List ℕ → Based → Entry
type_entry name b = record { name = name; meaning = type b.ty b.is_const }

module _ (app : Application) (env : Env) (headers : State) where
  abbrev pub argument_type : Pos → s.TypeSpec → Elab Based
  argument_type at (s.type_spec base stars dims is_const) = do
    b ← base_of env [] at base
    p ← starred at stars b
    ns ← lengths env [] dims
    t ← dimensioned at p ns
    give (record { ty = t; is_const = is_const_at stars is_const b.is_const })

  -- what the parameters of the interface stand for
  abbrev pub arguments : Pos → (params : List (List ℕ)) → List s.TypeSpec → Elab (List Entry)
  arguments at (n ∷ ns) (t ∷ ts) = do
    b ← argument_type at t
    rest ← arguments at ns ts
    give (type_entry n b ∷ rest)
  arguments at _ _ = give []

  abbrev pub items_of : (instance : ℕ) → Elem → List Sig → Elab (List Fact)
  items_of k x [] = give []
  items_of k x (item ∷ rest) = do
    g ← heading_alone env [] (head_of item)
    more ← items_of k x rest
    give (fact app k x item g.form ∷ more)

  abbrev pub facts_of_element : (instance : ℕ) → Elem → Elab (List Fact)
  facts_of_element k x = do
    params ← arguments x.at x.interface.params x.args
    in_interface headers params (items_of k x x.interface.items)

  abbrev pub facts_of : (instance : ℕ) → List Elem → Elab (List Fact)
  facts_of k [] = give []
  facts_of k (x ∷ xs) = do
    fs ← facts_of_element k x
    more ← facts_of k xs
    give (fs ++ more)

-- ---- what is told to bodies

abbrev pub body_of : Option Target → Option ℕ
body_of None = None
body_of (Some t) = Some t.body

abbrev pub value_of : First → Option Constant
value_of nothing = None
value_of (given x) = Some x
value_of (passed_on t) = None

abbrev pub value_given : Option Target → Option Constant
value_given None = None
value_given (Some t) = value_of t.first

abbrev pub out_target : Fact → Option Target
out_target f = if f.comes_out then f.one else None

abbrev pub item_of : Fact → Item
item_of f = record {
  element = f.element;
  name = f.name;
  is_signal = f.is_event;
  parameter = f.form.bracket;
  params = f.form.params;
  result = f.form.result;
  body = body_of (out_target f);
}

-- ---- generic components

abbrev pub meaning_of : Argument → Meaning
meaning_of (a_type t is_const) = type t is_const
meaning_of (a_constant x) = constant x.0 x.1

abbrev pub given_names : List Given → Elab (Unit {0})
given_names [] = give tt
given_names (x ∷ xs) = do
  add_name x.name (meaning_of x.argument)
  given_names xs

-- ---- names in print

abbrev pub copy_text : Option ℕ → List ℕ
copy_text None = []
copy_text (Some k) = codes "#" ++ decimal k

-- C, or C#k of a generic component
abbrev pub instance_text : Instance → List ℕ
instance_text i = i.component ++ copy_text i.copy

abbrev pub dotted : List ℕ → List ℕ → List ℕ
dotted a b = a ++ (codes "." ++ b)

abbrev pub dispatch_text : (instance : List ℕ) → Fact → List ℕ
dispatch_text instance f = codes "wire " ++ dotted instance (dotted f.element f.name)
