-- An application as its wires see it: the elements of its instances, and the instances that the lines of configurations name
-- (nesC 1.3 Reference, sections 7 and 9).
use Rattle.std.specs.Prelude.{ℕ, Bool, false, ◌==◌, ◌&&◌, List, [], Option, Some, None, option_and_then, slice_get, bytes_eq, if◌then◌else◌}
use Rattle.std.specs.List.{position_from}
use Rattle.nesc_tree.specs.declared.components.Head.{Head}
use Rattle.nesc_tree.specs.declared.components.Elem.{Elem}
use Rattle.nesc_tree.specs.declared.components.ConfLine.{ConfLine}
use Rattle.nesc_tree.specs.declared.components.ConfLine.TheVariants as conf
use Rattle.nesc_tree.specs.declared.components.GenericArg.{GenericArg}
use Rattle.wire_instances.specs.declared.plan.Made.{Made}
use Rattle.wire_instances.specs.declared.plan.Maker.{Maker}
use Rattle.wire_units.specs.declared.loaded.Loaded.{Loaded}
use Rattle.wire_units.specs.Units.{Name, name_of, head_of, is_named}
use Rattle.wire_pairs.specs.declared.facts.InstanceFacts.{InstanceFacts}
use Rattle.wire_pairs.specs.declared.facts.ElementFacts.{ElementFacts}
use Rattle.wire_pairs.specs.declared.facts.LineFacts.{LineFacts}
use Rattle.wire_pairs.specs.declared.facts.LineFacts.TheVariants as line_facts

-- its files, its instances, and what is told of each instance
pub record Application : Type 0 where
  pub units : List Loaded
  pub made : List Made
  pub facts : List InstanceFacts

-- ---- elements

abbrev pub elems_in : Option Head → List Elem
elems_in None = []
elems_in (Some h) = h.elems

abbrev pub elems_of_unit : Loaded → List Elem
elems_of_unit u = elems_in (head_of u.unit.part)

abbrev pub elems_of_file : Option Loaded → List Elem
elems_of_file None = []
elems_of_file (Some u) = elems_of_unit u

abbrev pub file_of : Application → (instance : ℕ) → Option Loaded
file_of app instance = option_and_then (λ (m : Made). slice_get app.units m.component) (slice_get app.made instance)

abbrev pub elems_of : Application → (instance : ℕ) → List Elem
elems_of app instance = elems_of_file (file_of app instance)

-- the place of the element of a name
abbrev pub element_in : List Elem → Name → Option ℕ
element_in es name = position_from (λ (e : Elem). bytes_eq name e.name) 0 es

-- ---- facts

abbrev pub element_facts_in : Option InstanceFacts → List ElementFacts
element_facts_in None = []
element_facts_in (Some f) = f.elements

abbrev pub args_in : Option ElementFacts → List ℕ
args_in None = []
args_in (Some f) = f.args

abbrev pub greatest_in : Option ElementFacts → Option ℕ
greatest_in None = None
greatest_in (Some f) = f.greatest

abbrev pub element_facts : Application → (instance element : ℕ) → Option ElementFacts
element_facts app instance element = slice_get (element_facts_in (slice_get app.facts instance)) element

abbrev pub line_facts_in : Option InstanceFacts → List LineFacts
line_facts_in None = []
line_facts_in (Some f) = f.lines

abbrev pub or_nothing : Option LineFacts → LineFacts
or_nothing None = line_facts.Brackets None None
or_nothing (Some f) = f

abbrev pub line_facts_at : Application → (instance line : ℕ) → LineFacts
line_facts_at app instance line = or_nothing (slice_get (line_facts_in (slice_get app.facts instance)) line)

-- ---- names of instances

abbrev pub name_in : Option Loaded → Option Name
name_in None = None
name_in (Some u) = name_of u.unit.part

abbrev pub is_instance_of : List Loaded → Name → Made → Bool
is_instance_of units name m = is_named name (name_in (slice_get units m.component))

-- the one instance of a component that is not generic
abbrev pub single : List Loaded → List Made → Name → Option ℕ
single units made name = position_from (is_instance_of units name) 0 made

abbrev pub is_maker : ℕ → ℕ → Option Maker → Bool
is_maker instance line None = false
is_maker instance line (Some m) = (m.instance == instance) && (m.line == line)

-- the instance that a line made
abbrev pub made_at : List Made → (instance line : ℕ) → Option ℕ
made_at made instance line = position_from (λ (m : Made). is_maker instance line m.maker) 0 made

abbrev pub instance_named : Application → (instance line : ℕ) → Name → Option (List GenericArg) → Option ℕ
instance_named app instance line name None = single app.units app.made name
instance_named app instance line name (Some args) = made_at app.made instance line

-- the instances that names stand for
abbrev pub Scope : Type 0
Scope = Name → Option ℕ

abbrev pub with_name : Name → Option ℕ → Scope → Scope
with_name name None scope other = scope other
with_name name (Some instance) scope other = if bytes_eq other name then Some instance else scope other

-- the names in force behind a line
abbrev pub scope_behind : Application → (instance line : ℕ) → ConfLine → Scope → Scope
scope_behind app instance line (conf.Component name args alias pos) scope = with_name alias (instance_named app instance line name args) scope
scope_behind app instance line (conf.Link from to pos) scope = scope
scope_behind app instance line (conf.Equate a b pos) scope = scope
scope_behind app instance line (conf.Decl d) scope = scope

-- what a table of a file's elements says
abbrev pub places_in : Loaded → Scope
places_in u name = element_in (elems_of_unit u) name
