-- Trees of interfaces, components and files without the places of their tokens.
use Rattle.std.specs.Prelude.{ℕ, Bool, List, map, Option, option_map}
use Rattle.nesc_tree.specs.Plain as p
use Rattle.nesc_tree.specs.View.{spec_of}
use Rattle.nesc_tree.specs.declared.tree.TypeSpec.{TypeSpec}
use Rattle.nesc_tree.specs.declared.components.ConfLine as tree_line
use Rattle.nesc_tree.specs.declared.components.ConfLine.TheVariants as line
use Rattle.nesc_tree.specs.declared.components.Elem as tree_elem
use Rattle.nesc_tree.specs.declared.components.GenericArg as tree_arg
use Rattle.nesc_tree.specs.declared.components.GenericArg.TheVariants as given
use Rattle.nesc_tree.specs.declared.components.GenericParam as tree_param
use Rattle.nesc_tree.specs.declared.components.Head as tree_head
use Rattle.nesc_tree.specs.declared.components.Interface as tree_interface
use Rattle.nesc_tree.specs.declared.components.Part as tree_part
use Rattle.nesc_tree.specs.declared.components.Part.TheVariants as part
use Rattle.nesc_tree.specs.declared.components.Sig as tree_sig
use Rattle.nesc_tree.specs.declared.components.Unit as tree_unit
use Rattle.nesc_tree.specs.declared.components.WireEnd as tree_end
use Rattle.nesc_print_laws.specs.Placeless.{placeless_type}
use Rattle.nesc_print_laws.specs.Shapes.{Attr, Decl, Param, attr_shape, decl_shape, expr_shape, param_shape}

-- a command or event of an interface
pub record Sig : Type 0 where
  pub name : List ℕ
  pub is_event : Bool
  pub is_async : Bool
  pub result : p.TypeSpec
  pub params : List Param

pub record Interface : Type 0 where
  pub name : List ℕ
  pub type_params : List (List ℕ)
  pub items : List Sig
  pub attrs : List Attr

pub record GenericParam : Type 0 where
  pub name : List ℕ
  pub ty : Option p.TypeSpec

pub data GenericArg : Type 0 where
  ty : p.TypeSpec → GenericArg
  value : p.Expr → GenericArg

pub record Elem : Type 0 where
  pub provides : Bool
  pub iface : List ℕ
  pub args : List p.TypeSpec
  pub name : List ℕ
  pub param : Option p.TypeSpec

pub record WireEnd : Type 0 where
  pub first : List ℕ
  pub second : Option (List ℕ)
  pub param : Option p.Expr

pub data ConfLine : Type 0 where
  component : (name : List ℕ) (new_args : Option (List GenericArg)) (alias : List ℕ) → ConfLine
  link : (from to : WireEnd) → ConfLine
  equate : WireEnd → WireEnd → ConfLine
  decl : Decl → ConfLine

pub record Head : Type 0 where
  pub name : List ℕ
  pub generic : Option (List GenericParam)
  pub elems : List Elem
  pub attrs : List Attr

pub data Part : Type 0 where
  interface : Interface → Part
  module_of : Head → List Decl → Part
  config : Head → List ConfLine → Part
  header : Part

pub record File : Type 0 where
  pub decls : List Decl
  pub part : Part

-- ---- the shape of a tree

abbrev pub type_shape : TypeSpec → p.TypeSpec
type_shape t = placeless_type (spec_of t)

abbrev pub sig_shape : tree_sig.Sig → Sig
sig_shape x = record { name = x.name; is_event = x.is_event; is_async = x.is_async; result = type_shape x.result; params = map param_shape x.params }

abbrev pub interface_shape : tree_interface.Interface → Interface
interface_shape x = record { name = x.name; type_params = x.params; items = map sig_shape x.items; attrs = map attr_shape x.attrs }

abbrev pub generic_param_shape : tree_param.GenericParam → GenericParam
generic_param_shape x = record { name = x.name; ty = option_map type_shape x.ty }

abbrev pub generic_arg_shape : tree_arg.GenericArg → GenericArg
generic_arg_shape (given.Ty t) = GenericArg.ty (type_shape t)
generic_arg_shape (given.Value e) = GenericArg.value (expr_shape e)

abbrev pub elem_shape : tree_elem.Elem → Elem
elem_shape x = record { provides = x.provides; iface = x.iface; args = map type_shape x.args; name = x.name; param = option_map type_shape x.param }

abbrev pub end_shape : tree_end.WireEnd → WireEnd
end_shape x = record { first = x.first; second = x.second; param = option_map expr_shape x.param }

abbrev pub line_shape : tree_line.ConfLine → ConfLine
line_shape (line.Component name args alias at) = ConfLine.component name (option_map (map generic_arg_shape) args) alias
line_shape (line.Link from to at) = ConfLine.link (end_shape from) (end_shape to)
line_shape (line.Equate a b at) = ConfLine.equate (end_shape a) (end_shape b)
line_shape (line.Decl d) = ConfLine.decl (decl_shape d)

abbrev pub component_shape : tree_head.Head → Head
component_shape x = record { name = x.name; generic = option_map (map generic_param_shape) x.generic; elems = map elem_shape x.elems; attrs = map attr_shape x.attrs }

abbrev pub part_shape : tree_part.Part → Part
part_shape (part.Interface i) = Part.interface (interface_shape i)
part_shape (part.Module m) = Part.module_of (component_shape m.head) (map decl_shape m.decls)
part_shape (part.Config c) = Part.config (component_shape c.head) (map line_shape c.lines)
part_shape part.Header = Part.header

abbrev pub unit_shape : tree_unit.Unit → File
unit_shape u = record { decls = map decl_shape u.decls; part = part_shape u.part }
