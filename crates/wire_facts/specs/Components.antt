-- Components as far as types and constants stand in them, as plain data (own).
use Rattle.std.specs.Prelude.{ℕ, List, [], map, Option, Some, None, option_map}
use Rattle.nm_base.specs.declared.pos.Pos.{Pos}
use Rattle.nesc_tree.specs.declared.components.Head.{Head}
use Rattle.nesc_tree.specs.declared.components.Elem as elem
use Rattle.nesc_tree.specs.declared.components.GenericParam as param
use Rattle.nesc_tree.specs.declared.components.GenericArg as arg
use Rattle.nesc_tree.specs.declared.components.GenericArg.TheVariants as a
use Rattle.nesc_tree.specs.declared.components.ConfLine.{ConfLine}
use Rattle.nesc_tree.specs.declared.components.ConfLine.TheVariants as conf
use Rattle.nesc_tree.specs.Plain.{Expr, MaybeExpr, TypeSpec}
use Rattle.nesc_tree.specs.View.{expr_of, spec_of}
use Rattle.body_meaning.specs.Tree.{Decl}
use Rattle.body_meaning.specs.View.{decl_of, maybe_of}
use Rattle.wire_units.specs.declared.loaded.Loaded.{Loaded}
use Rattle.wire_units.specs.Units.{head_of, lines_in}

-- a parameter of a generic component; a type parameter has no type
pub record Param : Type 0 where
  pub name : List ℕ
  pub ty : Option TypeSpec

-- what is given for one
pub data Arg : Type 0 where
  of_type : TypeSpec → Arg
  of_value : Expr → Arg

-- an element of a specification: its type arguments, and the type of its bracket's parameter
pub record Element : Type 0 where
  pub name : List ℕ
  pub args : List TypeSpec
  pub param : Option TypeSpec
  pub at : Pos

-- a line of a configuration: the name of an instance, with arguments behind `new`; a wire with the brackets of its ends; a declaration
pub data Line : Type 0 where
  names_instance : Option (List Arg) → (name : List ℕ) → Pos → Line
  wire : (from to : MaybeExpr) → Pos → Line
  declares : Decl → Line

-- what a file holds; its component's name stands at a place
pub record Component : Type 0 where
  pub decls : List Decl
  pub generic : Option (List Param)
  pub elements : List Element
  pub lines : List Line
  pub at : Pos

-- ---- the trees seen so

abbrev pub param_of : param.GenericParam → Param
param_of p = record { name = p.name; ty = option_map spec_of p.ty }

abbrev pub arg_of : arg.GenericArg → Arg
arg_of (a.Ty t) = of_type (spec_of t)
arg_of (a.Value e) = of_value (expr_of e)

abbrev pub element_of : elem.Elem → Element
element_of e = record { name = e.name; args = map spec_of e.args; param = option_map spec_of e.param; at = e.pos }

abbrev pub line_of : ConfLine → Line
line_of (conf.Component name args alias pos) = names_instance (option_map (map arg_of) args) alias pos
line_of (conf.Link from to pos) = wire (maybe_of from.param) (maybe_of to.param) pos
line_of (conf.Equate x y pos) = wire (maybe_of x.param) (maybe_of y.param) pos
line_of (conf.Decl d) = declares (decl_of d)

abbrev pub generic_in : Option Head → Option (List Param)
generic_in None = None
generic_in (Some h) = option_map (map param_of) h.generic

abbrev pub elements_in : Option Head → List Element
elements_in None = []
elements_in (Some h) = map element_of h.elems

abbrev pub component_of : Loaded → Component
component_of u = record {
  decls = map decl_of u.unit.decls;
  generic = generic_in (head_of u.unit.part);
  elements = elements_in (head_of u.unit.part);
  lines = map line_of (lines_in u.unit.part);
  at = u.at;
}

abbrev pub components_of : List Loaded → List Component
components_of units = map component_of units
