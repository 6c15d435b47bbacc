-- What elaboration is given (nesC 1.3 Reference): the declarations of headers and modules as trees, the instances of modules, and what
-- their wires reach.
use Rattle.std.specs.Prelude.{ℕ, Bool, List, Option}
use Rattle.nm_base.specs.declared.int_type.IntType.{IntType}
use Rattle.nm_base.specs.declared.pos.Pos.{Pos}
use Rattle.nesc_core.specs.Plain.{Ty}
use Rattle.nesc_tree.specs.Plain.{TypeSpec}
use Rattle.nesc_types.specs.Values.{Constant}
use Rattle.wire_targets.specs.declared.end.End.{End}
use Rattle.elab_meaning.specs.Scope.{Struct, Unique, UniqueCount}
use Rattle.body_meaning.specs.Tree as tree
use Rattle.body_meaning.specs.Tree.{Decl}

-- a command or event of an interface, at its name
pub record Sig : Type 0 where
  pub name : List ℕ
  pub is_event : Bool
  pub is_async : Bool
  pub result : TypeSpec
  pub params : List tree.Param
  pub at : Pos

-- the names of its type parameters, and its items
pub record Interface : Type 0 where
  pub params : List (List ℕ)
  pub items : List Sig

-- the ends that paths of wires reach where a call names the value, in order
pub record Wired : Type 0 where
  pub value : ℕ
  pub ends : List End

-- An interface that a module provides or uses, with the arguments of its type parameters, and the type of the parameter in its
-- bracket. Told of the wires: the ends that are reached for each value that a wire names, and for all others
pub record Elem : Type 0 where
  pub provides : Bool
  pub name : List ℕ
  pub interface : Interface
  pub args : List TypeSpec
  pub parameter : Option IntType
  pub named : List Wired
  pub others : List End
  pub at : Pos

-- what a generic component's parameter stands for
pub data Argument : Type 0 where
  a_type : Ty → (is_const : Bool) → Argument
  a_constant : Constant → Argument

pub record Given : Type 0 where
  pub name : List ℕ
  pub argument : Argument

-- An instance of a module; that of a configuration has neither elements nor declarations. The copy is its number among the instances of
-- a generic component
pub record Instance : Type 0 where
  pub component : List ℕ
  pub copy : Option ℕ
  pub given : List Given
  pub elems : List Elem
  pub uniques : List Unique
  pub decls : List Decl

-- the declarations of headers in reading order, the numbers of `unique` in them, and how often each text is used; and the structs that were
-- met behind those of headers where types stand in wires, in the order in which their definitions ended. What is given to instances, and
-- the fields of these structs, name structs by that order: those that headers declare outside functions, and then these
pub record Application : Type 0 where
  pub headers : List Decl
  pub uniques : List Unique
  pub counts : List UniqueCount
  pub structs : List Struct
  pub instances : List Instance
