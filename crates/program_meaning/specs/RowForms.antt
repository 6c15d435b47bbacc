-- Forms of the worked rows: trees of declarations and statements, instances, and programs (own).
use Rattle.std.specs.Prelude.{ℕ, pos, Bool, true, false, List, [], ◌∷◌, Option, Some, None}
use Rattle.nm_base.specs.declared.int_type.IntType.{IntType}
use Rattle.nm_base.specs.declared.pos.Pos.{Pos}
use Rattle.nesc_core.specs.Plain as core
use Rattle.nesc_core.specs.Plain.{Ty, Body, Expr}
use Rattle.nesc_core.specs.View.{exprs, stmts}
use Rattle.nesc_tree.specs.Plain as s
use Rattle.nesc_tree.specs.declared.declarations.FuncKind.{FuncKind}
use Rattle.nesc_tree.specs.declared.declarations.FuncKind.TheVariants as kind
use Rattle.body_meaning.specs.Tree as tree
use Rattle.body_meaning.specs.Tree.{Init, Inits, no_inits, more_inits, Variable, Stmt, Stmts, no_stmts, more_stmts}
use Rattle.wire_targets.specs.declared.end.End.{End}
use Rattle.program_meaning.specs.Parts.{Elem, Instance, Interface, Sig}

-- ---- trees

abbrev pub place : (file line col : ℕ) → Pos
place file line col = record { file = file; line = line; col = col }

abbrev pub tree_exprs : List s.Expr → s.Exprs
tree_exprs [] = s.no_exprs
tree_exprs (e ∷ es) = s.more_exprs e (tree_exprs es)

abbrev pub plain : s.Base → s.TypeSpec
plain base = s.type_spec base 0 s.no_exprs false

abbrev pub inits : List Init → Inits
inits [] = no_inits
inits (i ∷ is) = more_inits i (inits is)

abbrev pub var : (stars : ℕ) → (name : List ℕ) → (dims : s.Exprs) → Option Init → Pos → Variable
var stars name dims init at = record { stars = stars; name = name; dims = dims; init = init; at = at }

abbrev pub simple : (name : List ℕ) → Option Init → Pos → Variable
simple name init at = var 0 name s.no_exprs init at

abbrev pub statements : List Stmt → Stmts
statements [] = no_stmts
statements (x ∷ xs) = more_stmts x (statements xs)

abbrev pub block : List Stmt → Pos → Stmt
block xs at = tree.block (statements xs) at

abbrev pub attr : List ℕ → List tree.AttrArg → tree.Attr
attr name args = record { name = name; args = args }

abbrev pub param : s.TypeSpec → Option (List ℕ) → tree.Param
param t name = record { ty = t; name = name }

abbrev pub head : FuncKind → (name : List ℕ) → Option (List ℕ) → Option tree.Param → (is_async is_default : Bool) → s.TypeSpec → List tree.Param → List tree.Attr → Pos → tree.Head
head k name item bracket is_async is_default result params attrs at = record {
  kind = k;
  name = name;
  item = item;
  bracket = bracket;
  is_async = is_async;
  is_default = is_default;
  result = result;
  params = params;
  attrs = attrs;
  at = at;
}

abbrev pub plain_head : (name : List ℕ) → s.TypeSpec → List tree.Param → List tree.Attr → Pos → tree.Head
plain_head name result params attrs at = head kind.Plain name None None false false result params attrs at

-- ---- interfaces, elements and instances

abbrev pub sig : (name : List ℕ) → (is_event is_async : Bool) → s.TypeSpec → List tree.Param → Pos → Sig
sig name is_event is_async result params at =
    record { name = name; is_event = is_event; is_async = is_async; result = result; params = params; at = at }

abbrev pub interface : List Sig → Interface
interface items = record { params = []; items = items }

-- an element without a parameter; these ends are reached
abbrev pub elem : (provides : Bool) → (name : List ℕ) → Interface → List End → Pos → Elem
elem provides name i ends at = record {
  provides = provides;
  name = name;
  interface = i;
  args = [];
  parameter = None;
  named = [];
  others = ends;
  at = at;
}

abbrev pub end : (instance element : ℕ) → End
end instance element = record { instance = instance; element = element; param = None }

abbrev pub end_at : (instance element value : ℕ) → End
end_at instance element value = record { instance = instance; element = element; param = Some value }

abbrev pub instance : (component : List ℕ) → List Elem → List tree.Decl → Instance
instance component elems decls =
    record { component = component; copy = None; given = []; elems = elems; uniques = []; decls = decls }

-- ---- what is expected

abbrev pub num : IntType → ℕ → Expr
num t n = core.const t (pos n)

abbrev pub code : List core.Stmt → core.Stmt
code xs = core.block (stmts xs)

abbrev pub out : ℕ → Expr → core.Stmt
out port e = core.eval (core.port_out port e)

abbrev pub calling : ℕ → List Expr → Pos → Expr
calling body arguments at = core.call body (exprs arguments) at

-- a function of a module, or an implementation of an item
abbrev pub function : (name : List ℕ) → (params : ℕ) → (locals : List Ty) → (result : Ty) → List core.Stmt → Body
function name params locals result xs = record {
  name = name;
  params = params;
  locals = locals;
  result = result;
  code = code xs;
  is_async = false;
  is_item = false;
}

abbrev pub item : (name : List ℕ) → (params : ℕ) → (locals : List Ty) → (result : Ty) → List core.Stmt → Body
item name params locals result xs = record (function name params locals result xs) { is_item = true }
