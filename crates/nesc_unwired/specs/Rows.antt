-- Worked rows: what is lacking in small modules, worked out by hand from their texts. A header declares `uint8_t` and `enum { N = 1 }`; a module
-- uses `Boot` and, with a parameter of 8 bits, `Get as G`, of which the wires name the value 1 alone.
use Rattle.std.specs.Prelude.{◌≡◌, ℕ, zero, suc, pos, Bool, true, false, List, [], ◌∷◌, ◌++◌, codes, Option, Some, None}
use Rattle.nm_base.specs.declared.int_type.IntType.TheVariants.{I16, U8}
use Rattle.nm_base.specs.declared.pos.Pos.{Pos}
use Rattle.nesc_core.specs.Plain.{int}
use Rattle.nesc_tree.specs.Plain as s
use Rattle.nesc_tree.specs.declared.tree.InOp.TheVariants as op
use Rattle.nesc_tree.specs.declared.declarations.FuncKind.{FuncKind}
use Rattle.nesc_tree.specs.declared.declarations.FuncKind.TheVariants as kind
use Rattle.elab_meaning.specs.Scope.{Env, type, constant}
use Rattle.elab_meaning.specs.Elab.{State}
use Rattle.body_meaning.specs.Tree as tree
use Rattle.body_meaning.specs.Tree.{Decl, Head, Param, Stmt, Stmts, Variable, no_stmts, more_stmts, no_stmt, some_stmt}
use Rattle.nesc_unwired.specs.Told.{Element, Item, Reach}
use Rattle.nesc_unwired.specs.Unwired.{unwired}

-- ---- trees, short: a place is a line and a column

abbrev pub at : (line col : ℕ) → Pos
at line col = record { file = 1; line = line; col = col }

abbrev pub plain : s.Base → s.TypeSpec
plain base = s.type_spec base 0 s.no_exprs false

abbrev pub byte : s.TypeSpec
byte = plain (s.named (codes "uint8_t"))

abbrev pub list : List Stmt → Stmts
list [] = no_stmts
list (x ∷ xs) = more_stmts x (list xs)

abbrev pub block : List Stmt → Stmt
block xs = tree.block (list xs) (at 0 0)

abbrev pub eval : s.Expr → Stmt
eval e = tree.eval e (at 0 0)

abbrev pub name : List ℕ → s.Expr
name n = s.name n (at 0 0)

abbrev pub number : List ℕ → s.Expr
number n = s.number n (at 0 0)

-- `call G.get[e]()`
abbrev pub get : s.Expr → Pos → s.Expr
get e place = s.call_item false (codes "G") (codes "get") (s.some_expr e) s.no_exprs place

abbrev pub var : List ℕ → Option s.Expr → Variable
var n None = record { stars = 0; name = n; dims = s.no_exprs; init = None; at = at 0 0 }
var n (Some e) = record { stars = 0; name = n; dims = s.no_exprs; init = Some (tree.one e); at = at 0 0 }

abbrev pub byte_named : List ℕ → Option s.Expr → Stmt
byte_named n e = tree.local (tree.variables byte false (var n e ∷ [])) (at 0 0)

abbrev pub function : FuncKind → (is_default : Bool) → (element : List ℕ) → Option (List ℕ) → Option Param → List Param → List Stmt → Decl
function k is_default element item bracket params xs =
    tree.function
    (record { kind = k; name = element; item = item; bracket = bracket; is_async = false; is_default = is_default; result = plain s.void; params = params; attrs = []; at = at 0 0 })
    (some_stmt (block xs))

abbrev pub prototype : FuncKind → (element : List ℕ) → Option (List ℕ) → Decl
prototype k element item =
    tree.function
    (record { kind = k; name = element; item = item; bracket = None; is_async = false; is_default = false; result = plain s.void; params = []; attrs = []; at = at 0 0 }) no_stmt

abbrev pub booted : List Stmt → Decl
booted xs = function kind.Event false (codes "Boot") (Some (codes "booted")) None [] xs

abbrev pub of_byte : List ℕ → Param
of_byte n = record { ty = byte; name = Some n }

-- `default command uint8_t G.get[uint8_t id]() { }`
abbrev pub default_get : Decl
default_get = function kind.Command true (codes "G") (Some (codes "get")) (Some (of_byte (codes "id"))) [] []

abbrev pub enum : List ℕ → s.Expr → Decl
enum n e = tree.type_only (plain (s.enum_of None (s.more_items n (s.some_expr e) (at 0 0) s.no_items))) (at 0 0)

-- ---- what is told

abbrev pub item : List ℕ → Bool → Item
item n is_event = record { name = n; is_event = is_event }

abbrev pub elements : List Element
elements =
    record { provides = false; name = codes "Boot"; parameter = None; items = item (codes "booted") true ∷ []; at = at 1 1 }
    ∷ record { provides = false; name = codes "G"; parameter = Some U8; items = item (codes "get") false ∷ []; at = at 1 2 }
    ∷ []

-- Get's value 1, and nothing else
abbrev pub reach : Reach
reach (suc zero) (Some (suc zero)) = true
reach _ _ = false

abbrev pub header : State
header = record {
  names = record { name = codes "uint8_t"; meaning = type (int U8) false } ∷ record { name = codes "N"; meaning = constant I16 (pos 1) } ∷ [];
  tags = [];
  first_name = 2;
  first_tag = 0;
  structs = [];
  locals = [];
  taken = [];
  asked = [];
}

abbrev pub env : Env
env = record { instance = 0; uniques = []; counts = []; items = []; first_dispatch = 0 }

abbrev pub told : List Element → List Decl → List Pos
told xs ds = unwired env (record { elements = xs; reach = reach; decls = ds }) header

abbrev pub answer : List Decl → List Pos
answer ds = told elements ds

-- of the body of `booted`
abbrev pub in_body : List Stmt → List Pos
in_body xs = answer (booted xs ∷ [])

abbrev pub here : List Pos
here = at 4 24 ∷ []

abbrev pub call_of : s.Expr → Stmt
call_of e = eval (get e (at 4 24))

-- ---- brackets

pub record BracketRows : Type 0 where
  pub par : in_body (eval (s.port_write (number (codes "0x0130")) (get (number (codes "3")) (at 4 24)) (at 4 5)) ∷ eval (s.port_write (number (codes "0x0130")) (get (number (codes "1")) (at 5 24)) (at 5 5)) ∷ []) ≡ here
  pub par_with_default : answer (default_get ∷ booted (call_of (number (codes "3")) ∷ eval (get (number (codes "1")) (at 5 24)) ∷ []) ∷ []) ≡ []
  pub wrapped_to_a_byte : in_body (call_of (number (codes "257")) ∷ []) ≡ []
  pub header_constant : in_body (call_of (name (codes "N")) ∷ []) ≡ []
  pub local_hides_it : in_body (byte_named (codes "N") None ∷ call_of (name (codes "N")) ∷ []) ≡ here
  pub hidden_behind_alone : in_body (call_of (name (codes "N")) ∷ byte_named (codes "N") None ∷ []) ≡ []
  pub inner_block_ends : in_body (block (byte_named (codes "N") None ∷ []) ∷ call_of (name (codes "N")) ∷ []) ≡ []
  pub in_the_inner_block : in_body (block (byte_named (codes "N") None ∷ call_of (name (codes "N")) ∷ []) ∷ []) ≡ here
  pub in_its_own_initialiser : in_body (byte_named (codes "N") (Some (get (name (codes "N")) (at 4 24))) ∷ []) ≡ here
  pub parameter_hides_it : answer (function kind.Plain false (codes "f") None None (of_byte (codes "N") ∷ []) (call_of (name (codes "N")) ∷ []) ∷ booted [] ∷ []) ≡ here
  pub bracket_parameter_hides_it : answer (function kind.Command true (codes "G") (Some (codes "other")) (Some (of_byte (codes "N"))) [] (call_of (name (codes "N")) ∷ []) ∷ booted [] ∷ []) ≡ here
  pub variable_of_the_module : answer (tree.variables byte false (var (codes "N") None ∷ []) ∷ booted (call_of (name (codes "N")) ∷ []) ∷ []) ≡ here
  pub function_of_the_module : answer (function kind.Plain false (codes "N") None None [] [] ∷ booted (call_of (name (codes "N")) ∷ []) ∷ []) ≡ here
  pub declared_in_the_module : answer (enum (codes "M") (s.binary op.Sub (number (codes "3")) (number (codes "2")) (at 0 0)) ∷ booted (call_of (name (codes "M")) ∷ []) ∷ []) ≡ []
  pub another_value : answer (enum (codes "M") (number (codes "3")) ∷ booted (call_of (name (codes "M")) ∷ []) ∷ []) ≡ here
  pub declared_in_the_body : in_body (tree.local (enum (codes "M") (name (codes "N"))) (at 0 0) ∷ call_of (name (codes "M")) ∷ []) ≡ []
  pub refused_declaration : in_body (tree.local (tree.variables (plain (s.named (codes "none_t"))) false (var (codes "N") None ∷ [])) (at 0 0) ∷ call_of (name (codes "N")) ∷ []) ≡ here
  pub no_constant_needs_a_default : answer (default_get ∷ booted (byte_named (codes "x") None ∷ call_of (name (codes "x")) ∷ []) ∷ []) ≡ []
  pub zero_divisor : in_body (call_of (s.binary op.Div (number (codes "1")) (number (codes "0")) (at 0 0)) ∷ []) ≡ here
  pub size_of_a_type : in_body (call_of (s.size_of_type byte (at 0 0)) ∷ []) ≡ []
  pub size_of_a_local : in_body (byte_named (codes "x") None ∷ call_of (s.size_of_expr (name (codes "x")) (at 0 0)) ∷ []) ≡ []

-- ---- the order of the text, and what is looked at

-- `for (uint8_t N; ; ) { }`
abbrev pub counting : Stmt → Stmt
counting x = tree.for (tree.declared byte (var (codes "N") None ∷ [])) s.no_expr s.no_expr x (at 0 0)

abbrev pub bare : List ℕ → List ℕ → Pos → s.Expr
bare element item_name place = s.call_item false element item_name s.no_expr s.no_exprs place

-- an element without a parameter, of which no wire leads anywhere
abbrev pub lone : (provides is_event : Bool) → Element
lone provides is_event = record { provides = provides; name = codes "L"; parameter = None; items = item (codes "go") is_event ∷ []; at = at 1 3 }

abbrev pub with_lone : (provides is_event : Bool) → List Stmt → List Pos
with_lone provides is_event xs = told (elements ++ lone provides is_event ∷ []) (booted xs ∷ [])

pub record OrderRows : Type 0 where
  pub outer_before_inner : in_body (eval (s.call_item false (codes "G") (codes "get") (s.some_expr (number (codes "2"))) (s.more_exprs (get (number (codes "3")) (at 4 30)) s.no_exprs) (at 4 24)) ∷ []) ≡ at 4 24 ∷ at 4 30 ∷ []
  pub in_a_bracket : in_body (call_of (get (number (codes "1")) (at 4 31)) ∷ []) ≡ here
  pub body_before_its_test : in_body (tree.do_while (call_of (number (codes "2"))) (get (number (codes "3")) (at 5 9)) (at 4 1) ∷ []) ≡ at 4 24 ∷ at 5 9 ∷ []
  pub test_before_its_body : in_body (tree.while (get (number (codes "3")) (at 4 9)) (call_of (number (codes "2"))) (at 4 1) ∷ []) ≡ at 4 9 ∷ at 4 24 ∷ []
  pub in_the_loop : in_body (counting (call_of (name (codes "N"))) ∷ []) ≡ here
  pub behind_the_loop : in_body (counting (block []) ∷ call_of (name (codes "N")) ∷ []) ≡ []
  pub a_result : in_body (tree.return (s.some_expr (get (number (codes "2")) (at 4 24))) (at 4 1) ∷ []) ≡ here
  pub two_functions : answer (function kind.Plain false (codes "f") None None [] (eval (get (number (codes "2")) (at 2 9)) ∷ []) ∷ booted (call_of (number (codes "2")) ∷ []) ∷ []) ≡ at 2 9 ∷ at 4 24 ∷ []
  pub an_initial_value : answer (tree.variables byte false (var (codes "x") (Some (get (number (codes "2")) (at 3 9))) ∷ []) ∷ booted [] ∷ []) ≡ at 3 9 ∷ []
  pub unknown_element : in_body (eval (bare (codes "H") (codes "get") (at 4 24)) ∷ []) ≡ []
  pub unknown_item : in_body (eval (bare (codes "G") (codes "put") (at 4 24)) ∷ []) ≡ []
  pub no_bracket_where_one_is_due : in_body (eval (bare (codes "G") (codes "get") (at 4 24)) ∷ []) ≡ []
  pub signalled_as_an_event : in_body (eval (s.call_item true (codes "G") (codes "get") (s.some_expr (number (codes "2"))) s.no_exprs (at 4 24)) ∷ []) ≡ []
  pub called_without_a_wire : with_lone false false (eval (bare (codes "L") (codes "go") (at 4 24)) ∷ []) ≡ here
  pub signalled_without_a_wire : with_lone true true (eval (s.call_item true (codes "L") (codes "go") s.no_expr s.no_exprs (at 4 24)) ∷ []) ≡ here

-- ---- items that a module lacks

pub record ItemRows : Type 0 where
  pub event_of_a_used_interface : answer [] ≡ at 1 1 ∷ []
  pub command_of_a_provided_one : with_lone true false [] ≡ at 1 3 ∷ []
  pub not_those_that_come_out : with_lone false false [] ≡ []
  pub the_specification_first : told (elements ++ lone true false ∷ []) (booted (call_of (number (codes "2")) ∷ []) ∷ []) ≡ at 1 3 ∷ at 4 24 ∷ []
  pub of_the_wrong_kind : answer (function kind.Command false (codes "Boot") (Some (codes "booted")) None [] [] ∷ []) ≡ []
  pub a_default_is_none : answer (function kind.Event true (codes "Boot") (Some (codes "booted")) None [] [] ∷ []) ≡ at 1 1 ∷ []
  pub a_prototype_is_none : answer (prototype kind.Event (codes "Boot") (Some (codes "booted")) ∷ []) ≡ at 1 1 ∷ []
  pub another_item : answer (function kind.Event false (codes "Boot") (Some (codes "other")) None [] [] ∷ []) ≡ at 1 1 ∷ []
