-- What the heads of functions declare (C99, 6.7.5.3 and 6.9.1; the nesC 1.3 Reference, 5 and 6): types, parameters, and the line of a handler.
use Rattle.std.specs.Prelude.{ℕ, ℤ, pos, negsuc, nat_lt, Bool, true, false, ◌&&◌, if◌then◌else◌, List, [], ◌∷◌, ◌++◌, length, drop, codes, Option, Some, None, bytes_eq, Ok, Err}
use Rattle.std.specs.List.{filter, list_any}
use Rattle.nm_base.specs.declared.pos.Pos.{Pos}
use Rattle.nm_base.specs.declared.int_type.IntType.{IntType}
use Rattle.nm_base.specs.declared.int_type.IntType.TheVariants.{U8, U16}
use Rattle.nm_base.specs.declared.refusal.Refusal.TheVariants.{BadType, NotConstant}
use Rattle.nesc_core.specs.Parts.{same_int, same_type}
use Rattle.nesc_core.specs.Plain as core
use Rattle.nesc_core.specs.Plain.{Ty, void, int, pointer, array, struct}
use Rattle.nesc_tree.specs.Plain as s
use Rattle.nesc_tree.specs.declared.declarations.FuncKind.{FuncKind}
use Rattle.nesc_tree.specs.declared.declarations.FuncKind.TheVariants as kind
use Rattle.nesc_types.specs.Constant.{pos_of}
use Rattle.nesc_types.specs.Rule.{Rule, refuse}
use Rattle.nesc_types.specs.Values.{Constant}
use Rattle.elab_meaning.specs.Scope.{Entry, Env, Tag, Struct, local}
use Rattle.elab_meaning.specs.Elab.{Elab, by, ◌>>=◌, ◌>>◌, give, state, fresh, add_name}
use Rattle.elab_meaning.specs.Convert.{is_void, pointer_to}
use Rattle.elab_meaning.specs.Operators.{new_name}
use Rattle.elab_meaning.specs.Wired.{starred, dimensioned, is_const_at, base_of, lengths, type_of, whole_constant}
use Rattle.body_meaning.specs.Tree as tree
use Rattle.body_meaning.specs.Tree.{Attr, AttrArg, Head, Param, Stmt, MaybeStmt}
use Rattle.body_meaning.specs.Scopes.{opened, back_to}
use Rattle.body_meaning.specs.Stmts.{items, stmt, block_of}

-- what a head declares; the type of the parameter in its bracket stands by itself
pub record Form : Type 0 where
  pub kind : FuncKind
  pub is_async : Bool
  pub is_default : Bool
  pub bracket : Option IntType
  pub params : List Ty
  pub result : Ty

-- ---- whether two declarations agree

abbrev pub same_kind : FuncKind → FuncKind → Bool
same_kind kind.Plain kind.Plain = true
same_kind kind.Task kind.Task = true
same_kind kind.Command kind.Command = true
same_kind kind.Event kind.Event = true
same_kind _ _ = false

abbrev pub same_flag : Bool → Bool → Bool
same_flag true true = true
same_flag false false = true
same_flag _ _ = false

abbrev pub same_bracket : Option IntType → Option IntType → Bool
same_bracket (Some t) (Some u) = same_int t u
same_bracket None None = true
same_bracket _ _ = false

abbrev pub same_types : List Ty → List Ty → Bool
same_types [] [] = true
same_types (t ∷ ts) (u ∷ us) = same_type t u && same_types ts us
same_types _ _ = false

-- the parameters and the result
abbrev pub same_signature : Form → Form → Bool
same_signature f g = same_bracket f.bracket g.bracket && (same_types f.params g.params && same_type f.result g.result)

abbrev pub same_form : Form → Form → Bool
same_form f g =
    same_kind f.kind g.kind && (same_flag f.is_async g.is_async && (same_flag f.is_default g.is_default && same_signature f g))

-- ---- types of results and of parameters

-- nothing, a number or a pointer (own: functions neither take nor give arrays and structs)
abbrev pub resulting : Pos → Ty → Rule Ty
resulting at void = Ok void
resulting at (int t) = Ok (int t)
resulting at (pointer t) = Ok (pointer t)
resulting at (array t n) = refuse (BadType at)
resulting at (struct k) = refuse (BadType at)

pub record Passed : Type 0 where
  pub ty : Ty
  pub is_const : Bool

abbrev pub as_pointer : Rule Ty → Rule Passed
as_pointer (Ok t) = Ok (record { ty = t; is_const = false })
as_pointer (Err e) = Err e

-- an array is a pointer to its first element (C99, 6.7.5.3)
abbrev pub passed : List Struct → Pos → Ty → (is_const : Bool) → Rule Passed
passed structs at void is_const = refuse (BadType at)
passed structs at (int t) is_const = Ok (record { ty = int t; is_const = is_const })
passed structs at (pointer t) is_const = Ok (record { ty = pointer t; is_const = is_const })
passed structs at (array t n) is_const = as_pointer (pointer_to structs at t)
passed structs at (struct k) is_const = refuse (BadType at)

-- an unsigned number of 8 or 16 bits
abbrev pub of_bracket : Pos → Ty → Rule IntType
of_bracket at (int U8) = Ok U8
of_bracket at (int U16) = Ok U16
of_bracket at _ = refuse (BadType at)

-- ---- handlers

abbrev pub is_named : List ℕ → Attr → Bool
is_named name a = bytes_eq a.name name

-- what the attributes say of a line
pub data Vector : Type 0 where
  no_vector : Vector
  a_vector : s.Expr → Vector
  bad_vector : Vector

abbrev pub vector_arg : List AttrArg → Vector
vector_arg (tree.value e ∷ []) = a_vector e
vector_arg _ = bad_vector

abbrev pub only_vector : List Attr → Vector
only_vector [] = no_vector
only_vector (a ∷ []) = vector_arg a.args
only_vector (a ∷ b ∷ more) = bad_vector

-- one `@vector` with one number
abbrev pub vector_in : List Attr → Vector
vector_in attrs = only_vector (filter (is_named (codes "vector")) attrs)

abbrev pub is_interrupt : List Attr → Bool
is_interrupt attrs = list_any (is_named (codes "atomic_hwevent")) attrs

-- a function of a module without parameters and without a result
abbrev pub may_handle : (in_module : Bool) → Form → Bool
may_handle in_module f = in_module && (same_kind f.kind kind.Plain && (same_types f.params [] && is_void f.result))

-- where the line is given, of a handler alone; this is whether the function may be one
abbrev pub line_given : Pos → (is_interrupt may : Bool) → Vector → Rule (Option s.Expr)
line_given at false may no_vector = Ok None
line_given at false may (a_vector e) = refuse (BadType at)
line_given at false may bad_vector = refuse (BadType at)
line_given at true may no_vector = refuse (BadType at)
line_given at true true (a_vector e) = Ok (Some e)
line_given at true false (a_vector e) = refuse (BadType at)
line_given at true may bad_vector = refuse (BadType at)

abbrev pub line_number : Pos → ℤ → Rule ℕ
line_number at (pos n) = if nat_lt n 8 then Ok n else refuse (NotConstant at)
line_number at (negsuc n) = refuse (NotConstant at)

-- ---- heads

-- with the names and tags of the scope of its parameters
pub record Heading : Type 0 where
  pub form : Form
  pub names : List Entry
  pub tags : List Tag

abbrev pub no_locals : Elab (Unit {0})
no_locals = λ s. Ok (tt, record s { locals = [] })

abbrev pub named_parameter : Pos → (local : ℕ) → Passed → Option (List ℕ) → Elab (Unit {0})
named_parameter at k p None = give tt
named_parameter at k p (Some name) = do
  x ← state
  by (new_name at x.first_name x.names name)
  add_name name (local k p.ty p.is_const)

-- the next local; what is told of a parameter stands at the function's name
abbrev pub parameter : Pos → Passed → Option (List ℕ) → Elab (Unit {0})
parameter at p name = do
  k ← fresh p.ty
  named_parameter at k p name

module _ (env : Env) (values : List (Option Constant)) where
  abbrev pub passed_by : Pos → s.TypeSpec → Elab Passed
  passed_by at (s.type_spec base stars dims is_const) = do
    b ← base_of env values at base
    p ← starred at stars b
    ns ← lengths env values dims
    t ← dimensioned at p ns
    x ← state
    by (passed x.structs at t (is_const_at stars is_const b.is_const))

  -- from left to right
  abbrev pub parameters : Pos → List Param → Elab (List Ty)
  parameters at [] = give []
  parameters at (p ∷ ps) = do
    t ← passed_by at p.ty
    parameter at t p.name
    ts ← parameters at ps
    give (t.ty ∷ ts)

  abbrev pub bracket : Pos → Option Param → Elab (Option IntType)
  bracket at None = give None
  bracket at (Some p) = do
    t ← type_of env values at p.ty
    n ← by (of_bracket at t)
    parameter at (record { ty = int n; is_const = false }) p.name
    give (Some n)

  abbrev pub result : Pos → s.TypeSpec → Elab Ty
  result at spec = do
    t ← type_of env values at spec
    by (resulting at t)

  -- the parameters are the first locals, in a scope of their own
  abbrev pub heading : Head → Elab Heading
  heading h = do
    t ← result h.at h.result
    old ← state
    opened
    no_locals
    b ← bracket h.at h.bracket
    ps ← parameters h.at h.params
    x ← state
    back_to old
    give (record {
      form = record { kind = h.kind; is_async = h.is_async; is_default = h.is_default; bracket = b; params = ps; result = t };
      names = drop (length old.names) x.names;
      tags = drop (length old.tags) x.tags;
    })

  -- of a declaration without a body
  abbrev pub heading_alone : Head → Elab Heading
  heading_alone h = do
    g ← heading h
    no_locals
    give g

  -- ---- handlers

  abbrev pub line_at : Option s.Expr → Elab (Option ℕ)
  line_at None = give None
  line_at (Some e) = do
    c ← whole_constant env values e
    n ← by (line_number (pos_of e) c.1)
    give (Some n)

  abbrev pub line : (in_module : Bool) → Head → Form → Elab (Option ℕ)
  line in_module h f = do
    e ← by (line_given h.at (is_interrupt h.attrs) (may_handle in_module f) (vector_in h.attrs))
    line_at e

  -- ---- bodies

  -- the scope of the parameters is that of the outermost block
  abbrev pub within : Heading → Elab (Unit {0})
  within g = λ s. Ok (tt, record s { names = s.names ++ g.names; tags = s.tags ++ g.tags })

  abbrev pub outermost : (result : Ty) → Stmt → Elab core.Stmt
  outermost result (tree.block xs at) = do
    code ← items env values result xs
    give (block_of code)
  outermost result x = stmt env values result x

  abbrev pub code_of : Heading → Stmt → Elab core.Stmt
  code_of g body = do
    old ← state
    opened
    within g
    code ← outermost g.form.result body
    back_to old
    give code
