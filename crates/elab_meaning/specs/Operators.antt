-- Operators, names and types: rules that look at no state (C99, 6.5 and 6.7; own where C leaves it open).
use Rattle.std.specs.Prelude.{ℕ, ℤ, pos, negsuc, zero, suc, nat_eq, nat_lt, nat_le, int_le, Bool, true, false, if◌then◌else◌, List, [], ◌∷◌, ◌++◌, length, drop, slice_get, slice_index_or, Option, Some, None, Ok}
use Rattle.nm_base.specs.declared.pos.Pos.{Pos}
use Rattle.nm_base.specs.declared.int_type.IntType.{IntType}
use Rattle.nm_base.specs.declared.int_type.IntType.TheVariants.{U8, I16, U16, I32}
use Rattle.nm_base.specs.IntType.{least}
use Rattle.nm_base.specs.declared.refusal.Refusal.TheVariants.{BadType, UnknownName, DuplicateName, ArgumentMismatch, NotConstant}
use Rattle.nesc_core.specs.declared.tree.UnOp.TheVariants as un_op
use Rattle.nesc_core.specs.declared.tree.BinOp.{BinOp}
use Rattle.nesc_core.specs.declared.tree.BinOp.TheVariants as bin_op
use Rattle.nesc_core.specs.declared.layout.Layout.{Layout}
use Rattle.nesc_core.specs.Plain as core
use Rattle.nesc_core.specs.Plain.{Ty, Expr, Exprs, Place, Field, void, int, pointer, array, struct}
use Rattle.nesc_core.specs.Size.{layout, with_field, struct_of_fields}
use Rattle.nesc_core.specs.Typing.{is_port}
use Rattle.nesc_tree.specs.declared.tree.PostOp.{PostOp}
use Rattle.nesc_tree.specs.declared.tree.PostOp.TheVariants as post
use Rattle.nesc_tree.specs.declared.tree.InOp.{InOp}
use Rattle.nesc_tree.specs.declared.tree.InOp.TheVariants as op
use Rattle.nesc_tree.specs.Plain as s
use Rattle.nesc_types.specs.Conversions.{promoted, common}
use Rattle.nesc_types.specs.Constant.{pos_of}
use Rattle.nesc_types.specs.Literals.{candidates, first_holding}
use Rattle.nesc_types.specs.Rule.{Rule, ◌>>=◌, refuse, or_refuse}
use Rattle.nesc_types.specs.Values.{Constant}
use Rattle.elab_meaning.specs.Scope.{Entry, Struct, Kind, a_struct, an_enum, Item, Meaning, object, local, function, task, constant, type, lookup, in_scope, tag_in_scope, field_from, has_field, Tag}
use Rattle.elab_meaning.specs.Convert.{Typed, typed, Found, a_place, a_value, a_copy, value_found, Target, small, layout_in, size, size_behind, to_int, int_of, integer, integers, pointed, stride, pointed_by_both, struct_number, is_void, scalar, converted, assignable}

-- ---- constants and names

abbrev pub const_of : Constant → Found
const_of x = value_found (core.const x.0 x.1) (int x.0)

-- of a literal that some type holds
abbrev pub literal : Pos → Option Constant → Rule Found
literal at None = refuse (BadType at)
literal at (Some x) = Ok (const_of x)

-- a number as the decimal literal that spells it
abbrev pub with_type : ℕ → Option IntType → Option Constant
with_type n None = None
with_type n (Some t) = Some (t, pos n)

abbrev pub decimal : ℕ → Option Constant
decimal n = with_type n (first_holding n (candidates true false false))

abbrev pub fits_literal : Pos → Option Constant → Rule Constant
fits_literal at x = or_refuse (BadType at) x

-- the number of a use of `unique` or `uniqueCount`
abbrev pub counted : Pos → Option ℕ → Rule Constant
counted at None = refuse (NotConstant at)
counted at (Some n) = fits_literal at (decimal n)

-- `sizeof`
abbrev pub sized : List Struct → Pos → Ty → Rule Constant
sized structs at t = do
  n ← size structs at t
  Ok (U16, pos n)

abbrev pub meant : Pos → Meaning → Rule Found
meant at (object k t is_const) = Ok (a_place (core.object k) [] t is_const)
meant at (local x t is_const) = Ok (a_place (core.local x) [] t is_const)
meant at (constant t n) = Ok (const_of (t, n))
meant at (function body params result) = refuse (BadType at)
meant at (task k) = refuse (BadType at)
meant at (type t is_const) = refuse (BadType at)

abbrev pub named : Pos → Option Meaning → Rule Found
named at (Some m) = meant at m
named at None = refuse (UnknownName at)

abbrev pub meant_in_constant : (whole : Pos) → Meaning → Rule Constant
meant_in_constant whole (constant t n) = Ok (t, n)
meant_in_constant whole _ = refuse (NotConstant whole)

-- a name in a constant; the whole constant is refused
abbrev pub constant_named : (whole at : Pos) → Option Meaning → Rule Constant
constant_named whole at (Some m) = meant_in_constant whole m
constant_named whole at None = refuse (UnknownName at)

-- a port: 0x0100, 0x0102, or an even number from 0x0120 to 0x015E
abbrev pub port : Pos → ℤ → Rule ℕ
port at (pos n) = if is_port n then Ok n else refuse (NotConstant at)
port at (negsuc n) = refuse (NotConstant at)

-- ---- arithmetic (C99, 6.5.3.3, 6.5.5 to 6.5.7, 6.5.10 to 6.5.12)

-- two numbers at their common type
abbrev pub at_common : BinOp → (a b : IntType) → Expr → Expr → Expr
at_common o a b x y = core.bin o (common a b) (to_int (common a b) a x) (to_int (common a b) b y)

abbrev pub promoted_value : IntType → Expr → Expr
promoted_value t e = to_int (promoted t) t e

abbrev pub arithmetic : BinOp → Pos → Typed → Typed → Rule Found
arithmetic o at x y = do
  ts ← integers at x.ty y.ty
  Ok (value_found (at_common o ts.0 ts.1 x.expr y.expr) (int (common ts.0 ts.1)))

-- each at its own promoted type
abbrev pub at_promoted : BinOp → (a b : IntType) → Expr → Expr → Expr
at_promoted o a b x y = core.bin o (promoted a) (promoted_value a x) (promoted_value b y)

abbrev pub shifted : BinOp → Pos → Typed → Typed → Rule Found
shifted o at x y = do
  ts ← integers at x.ty y.ty
  Ok (value_found (at_promoted o ts.0 ts.1 x.expr y.expr) (int (promoted ts.0)))

abbrev pub plus : Pos → Typed → Rule Found
plus at v = do
  t ← integer at v.ty
  Ok (value_found (promoted_value t v.expr) (int (promoted t)))

abbrev pub negated : IntType → Expr → Expr
negated t e = core.un un_op.Neg (promoted t) (promoted_value t e)

abbrev pub minus : Pos → Typed → Rule Found
minus at v = do
  t ← integer at v.ty
  Ok (value_found (negated t v.expr) (int (promoted t)))

abbrev pub complement : Pos → Typed → Rule Found
complement at v = do
  t ← integer at v.ty
  Ok (value_found (core.un un_op.Not (promoted t) (promoted_value t v.expr)) (int (promoted t)))

-- a pointer as its address
abbrev pub address : Expr → Expr
address e = core.convert U16 e

-- a number or, by its address, a pointer
abbrev pub zero_test : Option IntType → Expr → Expr
zero_test (Some t) e = core.un un_op.IsZero t e
zero_test None e = core.un un_op.IsZero U16 (address e)

-- `!`
abbrev pub is_zero : Pos → Typed → Rule Found
is_zero at v = do
  e ← scalar at v
  Ok (value_found (zero_test (int_of v.ty) e) (int I16))

-- ---- pointers (C99, 6.5.6)

abbrev pub offset : List Struct → Pos → Expr → Expr → Ty → Rule Expr
offset structs at p i t = do
  n ← size_behind structs at t
  Ok (core.offset p i n)

-- what two pointers of one type point to
abbrev pub pointed_together : Pos → Ty → Ty → Rule Ty
pointed_together at t u = do
  v ← pointed at t
  w ← pointed at u
  pointed_by_both at v w

-- p + i
abbrev pub moved : List Struct → Pos → Typed → Typed → Rule Found
moved structs at x y = do
  b ← integer at y.ty
  s ← stride structs at x.ty
  Ok (value_found (core.offset x.expr y.expr s.bytes) (pointer s.part))

-- p - i
abbrev pub moved_back : List Struct → Pos → Ty → IntType → Expr → Expr → Rule Found
moved_back structs at t b x y = do
  e ← offset structs at x (negated b y) t
  Ok (value_found e (pointer t))

-- the size of what two pointers point to, of which the first points to t
abbrev pub apart : List Struct → Pos → (t u : Ty) → Rule ℕ
apart structs at t u = do
  v ← pointed at u
  w ← pointed_by_both at t v
  size_behind structs at w

-- p - q
abbrev pub distance : List Struct → Pos → Ty → Expr → Typed → Rule Found
distance structs at t x y = do
  n ← apart structs at t y.ty
  Ok (value_found (core.distance x y.expr n) (int I16))

abbrev pub subtracted_from : List Struct → Pos → Expr → Typed → Option IntType → Ty → Rule Found
subtracted_from structs at x y (Some b) t = moved_back structs at t b x y.expr
subtracted_from structs at x y None t = distance structs at t x y

-- `-`, of two numbers, a pointer and a number, or two pointers
abbrev pub subtracted_by : List Struct → Pos → Typed → Typed → Option IntType → Rule Found
subtracted_by structs at x y (Some a) = arithmetic bin_op.Sub at x y
subtracted_by structs at x y None = do
  t ← pointed at x.ty
  subtracted_from structs at x.expr y (int_of y.ty) t

abbrev pub subtracted : List Struct → Pos → Typed → Typed → Rule Found
subtracted structs at x y = subtracted_by structs at x y (int_of x.ty)

-- ---- comparisons (C99, 6.5.8 and 6.5.9)

-- what is compared, at one type
pub record Sides : Type 0 where
  pub at_type : IntType
  pub first : Expr
  pub second : Expr

abbrev pub compared_numbers : (a b : IntType) → Expr → Expr → Sides
compared_numbers a b x y = record { at_type = common a b; first = to_int (common a b) a x; second = to_int (common a b) b y }

abbrev pub compared_pointers : Expr → Expr → Sides
compared_pointers x y = record { at_type = U16; first = address x; second = address y }

abbrev pub comparable_by : Pos → Typed → Typed → Option IntType → Rule Sides
comparable_by at x y (Some a) = do
  b ← integer at y.ty
  Ok (compared_numbers a b x.expr y.expr)
comparable_by at x y None = do
  t ← pointed_together at x.ty y.ty
  Ok (compared_pointers x.expr y.expr)

-- two numbers, or two pointers of one type
abbrev pub comparable : Pos → Typed → Typed → Rule Sides
comparable at x y = comparable_by at x y (int_of x.ty)

abbrev pub compared : BinOp → Pos → Typed → Typed → Rule Found
compared o at x y = do
  c ← comparable at x y
  Ok (value_found (core.bin o c.at_type c.first c.second) (int I16))

-- ---- logical operators, choice and comma (C99, 6.5.13 to 6.5.15 and 6.5.17)

abbrev pub both : Pos → Typed → Typed → Rule Found
both at x y = do
  a ← scalar at x
  b ← scalar at y
  Ok (value_found (core.both a b) (int I16))

abbrev pub either : Pos → Typed → Typed → Rule Found
either at x y = do
  a ← scalar at x
  b ← scalar at y
  Ok (value_found (core.either a b) (int I16))

abbrev pub chosen_numbers : Pos → (test : Expr) → IntType → Expr → Typed → Rule Found
chosen_numbers at test a y z = do
  b ← integer at z.ty
  Ok (value_found (core.choice test (to_int (common a b) a y) (to_int (common a b) b z.expr)) (int (common a b)))

abbrev pub chosen_voids : Pos → (test : Expr) → Expr → Typed → Rule Found
chosen_voids at test y z = if is_void z.ty then Ok (value_found (core.choice test y z.expr) void) else refuse (BadType at)

abbrev pub chosen_pointers : Pos → (test : Expr) → Typed → Typed → Rule Found
chosen_pointers at test y z = do
  t ← pointed_together at y.ty z.ty
  Ok (value_found (core.choice test y.expr z.expr) (pointer t))

-- two numbers at their common type, two voids, or two pointers of one type
abbrev pub chosen_by : Pos → (test : Expr) → Typed → Typed → Option IntType → Rule Found
chosen_by at test y z (Some a) = chosen_numbers at test a y.expr z
chosen_by at test y z None = if is_void y.ty then chosen_voids at test y.expr z else chosen_pointers at test y z

abbrev pub chosen : Pos → Typed → Typed → Typed → Rule Found
chosen at x y z = do
  test ← scalar at x
  chosen_by at test y z (int_of y.ty)

abbrev pub comma : Typed → Typed → Found
comma x y = value_found (core.comma x.expr y.expr) y.ty

-- ---- places (C99, 6.5.2.1, 6.5.2.3 and 6.5.3.2)

-- what is behind a pointer is never const (own)
abbrev pub behind : Expr → Ty → Found
behind p t = a_place (core.deref p t) [] t false

abbrev pub dereferenced : List Struct → Pos → Typed → Rule Found
dereferenced structs at v = do
  t ← pointed at v.ty
  n ← size_behind structs at t
  Ok (behind v.expr t)

-- an element of what a pointer points to
abbrev pub element_behind : List Struct → Pos → Typed → Typed → Rule Found
element_behind structs at v i = do
  b ← integer at i.ty
  s ← stride structs at v.ty
  Ok (behind (core.offset v.expr i.expr s.bytes) s.part)

abbrev pub element_of : Pos → Place → List IntType → (part : Ty) → (is_const : Bool) → Typed → Rule Found
element_of at p types t is_const i = do
  b ← integer at i.ty
  Ok (a_place (core.index p i.expr) (b ∷ types) t is_const)

pub record FieldFound : Type 0 where
  pub number : ℕ
  pub ty : Ty
  pub is_const : Bool

abbrev pub numbered : ℕ → Ty → Rule (ℕ × Ty)
numbered k t = Ok (k, t)

abbrev pub field_named : Pos → Option (ℕ × Ty) → Rule (ℕ × Ty)
field_named at f = or_refuse (UnknownName at) f

abbrev pub field_in : Pos → Struct → List ℕ → Rule FieldFound
field_in at s name = do
  f ← field_named at (field_from 0 s.fields name)
  Ok (record { number = f.0; ty = f.1; is_const = slice_index_or s.consts f.0 false })

abbrev pub field_of : Pos → Option Struct → List ℕ → Rule FieldFound
field_of at None name = refuse (BadType at)
field_of at (Some s) name = field_in at s name

abbrev pub field_at : List Struct → Pos → List ℕ → Option ℕ → Rule FieldFound
field_at structs at name None = refuse (BadType at)
field_at structs at name (Some k) = field_of at (slice_get structs k) name

abbrev pub is_either : Bool → Bool → Bool
is_either true b = true
is_either false b = b

-- `e.f`, as const as e or f
abbrev pub member_of : List Struct → Pos → Place → List IntType → Ty → (is_const : Bool) → List ℕ → Rule Found
member_of structs at p types t is_const name = do
  f ← field_at structs at name (struct_number t)
  Ok (a_place (core.field p f.number) types f.ty (is_either is_const f.is_const))

abbrev pub member : List Struct → Pos → Found → List ℕ → Rule Found
member structs at (a_place p types t is_const) name = member_of structs at p types t is_const name
member structs at (a_value v) name = refuse (BadType at)
member structs at (a_copy steps p k) name = refuse (BadType at)

-- `e->f`
abbrev pub member_behind : List Struct → Pos → Typed → List ℕ → Rule Found
member_behind structs at v name = do
  t ← pointed at v.ty
  member_of structs at (core.deref v.expr t) [] t false name

-- ---- assignments (C99, 6.5.16, 6.5.2.4 and 6.5.3.1)

abbrev pub assigned : (at at_value : Pos) → Target → Typed → Rule Found
assigned at at_value p v = do
  e ← converted at_value p.ty v
  Ok (value_found (core.assign p.place e at) p.ty)

-- how many bytes a pointer moves for a count
abbrev pub bytes_of : IntType → Expr → (size : ℕ) → Expr
bytes_of b e n = core.bin bin_op.Mul U16 (to_int U16 b e) (core.const U16 (pos n))

abbrev pub update_found : Pos → (gives_old : Bool) → BinOp → IntType → Place → Expr → Ty → Rule Found
update_found at gives_old o t p e ty = Ok (value_found (core.update p o t e gives_old at) ty)

abbrev pub updated_at_common : BinOp → Pos → (gives_old : Bool) → Place → Typed → IntType → Rule Found
updated_at_common o at gives_old p v a = do
  b ← integer at v.ty
  update_found at gives_old o (common a b) p (to_int (common a b) b v.expr) (int a)

abbrev pub number_updated : BinOp → Pos → (gives_old : Bool) → Target → Typed → Rule Found
number_updated o at gives_old p v = do
  a ← integer at p.ty
  updated_at_common o at gives_old p.place v a

-- at the promoted left type
abbrev pub shift_updated : BinOp → Pos → (gives_old : Bool) → Target → Typed → Rule Found
shift_updated o at gives_old p v = do
  ts ← integers at p.ty v.ty
  update_found at gives_old o (promoted ts.0) p.place (promoted_value ts.1 v.expr) (int ts.0)

-- `+` and `-`, where the place may hold a pointer, which is updated as a number
abbrev pub step_updated_by : List Struct → BinOp → Pos → (gives_old : Bool) → Target → Typed → Option IntType → Rule Found
step_updated_by structs o at gives_old p v (Some a) = updated_at_common o at gives_old p.place v a
step_updated_by structs o at gives_old p v None = do
  b ← integer at v.ty
  s ← stride structs at p.ty
  update_found at gives_old o U16 p.place (bytes_of b v.expr s.bytes) (pointer s.part)

abbrev pub step_updated : List Struct → BinOp → Pos → (gives_old : Bool) → Target → Typed → Rule Found
step_updated structs o at gives_old p v = step_updated_by structs o at gives_old p v (int_of p.ty)

abbrev pub updated : List Struct → Pos → (gives_old : Bool) → InOp → Target → Typed → Rule Found
updated structs at old op.Mul p v = number_updated bin_op.Mul at old p v
updated structs at old op.Div p v = number_updated bin_op.Div at old p v
updated structs at old op.Rem p v = number_updated bin_op.Rem at old p v
updated structs at old op.Add p v = step_updated structs bin_op.Add at old p v
updated structs at old op.Sub p v = step_updated structs bin_op.Sub at old p v
updated structs at old op.Shl p v = shift_updated bin_op.Shl at old p v
updated structs at old op.Shr p v = shift_updated bin_op.Shr at old p v
updated structs at old op.And p v = number_updated bin_op.And at old p v
updated structs at old op.Xor p v = number_updated bin_op.Xor at old p v
updated structs at old op.Or p v = number_updated bin_op.Or at old p v
updated structs at old op.Lt p v = refuse (BadType at)
updated structs at old op.Gt p v = refuse (BadType at)
updated structs at old op.Le p v = refuse (BadType at)
updated structs at old op.Ge p v = refuse (BadType at)
updated structs at old op.Eq p v = refuse (BadType at)
updated structs at old op.Ne p v = refuse (BadType at)
updated structs at old op.AndAnd p v = refuse (BadType at)
updated structs at old op.OrOr p v = refuse (BadType at)

-- what `++` adds and `--` subtracts
abbrev pub one : Typed
one = typed (core.const I16 (pos 1)) (int I16)

abbrev pub incremented : List Struct → Pos → (gives_old : Bool) → Target → Rule Found
incremented structs at old p = step_updated structs bin_op.Add at old p one

abbrev pub decremented : List Struct → Pos → (gives_old : Bool) → Target → Rule Found
decremented structs at old p = step_updated structs bin_op.Sub at old p one

-- `++` and `--` before a place
abbrev pub incremented_place : List Struct → Pos → Found → Rule Found
incremented_place structs at f = do
  p ← assignable at f
  incremented structs at false p

abbrev pub decremented_place : List Struct → Pos → Found → Rule Found
decremented_place structs at f = do
  p ← assignable at f
  decremented structs at false p

-- and behind it
abbrev pub stepped : List Struct → Pos → PostOp → Target → Rule Found
stepped structs at post.Inc p = incremented structs at true p
stepped structs at post.Dec p = decremented structs at true p

-- ---- casts, calls, ports and tasks (C99, 6.5.2.2 and 6.5.4; nesC)

abbrev pub cast_to : (at_value : Pos) → Ty → Typed → Rule Found
cast_to at t v = do
  e ← converted at t v
  Ok (value_found e t)

pub record Signature : Type 0 where
  pub body : ℕ
  pub params : List Ty
  pub result : Ty

abbrev pub function_meant : Pos → Meaning → Rule Signature
function_meant at (function body params result) = Ok (record { body = body; params = params; result = result })
function_meant at _ = refuse (BadType at)

abbrev pub function_named : Pos → Option Meaning → Rule Signature
function_named at (Some m) = function_meant at m
function_named at None = refuse (UnknownName at)

-- the function that is called
abbrev pub callee : List Entry → s.Expr → Rule Signature
callee names (s.name n at) = function_named at (lookup names n)
callee names e = refuse (BadType (pos_of e))

abbrev pub count : s.Exprs → ℕ
count s.no_exprs = 0
count (s.more_exprs e es) = suc (count es)

abbrev pub same_count : Pos → ℕ → ℕ → Rule (Unit {0})
same_count at n m = if nat_eq n m then Ok tt else refuse (ArgumentMismatch at)

abbrev pub called : Pos → Signature → Exprs → Found
called at f arguments = value_found (core.call f.body arguments at) f.result

-- the item that is called or signalled
abbrev pub directed : Pos → (signal : Bool) → ℕ × Item → Rule (ℕ × Item)
directed at true i = if i.1.is_signal then Ok i else refuse (BadType at)
directed at false i = if i.1.is_signal then refuse (BadType at) else Ok i

abbrev pub item_named : Pos → (signal : Bool) → Option (ℕ × Item) → Rule (ℕ × Item)
item_named at signal None = refuse (UnknownName at)
item_named at signal (Some i) = directed at signal i

abbrev pub written : ℕ → (at_value : Pos) → Typed → Rule Found
written n at_value v = do
  x ← converted at_value (int U16) v
  Ok (value_found (core.port_out n x) void)

abbrev pub read_from : ℕ → Found
read_from n = value_found (core.port_in n) (int U16)

abbrev pub task_meant : Pos → Meaning → Rule Found
task_meant at (task k) = Ok (value_found (core.post k) (int U8))
task_meant at _ = refuse (BadType at)

abbrev pub posted : Pos → Option Meaning → Rule Found
posted at (Some m) = task_meant at m
posted at None = refuse (UnknownName at)

-- ---- types (C99, 6.7.2 and 6.7.5)

-- a type before its stars, with whether it is const
pub record Based : Type 0 where
  pub ty : Ty
  pub is_const : Bool

abbrev pub plain_base : Ty → Based
plain_base t = record { ty = t; is_const = false }

abbrev pub type_meant : Pos → Meaning → Rule Based
type_meant at (type t is_const) = Ok (record { ty = t; is_const = is_const })
type_meant at _ = refuse (UnknownName at)

abbrev pub type_named : Pos → Option Meaning → Rule Based
type_named at (Some m) = type_meant at m
type_named at None = refuse (UnknownName at)

abbrev pub struct_tagged : Pos → Option Kind → Rule Based
struct_tagged at (Some (a_struct k)) = Ok (plain_base (struct k))
struct_tagged at (Some an_enum) = refuse (BadType at)
struct_tagged at None = refuse (UnknownName at)

abbrev pub enum_tagged : Pos → Option Kind → Rule Based
enum_tagged at (Some an_enum) = Ok (plain_base (int I16))
enum_tagged at (Some (a_struct k)) = refuse (BadType at)
enum_tagged at None = refuse (UnknownName at)

-- a struct whose definition has not ended is in force behind a pointer alone
abbrev pub is_open : List Struct → Ty → Bool
is_open structs (struct k) = nat_le (length structs) k
is_open structs _ = false

-- pointers to pointers, and behind them the base
abbrev pub stars_on : ℕ → Ty → Ty
stars_on zero t = t
stars_on (suc n) t = pointer (stars_on n t)

abbrev pub base_behind : List Struct → Pos → Ty → Rule (Unit {0})
base_behind structs at t = if is_open structs t then Ok tt else size_behind structs at t >>= λ _. Ok tt

abbrev pub base_alone : List Struct → Pos → Ty → Rule (Unit {0})
base_alone structs at t = if is_open structs t then refuse (UnknownName at) else Ok tt

abbrev pub behind_stars : List Struct → Pos → (stars : ℕ) → Ty → Rule Ty
behind_stars structs at stars t = do
  u ← base_behind structs at t
  Ok (stars_on stars t)

abbrev pub without_stars : List Struct → Pos → Ty → Rule Ty
without_stars structs at t = do
  u ← base_alone structs at t
  Ok t

abbrev pub pointers : List Struct → Pos → (stars : ℕ) → Ty → Rule Ty
pointers structs at stars t = if nat_eq stars 0 then without_stars structs at t else behind_stars structs at stars t

abbrev pub array_length : Pos → ℤ → Rule ℕ
array_length at (pos n) = if nat_lt n 4294967296 then Ok n else refuse (NotConstant at)
array_length at (negsuc n) = refuse (NotConstant at)

abbrev pub array_of : List Struct → Pos → Ty → ℕ → Rule Ty
array_of structs at part n = do
  m ← size structs at (array part n)
  Ok (array part n)

-- the lengths from left to right; the last is that of the innermost arrays
abbrev pub arrays : List Struct → Pos → Ty → List ℕ → Rule Ty
arrays structs at t [] = Ok t
arrays structs at t (n ∷ ns) = do
  part ← arrays structs at t ns
  array_of structs at part n

-- ---- fields and enum constants

abbrev pub no_fields : Struct
no_fields = record { fields = []; consts = []; layout = layout 0 1 }

abbrev pub fields_with : Struct → List ℕ → Ty → Bool → Layout → Struct
fields_with s name t is_const l = record { fields = s.fields ++ (record { name = name; ty = t } ∷ []); consts = s.consts ++ (is_const ∷ []); layout = l }

-- the layout with a field of the type
abbrev pub grown : List Struct → Pos → Layout → Ty → Rule Layout
grown structs at done t = do
  f ← or_refuse (BadType at) (layout_in structs t)
  or_refuse (BadType at) (small (with_field done f))

abbrev pub pushed : Struct → List ℕ → Ty → Bool → Layout → Rule Struct
pushed s name t is_const l = Ok (fields_with s name t is_const l)

-- with a field whose name is new
abbrev pub grown_by : List Struct → Pos → Struct → List ℕ → Ty → Rule Layout
grown_by structs at s name t = if has_field s.fields name then refuse (DuplicateName at) else grown structs at s.layout t

-- one more field
abbrev pub with_field_named : List Struct → Pos → Struct → List ℕ → Ty → (is_const : Bool) → Rule Struct
with_field_named structs at s name t is_const = do
  l ← grown_by structs at s name t
  pushed s name t is_const l

-- what pointers in the type point to has bytes, but for structs whose definition has not ended
abbrev pub points_well : List Struct → Pos → Ty → Rule (Unit {0})
points_well structs at (pointer t) = base_behind structs at t >>= λ _. points_well structs at t
points_well structs at (array t n) = points_well structs at t
points_well structs at _ = Ok tt

abbrev pub fields_point_well : List Struct → Pos → List Field → Rule (Unit {0})
fields_point_well structs at [] = Ok tt
fields_point_well structs at (f ∷ fs) = points_well structs at f.ty >>= λ _. fields_point_well structs at fs

abbrev pub all_point_well : List Struct → Pos → List Struct → Rule (Unit {0})
all_point_well structs at [] = Ok tt
all_point_well structs at (s ∷ ss) = fields_point_well structs at s.fields >>= λ _. all_point_well structs at ss

abbrev pub with_layout : Struct → Layout → Struct
with_layout s l = record { fields = s.fields; consts = s.consts; layout = l }

-- a struct at its whole size
abbrev pub closed : Pos → Struct → Rule Struct
closed at s = do
  l ← or_refuse (BadType at) (small (struct_of_fields s.layout))
  Ok (with_layout s l)

-- a struct at its end: those that ended in it begin with the first
abbrev pub ended : List Struct → Pos → (first : ℕ) → Struct → Rule Struct
ended structs at first s = do
  done ← closed at s
  u ← all_point_well (structs ++ (done ∷ [])) at (drop first (structs ++ (done ∷ [])))
  Ok done

-- a variable, type or constant of the innermost scope
abbrev pub new_name : Pos → (first : ℕ) → List Entry → List ℕ → Rule (Unit {0})
new_name at first names name = if in_scope first names name then refuse (DuplicateName at) else Ok tt

abbrev pub new_tag : Pos → (first : ℕ) → List Tag → List ℕ → Rule (Unit {0})
new_tag at first tags name = if tag_in_scope first tags name then refuse (DuplicateName at) else Ok tt

-- the first type that holds the number of an enum constant
abbrev pub enum_type : ℤ → Option IntType
enum_type (pos n) = first_holding n (candidates false false false)
enum_type (negsuc n) = if int_le (least I16) (negsuc n) then Some I16 else if int_le (least I32) (negsuc n) then Some I32 else None

abbrev pub enum_constant : Pos → ℤ → Rule Constant
enum_constant at z = do
  t ← or_refuse (BadType at) (enum_type z)
  Ok (t, z)
