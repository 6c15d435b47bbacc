-- Places and values, sizes, and the conversions of values (C99, 6.3 and 6.5.3.4; the widths and the greatest size are own).
use Rattle.std.specs.Prelude.{ℕ, zero, suc, ◌*◌, nat_le, Bool, true, false, ◌&&◌, if◌then◌else◌, List, slice_get, Option, Some, None, Ok}
use Rattle.std.specs.Option.{option_map, option_and_then}
use Rattle.nm_base.specs.declared.pos.Pos.{Pos}
use Rattle.nm_base.specs.declared.int_type.IntType.{IntType}
use Rattle.nm_base.specs.declared.refusal.Refusal.TheVariants.{BadType, NotAssignable}
use Rattle.nesc_core.specs.declared.layout.Layout.{Layout}
use Rattle.nesc_core.specs.Size.{layout, int_layout}
use Rattle.nesc_core.specs.Parts.{same_int, same_type}
use Rattle.nesc_core.specs.Plain.{Ty, Expr, Place, void, int, pointer, array, struct, convert}
use Rattle.nesc_types.specs.Rule.{Rule, ◌>>=◌, refuse, or_refuse}
use Rattle.elab_meaning.specs.Scope.{Struct}

pub record Typed : Type 0 where
  pub expr : Expr
  pub ty : Ty

abbrev pub typed : Expr → Ty → Typed
typed e t = record { expr = e; ty = t }

-- what an expression is: a place (an lvalue) or a value (C99, 6.3.2.1). With a place stand the types of the indexes in it, the last
-- first. A struct assignment is what it does, one behind the other, and the place that it stored to
pub data Found : Type 0 where
  a_place : Place → (indexes : List IntType) → Ty → (is_const : Bool) → Found
  a_value : Typed → Found
  a_copy : (steps : List Expr) → Place → (struct : ℕ) → Found

abbrev pub value_found : Expr → Ty → Found
value_found e t = a_value (typed e t)

-- `NULL` is a pointer of any type: this is a type that no declaration can give
abbrev pub null_type : Ty
null_type = pointer void

-- ---- sizes

-- how a value of the type lies in memory; None where that is nothing, is not known yet, or is more than 32,767 bytes
abbrev pub small : Layout → Option Layout
small l = if nat_le l.size 32767 then Some l else None

abbrev pub repeated : ℕ → Layout → Option Layout
repeated n l = small (layout (l.size * n) l.align)

abbrev pub layout_in : List Struct → Ty → Option Layout
layout_in structs void = None
layout_in structs (int t) = Some (int_layout t)
layout_in structs (pointer t) = Some (layout 2 2)
layout_in structs (array t n) = option_and_then (repeated n) (layout_in structs t)
layout_in structs (struct k) = option_map (λ s. s.layout) (slice_get structs k)

abbrev pub size_in : List Struct → Ty → Option ℕ
size_in structs t = option_map (λ l. l.size) (layout_in structs t)

abbrev pub size : List Struct → Pos → Ty → Rule ℕ
size structs at t = or_refuse (BadType at) (size_in structs t)

-- more than no byte
abbrev pub some_bytes : Pos → ℕ → Rule ℕ
some_bytes at zero = refuse (BadType at)
some_bytes at (suc n) = Ok (suc n)

-- the size of what a pointer may point to
abbrev pub size_behind : List Struct → Pos → Ty → Rule ℕ
size_behind structs at t = do
  n ← size structs at t
  some_bytes at n

abbrev pub pointer_to : List Struct → Pos → Ty → Rule Ty
pointer_to structs at t = do
  n ← size_behind structs at t
  Ok (pointer t)

-- ---- conversions

-- to the same type there is nothing to do
abbrev pub to_int : (to from : IntType) → Expr → Expr
to_int to from e = if same_int to from then e else convert to e

abbrev pub int_of : Ty → Option IntType
int_of (int t) = Some t
int_of _ = None

abbrev pub integer : Pos → Ty → Rule IntType
integer at t = or_refuse (BadType at) (int_of t)

-- what a pointer points to
abbrev pub target_of : Ty → Option Ty
target_of (pointer t) = Some t
target_of _ = None

abbrev pub pointed : Pos → Ty → Rule Ty
pointed at t = or_refuse (BadType at) (target_of t)

abbrev pub array_part : Ty → Option Ty
array_part (array t n) = Some t
array_part _ = None

abbrev pub struct_number : Ty → Option ℕ
struct_number (struct k) = Some k
struct_number _ = None

abbrev pub is_void : Ty → Bool
is_void void = true
is_void _ = false

-- the type of `NULL` alone
abbrev pub is_null : Ty → Bool
is_null (pointer t) = is_void t
is_null _ = false

-- a pointer of this type, or `NULL`
abbrev pub fits_pointer : Ty → Ty → Bool
fits_pointer t u = if is_null u then true else same_type t u

-- the one type of two pointers, of which either may be `NULL`; this is what it points to
abbrev pub pointed_by_both : Pos → (t u : Ty) → Rule Ty
pointed_by_both at t u = if is_void t then Ok u else if is_void u then Ok t else if same_type t u then Ok t else refuse (BadType at)

-- a number or a pointer
abbrev pub is_scalar : Ty → Bool
is_scalar (int t) = true
is_scalar (pointer t) = true
is_scalar _ = false

-- as a test
abbrev pub scalar : Pos → Typed → Rule Expr
scalar at v = if is_scalar v.ty then Ok v.expr else refuse (BadType at)

abbrev pub is_pointer : Ty → Bool
is_pointer (pointer t) = true
is_pointer _ = false

abbrev pub stays_pointer : (to from : Ty) → Bool
stays_pointer to from = is_pointer to && fits_pointer to from

-- from which type a number is to be converted to which, for a value of the one type to be of the other; a pointer stays
abbrev pub conversion_by : Pos → (to from : Ty) → Option IntType → Rule (Option (IntType × IntType))
conversion_by at to from (Some a) = do
  b ← integer at from
  Ok (Some (a, b))
conversion_by at to from None = if stays_pointer to from then Ok None else refuse (BadType at)

abbrev pub conversion : Pos → (to from : Ty) → Rule (Option (IntType × IntType))
conversion at to from = conversion_by at to from (int_of to)

abbrev pub by_conversion : Option (IntType × IntType) → Expr → Expr
by_conversion None e = e
by_conversion (Some c) e = to_int c.0 c.1 e

-- a value as one of this type, at the place of the value
abbrev pub converted : Pos → Ty → Typed → Rule Expr
converted at to v = do
  c ← conversion at to v.ty
  Ok (by_conversion c v.expr)

-- the types of two numbers
abbrev pub integers : Pos → Ty → Ty → Rule (IntType × IntType)
integers at t u = do
  a ← integer at t
  b ← integer at u
  Ok (a, b)

-- what a pointer moves over: what it points to, and the size of that
pub record Stride : Type 0 where
  pub part : Ty
  pub bytes : ℕ

abbrev pub stride : List Struct → Pos → Ty → Rule Stride
stride structs at t = do
  part ← pointed at t
  n ← size_behind structs at part
  Ok (record { part = part; bytes = n })

-- ---- places

pub record Target : Type 0 where
  pub place : Place
  pub indexes : List IntType
  pub ty : Ty

abbrev pub target : Place → List IntType → Ty → Target
target p types t = record { place = p; indexes = types; ty = t }

-- what `&` and `.` want
abbrev pub a_target : Pos → Found → Rule Target
a_target at (a_place p types t is_const) = Ok (target p types t)
a_target at (a_value v) = refuse (BadType at)
a_target at (a_copy steps p k) = refuse (BadType at)

-- the left side of an assignment (C99, 6.5.16)
abbrev pub assignable : Pos → Found → Rule Target
assignable at (a_place p types t false) = Ok (target p types t)
assignable at (a_place p types t true) = refuse (NotAssignable at)
assignable at (a_value v) = refuse (NotAssignable at)
assignable at (a_copy steps p k) = refuse (NotAssignable at)

abbrev pub type_found : Found → Ty
type_found (a_place p types t is_const) = t
type_found (a_value v) = v.ty
type_found (a_copy steps p k) = struct k
