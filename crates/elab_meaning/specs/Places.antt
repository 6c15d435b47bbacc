-- Places that are used as values, addresses, assignments and operators that need a local (C99, 6.3.2.1, 6.5.3.2 and 6.5.16; the
-- order of evaluation is own).
use Rattle.std.specs.Prelude.{ℕ, pos, zero, suc, ◌+◌, ◌&&◌, nat_eq, Bool, false, if◌then◌else◌, List, [], ◌∷◌, ◌++◌, fold, length, slice_get, Option, Some, None, Ok}
use Rattle.std.specs.List.{flat_map, range_with_len}
use Rattle.nm_base.specs.declared.pos.Pos.{Pos}
use Rattle.nm_base.specs.declared.int_type.IntType.{IntType}
use Rattle.nm_base.specs.declared.int_type.IntType.TheVariants.{I16}
use Rattle.nm_base.specs.declared.refusal.Refusal.TheVariants.{BadType, AddressOfLocal}
use Rattle.nesc_core.specs.declared.tree.BinOp.{BinOp}
use Rattle.nesc_core.specs.declared.tree.BinOp.TheVariants as bin_op
use Rattle.nesc_core.specs.Plain as core
use Rattle.nesc_core.specs.Plain.{Ty, Expr, Place, Field, void, int, pointer, array, struct}
use Rattle.nesc_tree.specs.declared.tree.PreOp.{PreOp}
use Rattle.nesc_tree.specs.declared.tree.PreOp.TheVariants as pre
use Rattle.nesc_tree.specs.declared.tree.InOp.{InOp}
use Rattle.nesc_tree.specs.declared.tree.InOp.TheVariants as op
use Rattle.nesc_types.specs.Rule.{Rule, refuse}
use Rattle.elab_meaning.specs.Scope.{Struct, Env}
use Rattle.elab_meaning.specs.Elab.{Elab, Asked, by, ◌>>=◌, ◌>>◌, give, fresh, mark_taken, state}
use Rattle.elab_meaning.specs.Convert.{Typed, typed, Found, a_place, a_value, a_copy, value_found, pointer_to, int_of, stride, struct_number, Target, a_target}
use Rattle.elab_meaning.specs.Operators.{arithmetic, shifted, compared, comparable, moved, subtracted, both, either, plus, minus, complement, is_zero, dereferenced, element_behind, element_of, incremented_place, decremented_place, assigned, updated}

-- ---- places as values

-- the object that the place begins with, where it begins with one
abbrev pub take : Pos → Place → Elab (Unit {0})
take at (core.object k) = mark_taken k
take at (core.local x) = by (refuse (AddressOfLocal at))
take at (core.deref e t) = give tt
take at (core.index p e) = take at p
take at (core.field p k) = take at p

abbrev pub first_element : Place → Expr
first_element p = core.addr (core.index p (core.const I16 (pos 0)))

abbrev pub decayed : Pos → Place → (part : Ty) → Elab Typed
decayed at p t = do
  take at p
  s ← state
  u ← by (pointer_to s.structs at t)
  give (typed (first_element p) u)

-- an array is the address of its first element; a number or a pointer is read; a struct is copied alone
abbrev pub read_at : Pos → Place → Ty → Elab Typed
read_at at p (array t n) = decayed at p t
read_at at p (int t) = give (typed (core.read p at) (int t))
read_at at p (pointer t) = give (typed (core.read p at) (pointer t))
read_at at p _ = by (refuse (BadType at))

-- parts that come one after the other are joined from the left; no part is 0
abbrev pub joined : List Expr → Expr
joined [] = core.const I16 (pos 0)
joined (e ∷ es) = fold core.comma e es

abbrev pub as_value : Pos → Found → Elab Typed
as_value at (a_value v) = give v
as_value at (a_place p types t is_const) = read_at at p t
as_value at (a_copy steps p k) = give (typed (joined steps) (struct k))

abbrev pub addressed : Pos → Found → Elab Found
addressed at f = do
  p ← by (a_target at f)
  take at p.place
  s ← state
  t ← by (pointer_to s.structs at p.ty)
  give (value_found (core.addr p.place) t)

-- ---- elements

-- what has elements: an array stays a place, all else is a value
abbrev pub indexed_by : Pos → Place → List IntType → Ty → (is_const : Bool) → Elab Found
indexed_by at p types (array t n) is_const = give (a_place p types (array t n) is_const)
indexed_by at p types t is_const = do
  v ← read_at at p t
  give (a_value v)

abbrev pub indexed : Pos → Found → Elab Found
indexed at (a_place p types t is_const) = indexed_by at p types t is_const
indexed at (a_value v) = give (a_value v)
indexed at (a_copy steps p k) = by (refuse (BadType at))

abbrev pub element_at : Pos → Place → List IntType → Ty → (is_const : Bool) → Typed → Rule Found
element_at at p types (array t n) is_const i = element_of at p types t is_const i
element_at at p types _ is_const i = refuse (BadType at)

abbrev pub element : List Struct → Pos → Found → Typed → Rule Found
element structs at (a_place p types t is_const) i = element_at at p types t is_const i
element structs at (a_value v) i = element_behind structs at v i
element structs at (a_copy steps p k) i = refuse (BadType at)

-- ---- operators

-- an expression that is evaluated behind another, which goes to a local
abbrev pub behind_kept : Pos → (local : ℕ) → (kept next : Expr) → Expr
behind_kept at local kept next = core.comma (core.assign (core.local local) kept at) next

-- the first value waits in a local while the second is made
abbrev pub exchanged : BinOp → Pos → Typed → Typed → Elab Found
exchanged o at x y = do
  c ← by (comparable at x y)
  first ← fresh (int c.at_type)
  give (value_found (behind_kept at first c.first (core.bin o c.at_type c.second (core.read (core.local first) at))) (int I16))

-- i + p, where i waits in a local
abbrev pub moved_behind : IntType → Pos → Expr → Typed → Elab Found
moved_behind a at x y = do
  s ← state
  d ← by (stride s.structs at y.ty)
  first ← fresh (int a)
  give (value_found (behind_kept at first x (core.offset y.expr (core.read (core.local first) at) d.bytes)) (pointer d.part))

abbrev pub added_to_number : IntType → Pos → Typed → Typed → Option IntType → Elab Found
added_to_number a at x y (Some b) = by (arithmetic bin_op.Add at x y)
added_to_number a at x y None = moved_behind a at x.expr y

abbrev pub added_to : Pos → Typed → Typed → Option IntType → Elab Found
added_to at x y (Some a) = added_to_number a at x y (int_of y.ty)
added_to at x y None = do
  s ← state
  by (moved s.structs at x y)

abbrev pub added : Pos → Typed → Typed → Elab Found
added at x y = added_to at x y (int_of x.ty)

abbrev pub binary : InOp → Pos → Typed → Typed → Elab Found
binary op.Mul at x y = by (arithmetic bin_op.Mul at x y)
binary op.Div at x y = by (arithmetic bin_op.Div at x y)
binary op.Rem at x y = by (arithmetic bin_op.Rem at x y)
binary op.Add at x y = added at x y
binary op.Sub at x y = do
  s ← state
  by (subtracted s.structs at x y)
binary op.Shl at x y = by (shifted bin_op.Shl at x y)
binary op.Shr at x y = by (shifted bin_op.Shr at x y)
binary op.Lt at x y = by (compared bin_op.Lt at x y)
binary op.Gt at x y = exchanged bin_op.Lt at x y
binary op.Le at x y = by (compared bin_op.Le at x y)
binary op.Ge at x y = exchanged bin_op.Le at x y
binary op.Eq at x y = by (compared bin_op.Eq at x y)
binary op.Ne at x y = by (compared bin_op.Ne at x y)
binary op.And at x y = by (arithmetic bin_op.And at x y)
binary op.Xor at x y = by (arithmetic bin_op.Xor at x y)
binary op.Or at x y = by (arithmetic bin_op.Or at x y)
binary op.AndAnd at x y = by (both at x y)
binary op.OrOr at x y = by (either at x y)

abbrev pub on_value : List Struct → PreOp → Pos → Typed → Rule Found
on_value structs pre.Deref at v = dereferenced structs at v
on_value structs pre.Plus at v = plus at v
on_value structs pre.Neg at v = minus at v
on_value structs pre.Not at v = complement at v
on_value structs pre.IsZero at v = is_zero at v
on_value structs pre.Addr at v = refuse (BadType at)
on_value structs pre.Inc at v = refuse (BadType at)
on_value structs pre.Dec at v = refuse (BadType at)

abbrev pub valued_operand : PreOp → (at at_operand : Pos) → Found → Elab Found
valued_operand o at at_operand f = do
  v ← as_value at_operand f
  s ← state
  by (on_value s.structs o at v)

-- `&`, `++` and `--` want a place, the others a value
abbrev pub prefixed : PreOp → (at at_operand : Pos) → Found → Elab Found
prefixed pre.Addr at at_operand f = addressed at f
prefixed pre.Inc at at_operand f = do
  s ← state
  by (incremented_place s.structs at f)
prefixed pre.Dec at at_operand f = do
  s ← state
  by (decremented_place s.structs at f)
prefixed pre.Deref at at_operand f = valued_operand pre.Deref at at_operand f
prefixed pre.Plus at at_operand f = valued_operand pre.Plus at at_operand f
prefixed pre.Neg at at_operand f = valued_operand pre.Neg at at_operand f
prefixed pre.Not at at_operand f = valued_operand pre.Not at at_operand f
prefixed pre.IsZero at at_operand f = valued_operand pre.IsZero at at_operand f

-- ---- structs

pub record Frozen : Type 0 where
  pub steps : List Expr
  pub place : Place

-- a value goes to a fresh local, behind what was done
abbrev pub kept : Pos → Ty → Expr → (done : List Expr) → Elab Frozen
kept at t e done = do
  x ← fresh t
  give (record { steps = done ++ (core.assign (core.local x) e at ∷ []); place = core.local x })

-- what is behind a pointer, and an element of a frozen place
abbrev pub frozen_behind : Pos → Expr → Ty → (done : List Expr) → Elab Frozen
frozen_behind at e t done = do
  p ← kept at (pointer t) e done
  give (record { steps = p.steps; place = core.deref (core.read p.place at) t })

abbrev pub frozen_element : Pos → Frozen → IntType → Expr → Elab Frozen
frozen_element at f t e = do
  i ← kept at (int t) e f.steps
  give (record { steps = i.steps; place = core.index f.place (core.read i.place at) })

-- each index and each dereferenced pointer of the place goes, left to right, to a fresh local
abbrev pub frozen : Pos → Place → (indexes : List IntType) → (done : List Expr) → Elab Frozen
frozen at (core.object k) types done = give (record { steps = done; place = core.object k })
frozen at (core.local x) types done = give (record { steps = done; place = core.local x })
frozen at (core.deref e t) types done = frozen_behind at e t done
frozen at (core.index p e) (t ∷ types) done = do
  f ← frozen at p types done
  frozen_element at f t e
frozen at (core.index p e) [] done = by (refuse (BadType at))
frozen at (core.field p k) types done = do
  f ← frozen at p types done
  give (record { steps = f.steps; place = core.field f.place k })

abbrev pub element_number : Place → ℕ → Place
element_number p i = core.index p (core.const I16 (pos i))

-- one Assign for each number and pointer in a value of the type, in order; given those for each struct in it
abbrev pub copies_in : (ℕ → Place → Place → List Expr) → (at at_value : Pos) → Ty → (p q : Place) → List Expr
copies_in of_struct at at_value void p q = []
copies_in of_struct at at_value (int t) p q = core.assign p (core.read q at_value) at ∷ []
copies_in of_struct at at_value (pointer t) p q = core.assign p (core.read q at_value) at ∷ []
copies_in of_struct at at_value (array t n) p q =
    flat_map (λ i. copies_in of_struct at at_value t (element_number p i) (element_number q i)) (range_with_len 0 n)
copies_in of_struct at at_value (struct k) p q = of_struct k p q

abbrev pub copies_of_fields : (ℕ → Place → Place → List Expr) → (at at_value : Pos) → (k : ℕ) → List Field → (p q : Place) → List Expr
copies_of_fields of_struct at at_value k [] p q = []
copies_of_fields of_struct at at_value k (f ∷ fs) p q =
    copies_in of_struct at at_value f.ty (core.field p k) (core.field q k) ++ copies_of_fields of_struct at at_value (suc k) fs p q

abbrev pub fields_of_struct : Option Struct → List Field
fields_of_struct None = []
fields_of_struct (Some s) = s.fields

-- structs stand at most so deep in one another
abbrev pub copies_of_struct : List Struct → (at at_value : Pos) → (depth : ℕ) → ℕ → (p q : Place) → List Expr
copies_of_struct structs at at_value zero k p q = []
copies_of_struct structs at at_value (suc depth) k p q =
    copies_of_fields (copies_of_struct structs at at_value depth) at at_value 0 (fields_of_struct (slice_get structs k)) p q

abbrev pub copies : List Struct → (at at_value : Pos) → (struct : ℕ) → (p q : Place) → List Expr
copies structs at at_value k p q = copies_of_struct structs at at_value (length structs) k p q

-- from a place
abbrev pub place_copied : (at at_value : Pos) → Target → (struct : ℕ) → Place → (indexes : List IntType) → Elab Found
place_copied at at_value p k q types = do
  f ← frozen at p.place p.indexes []
  g ← frozen at_value q types f.steps
  s ← state
  give (a_copy (g.steps ++ copies s.structs at at_value k f.place g.place) f.place k)

-- from what another assignment stored to, which comes first and is not evaluated again
abbrev pub copy_copied : (at at_value : Pos) → Target → (struct : ℕ) → (steps : List Expr) → Place → Elab Found
copy_copied at at_value p k steps q = do
  f ← frozen at p.place p.indexes steps
  s ← state
  give (a_copy (f.steps ++ copies s.structs at at_value k f.place q) f.place k)

abbrev pub is_number : ℕ → Option ℕ → Bool
is_number k None = false
is_number k (Some j) = nat_eq k j

abbrev pub copied : (at at_value : Pos) → Target → (struct : ℕ) → Found → Elab Found
copied at at_value p k (a_place q types t is_const) =
    if is_number k (struct_number t) then place_copied at at_value p k q types else by (refuse (BadType at_value))
copied at at_value p k (a_copy steps q j) =
    if nat_eq k j then copy_copied at at_value p k steps q else by (refuse (BadType at_value))
copied at at_value p k (a_value v) = by (refuse (BadType at_value))

abbrev pub stored_by : (at at_value : Pos) → Target → Found → (struct : Option ℕ) → Elab Found
stored_by at at_value p f (Some k) = copied at at_value p k f
stored_by at at_value p f None = do
  v ← as_value at_value f
  by (assigned at at_value p v)

-- `=`, or the operator before it
abbrev pub stored : Option InOp → (at at_value : Pos) → Target → Found → Elab Found
stored None at at_value p f = stored_by at at_value p f (struct_number p.ty)
stored (Some o) at at_value p f = do
  v ← as_value at_value f
  s ← state
  by (updated s.structs at false o p v)

-- ---- calls of items (nesC)

-- the place of a dispatch body among those that are needed
abbrev pub is_asked : (instance item : ℕ) → Asked → Bool
is_asked instance item a = nat_eq a.instance instance && nat_eq a.item item

abbrev pub place_among : (k : ℕ) → List Asked → (instance item : ℕ) → Option ℕ
place_among k [] instance item = None
place_among k (a ∷ rest) instance item = if is_asked instance item a then Some k else place_among (suc k) rest instance item

abbrev pub ask : (instance item : ℕ) → Pos → Option ℕ → Elab ℕ
ask instance item at (Some k) = give k
ask instance item at None = λ s. Ok (length s.asked, record s { asked = s.asked ++ (record { instance = instance; item = item; at = at } ∷ []) })

-- the one body, or a dispatch body
abbrev pub body_reached : Env → Pos → (item : ℕ) → Option ℕ → Elab ℕ
body_reached env at item (Some body) = give body
body_reached env at item None = do
  s ← state
  k ← ask env.instance item at (place_among 0 s.asked env.instance item)
  give (env.first_dispatch + k)
