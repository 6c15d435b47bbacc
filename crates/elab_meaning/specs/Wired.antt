-- The wired program of expressions, constants and types (C99, 6.5 to 6.7; the nesC 1.3 Language Reference): one equation for each form,
-- in the order in which its parts are looked at.
use Rattle.std.specs.Prelude.{ℕ, ◌+◌, ℤ, pos, ◌+ℤ◌, Bool, true, false, ◌&&◌, ◌||◌, nat_eq, List, [], ◌∷◌, length, slice_index_or, Option, Some, None, Ok}
use Rattle.nm_base.specs.declared.pos.Pos.{Pos}
use Rattle.nm_base.specs.declared.int_type.IntType.{IntType}
use Rattle.nm_base.specs.declared.int_type.IntType.TheVariants.{I16}
use Rattle.nm_base.specs.declared.refusal.Refusal.TheVariants.{BadType, NotConstant}
use Rattle.nesc_core.specs.Plain as core
use Rattle.nesc_core.specs.Plain.{Ty, Expr, Exprs, void, int, struct}
use Rattle.nesc_tree.specs.declared.tree.PreOp.{PreOp}
use Rattle.nesc_tree.specs.declared.tree.PreOp.TheVariants as pre
use Rattle.nesc_tree.specs.Plain as s
use Rattle.nesc_types.specs.Constant.{pos_of, computed, goes_on, is_true, one_of}
use Rattle.nesc_types.specs.Constant as constants
use Rattle.core_meaning.specs.Numbers as numbers
use Rattle.nesc_types.specs.Literals as literals
use Rattle.nesc_types.specs.Rule.{Rule, refuse, or_refuse}
use Rattle.nesc_types.specs.Values.{Constant}
use Rattle.elab_meaning.specs.Scope.{Env, Struct, Item, Kind, constant, a_struct, an_enum, lookup, lookup_tag, unique_at, count_of, item_from}
use Rattle.elab_meaning.specs.Elab.{Elab, by, ◌>>=◌, ◌>>◌, give, state, add_name, add_tag, add_struct, unevaluated}
use Rattle.elab_meaning.specs.Convert.{Typed, Found, value_found, null_type, int_of, converted, assignable, type_found}
use Rattle.elab_meaning.specs.Operators.{const_of, literal, counted, sized, named, constant_named, port, chosen, comma, member, member_behind, stepped, cast_to, Signature, callee, count, same_count, called, item_named, written, read_from, posted, Based, plain_base, type_named, struct_tagged, enum_tagged, pointers, array_length, arrays, no_fields, with_field_named, ended, new_name, new_tag, enum_constant}
use Rattle.elab_meaning.specs.Places.{as_value, indexed, element, binary, prefixed, stored, body_reached}
use Rattle.elab_meaning.specs.Ends.{ends_in_groups}

-- ---- what is done with a part, given the work of the part

-- a part as a value
unfoldable pub valued : s.Expr → Elab Found → Elab Typed
valued e work = do
  f ← work
  as_value (pos_of e) f

-- an argument as a value of its parameter's type
unfoldable pub argument : Ty → s.Expr → Elab Found → Elab Expr
argument t e work = do
  v ← valued e work
  by (converted (pos_of e) t v)

-- the type of a part that is not evaluated
unfoldable pub measured : Pos → Elab Found → Elab Constant
measured at work = do
  f ← unevaluated work
  x ← state
  by (sized x.structs at (type_found f))

abbrev pub as_found : Elab Constant → Elab Found
as_found work = do
  x ← work
  give (const_of x)

-- operators that stand before a constant
abbrev pub on_constants : (whole : Pos) → PreOp → Rule (Unit {0})
on_constants whole pre.Plus = Ok tt
on_constants whole pre.Neg = Ok tt
on_constants whole pre.Not = Ok tt
on_constants whole pre.IsZero = Ok tt
on_constants whole pre.Inc = refuse (NotConstant whole)
on_constants whole pre.Dec = refuse (NotConstant whole)
on_constants whole pre.Addr = refuse (NotConstant whole)
on_constants whole pre.Deref = refuse (NotConstant whole)

-- the base and its stars
abbrev pub starred : Pos → (stars : ℕ) → Based → Elab Ty
starred at stars b = do
  x ← state
  by (pointers x.structs at stars b.ty)

abbrev pub dimensioned : Pos → Ty → List ℕ → Elab Ty
dimensioned at t lengths = do
  x ← state
  by (arrays x.structs at t lengths)

-- const, said here or by a type's name, is of what has no stars
abbrev pub is_const_at : (stars : ℕ) → (said named : Bool) → Bool
is_const_at stars said named = nat_eq stars 0 && (said || named)

-- a new tag of the innermost scope, where one is given
abbrev pub tagged : Pos → Option (List ℕ) → Kind → Elab (Unit {0})
tagged at None kind = give tt
tagged at (Some tag) kind = do
  x ← state
  by (new_tag at x.first_tag x.tags tag)
  add_tag tag kind

-- a struct at its end: those that ended in it begin with the first
abbrev pub struct_ended : Pos → (first : ℕ) → Struct → Elab Based
struct_ended at first fields = do
  x ← state
  done ← by (ended x.structs at first fields)
  add_struct done
  give (plain_base (struct (length x.structs)))

-- `sizeof` of a type
unfoldable pub size_of : Pos → Elab Ty → Elab Constant
size_of at work = do
  t ← work
  x ← state
  by (sized x.structs at t)

abbrev pub join_exprs : Exprs → Exprs → Exprs
join_exprs core.no_exprs rest = rest
join_exprs (core.more_exprs e es) rest = core.more_exprs e (join_exprs es rest)

abbrev pub reached : ℕ → Item → Signature
reached body i = record { body = body; params = i.params; result = i.result }

-- the value that the parameter of the one target gets, where it has a parameter
abbrev pub value_given : (body : Option ℕ) → Option Constant → Exprs
value_given None x = core.no_exprs
value_given (Some body) None = core.no_exprs
value_given (Some body) (Some x) = core.more_exprs (core.const x.0 x.1) core.no_exprs

-- for each item, `values` has the value that the parameter of its one target gets
module _ (env : Env) (values : List (Option Constant)) where
  abbrev mutual
    pub found : s.Expr → Elab Found
    found (s.name n at) = do
      x ← state
      by (named at (lookup x.names n))
    found (s.number text at) = by (literal at (literals.number text))
    found (s.char text at) = by (literal at (literals.character text))
    found (s.null at) = give (value_found core.null null_type)
    found (s.unique text at) = as_found (by (counted at (unique_at env.uniques at)))
    found (s.unique_count text at) = as_found (by (counted at (count_of env.counts text)))
    found (s.unary o e at) = do
      f ← found e
      prefixed o at (pos_of e) f
    found (s.postfix o e at) = do
      f ← found e
      p ← by (assignable at f)
      x ← state
      by (stepped x.structs at o p)
    found (s.binary o a b at) = do
      x ← valued a (found a)
      y ← valued b (found b)
      binary o at x y
    found (s.assign o a b at) = do
      f ← found a
      p ← by (assignable at f)
      g ← found b
      stored o at (pos_of b) p g
    found (s.choice a b c at) = do
      x ← valued a (found a)
      y ← valued b (found b)
      z ← valued c (found c)
      by (chosen at x y z)
    found (s.comma a b at) = do
      x ← valued a (found a)
      y ← valued b (found b)
      give (comma x y)
    found (s.cast t e at) = do
      to ← type_of at t
      v ← valued e (found e)
      by (cast_to (pos_of e) to v)
    found (s.size_of_expr e at) = as_found (measured at (found e))
    found (s.size_of_type t at) = as_found (size_of at (type_of at t))
    found (s.index a i at) = do
      f ← found a
      base ← indexed (pos_of a) f
      v ← valued i (found i)
      x ← state
      by (element x.structs at base v)
    found (s.member e n at) = do
      f ← found e
      x ← state
      by (member x.structs at f n)
    found (s.arrow e n at) = do
      v ← valued e (found e)
      x ← state
      by (member_behind x.structs at v n)
    found (s.call_fn f arguments at) = do
      x ← state
      g ← by (callee x.names f)
      by (same_count at (length g.params) (count arguments))
      es ← all_arguments g.params arguments
      give (called at g es)
    found (s.call_item signal owner item param arguments at) = do
      i ← by (item_named at signal (item_from 0 env.items owner item))
      by (same_count at (length i.1.params) (count arguments))
      ps ← parameter at i.1.parameter param
      es ← all_arguments i.1.params arguments
      body ← body_reached env at i.0 i.1.body
      give (called at (reached body i.1) (join_exprs (value_given i.1.body (slice_index_or values i.0 None)) (join_exprs ps es)))
    found (s.port_read p at) = do
      k ← constant_in (pos_of p) p true
      n ← by (port (pos_of p) k.1)
      give (read_from n)
    found (s.port_write p e at) = do
      k ← constant_in (pos_of p) p true
      n ← by (port (pos_of p) k.1)
      v ← valued e (found e)
      by (written n (pos_of e) v)
    found (s.post n at) = do
      x ← state
      by (posted at (lookup x.names n))

    -- from left to right
    pub all_arguments : List Ty → s.Exprs → Elab Exprs
    all_arguments (t ∷ ts) (s.more_exprs e es) = do
      x ← argument t e (found e)
      xs ← all_arguments ts es
      give (core.more_exprs x xs)
    all_arguments _ _ = give core.no_exprs

    -- the first argument of a call whose element has a parameter
    pub parameter : Pos → Option IntType → s.MaybeExpr → Elab Exprs
    parameter at (Some t) (s.some_expr e) = do
      x ← argument (int t) e (found e)
      give (core.more_exprs x core.no_exprs)
    parameter at None s.no_expr = give core.no_exprs
    parameter at _ _ = by (refuse (BadType at))

    -- ---- constants: what is no constant refuses the whole

    pub constant_in : (whole : Pos) → s.Expr → (evaluated : Bool) → Elab Constant
    constant_in whole (s.name n at) evaluated = do
      x ← state
      by (constant_named whole at (lookup x.names n))
    constant_in whole (s.number text at) evaluated = by (or_refuse (BadType at) (literals.number text))
    constant_in whole (s.char text at) evaluated = by (or_refuse (BadType at) (literals.character text))
    constant_in whole (s.unique text at) evaluated = by (counted at (unique_at env.uniques at))
    constant_in whole (s.unique_count text at) evaluated = by (counted at (count_of env.counts text))
    constant_in whole (s.unary o e at) evaluated = do
      by (on_constants whole o)
      x ← constant_in whole e evaluated
      by (constants.prefixed whole o (Ok x))
    constant_in whole (s.binary o a b at) evaluated = do
      x ← constant_in whole a evaluated
      y ← constant_in whole b (evaluated && goes_on o x)
      by (computed whole evaluated o x y)
    constant_in whole (s.choice a b c at) evaluated = do
      x ← constant_in whole a evaluated
      y ← constant_in whole b (evaluated && is_true x)
      z ← constant_in whole c (evaluated && numbers.is_zero x.1)
      give (constants.chosen x y z)
    constant_in whole (s.comma a b at) true = by (refuse (NotConstant whole))
    constant_in whole (s.comma a b at) false = do
      x ← constant_in whole a false
      constant_in whole b false
    constant_in whole (s.cast t e at) evaluated = do
      to ← type_of at t
      x ← constant_in whole e evaluated
      by (constants.converted (pos_of e) (int_of to) x)
    constant_in whole (s.size_of_expr e at) evaluated = measured at (found e)
    constant_in whole (s.size_of_type t at) evaluated = size_of at (type_of at t)
    constant_in whole (s.null at) evaluated = by (refuse (NotConstant whole))
    constant_in whole (s.postfix o e at) evaluated = by (refuse (NotConstant whole))
    constant_in whole (s.assign o a b at) evaluated = by (refuse (NotConstant whole))
    constant_in whole (s.index a i at) evaluated = by (refuse (NotConstant whole))
    constant_in whole (s.member e n at) evaluated = by (refuse (NotConstant whole))
    constant_in whole (s.arrow e n at) evaluated = by (refuse (NotConstant whole))
    constant_in whole (s.call_fn f arguments at) evaluated = by (refuse (NotConstant whole))
    constant_in whole (s.call_item signal owner item param arguments at) evaluated = by (refuse (NotConstant whole))
    constant_in whole (s.port_read p at) evaluated = by (refuse (NotConstant whole))
    constant_in whole (s.port_write p e at) evaluated = by (refuse (NotConstant whole))
    constant_in whole (s.post n at) evaluated = by (refuse (NotConstant whole))

    -- ---- types

    pub type_of : Pos → s.TypeSpec → Elab Ty
    type_of at (s.type_spec base stars dims is_const) = do
      b ← base_of at base
      t ← starred at stars b
      ns ← lengths dims
      dimensioned at t ns

    -- from left to right
    pub lengths : s.Exprs → Elab (List ℕ)
    lengths s.no_exprs = give []
    lengths (s.more_exprs e es) = do
      c ← constant_in (pos_of e) e true
      n ← by (array_length (pos_of e) c.1)
      ns ← lengths es
      give (n ∷ ns)

    pub base_of : Pos → s.Base → Elab Based
    base_of at s.void = give (plain_base void)
    base_of at (s.int t) = give (plain_base (int t))
    base_of at (s.named n) = do
      x ← state
      by (type_named at (lookup x.names n))
    base_of at (s.struct None) = by (refuse (BadType at))
    base_of at (s.struct (Some tag)) = do
      x ← state
      by (struct_tagged at (lookup_tag x.tags tag))
    -- the number of a struct counts the definitions that end before its own
    base_of at (s.struct_of tag groups) = do
      x ← state
      tagged at tag (a_struct (length x.structs + ends_in_groups groups))
      fs ← fields at no_fields groups
      struct_ended at (length x.structs) fs
    base_of at (s.enum None) = by (refuse (BadType at))
    base_of at (s.enum (Some tag)) = do
      x ← state
      by (enum_tagged at (lookup_tag x.tags tag))
    base_of at (s.enum_of tag items) = do
      tagged at tag an_enum
      enum_items (pos 0) items
      give (plain_base (int I16))

    pub fields : Pos → Struct → s.Groups → Elab Struct
    fields at done s.no_groups = give done
    fields at done (s.more_groups (s.type_spec base stars dims is_const) names rest) = do
      b ← base_of at base
      more ← fields_of at b is_const done names
      fields at more rest

    -- fields that share a base
    pub fields_of : Pos → Based → (said_const : Bool) → Struct → s.Declarators → Elab Struct
    fields_of at b said done s.no_declarators = give done
    fields_of at b said done (s.more_declarators stars name dims rest) = do
      p ← starred at stars b
      ns ← lengths dims
      t ← dimensioned at p ns
      x ← state
      more ← by (with_field_named x.structs at done name t (is_const_at stars said b.is_const))
      fields_of at b said more rest

    -- each constant is the one before plus 1, where it has no value of its own
    pub enum_items : (next : ℤ) → s.Items → Elab (Unit {0})
    enum_items next s.no_items = give tt
    enum_items next (s.more_items name value at rest) = do
      z ← item_value next value
      c ← by (enum_constant at z)
      x ← state
      by (new_name at x.first_name x.names name)
      add_name name (constant c.0 c.1)
      enum_items (z +ℤ pos 1) rest

    pub item_value : (next : ℤ) → s.MaybeExpr → Elab ℤ
    item_value next s.no_expr = give next
    item_value next (s.some_expr e) = do
      c ← constant_in (pos_of e) e true
      give c.1

  -- ---- whole parts

  abbrev pub value : s.Expr → Elab Typed
  value e = valued e (found e)

  abbrev pub whole_constant : s.Expr → Elab Constant
  whole_constant e = constant_in (pos_of e) e true
