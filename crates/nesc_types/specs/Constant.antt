-- The value of a constant expression, or its first refusal in the order of evaluation (C99, 6.6, with the operators of 6.5).
use Rattle.std.specs.Prelude.{ℕ, nat_eq, ℤ, pos, Bool, true, false, not, ◌&&◌, if◌then◌else◌, Option, Some, None, Ok}
use Rattle.nm_base.specs.declared.pos.Pos.{Pos}
use Rattle.nm_base.specs.declared.refusal.Refusal.TheVariants.{BadType, NotConstant, UnknownName}
use Rattle.nm_base.specs.declared.int_type.IntType.{IntType}
use Rattle.nm_base.specs.declared.int_type.IntType.TheVariants.{I16}
use Rattle.nm_base.specs.IntType.{wrapped}
use Rattle.nesc_core.specs.declared.tree.UnOp.{UnOp}
use Rattle.nesc_core.specs.declared.tree.UnOp.TheVariants as un_op
use Rattle.nesc_core.specs.declared.tree.BinOp.{BinOp}
use Rattle.nesc_core.specs.declared.tree.BinOp.TheVariants as bin_op
use Rattle.core_meaning.specs.Numbers.{is_zero, truth, binary, unary}
use Rattle.nesc_tree.specs.declared.tree.PreOp.{PreOp}
use Rattle.nesc_tree.specs.declared.tree.PreOp.TheVariants as pre
use Rattle.nesc_tree.specs.declared.tree.InOp.{InOp}
use Rattle.nesc_tree.specs.declared.tree.InOp.TheVariants as op
use Rattle.nesc_tree.specs.Plain.{Expr, Exprs, TypeSpec, Base, no_exprs, more_exprs, type_spec}
use Rattle.nesc_tree.specs.Plain as p
use Rattle.nesc_types.specs.Rule.{Rule, ◌>>=◌, refuse, or_refuse}
use Rattle.nesc_types.specs.Values.{Constant, Values, value_of}
use Rattle.nesc_types.specs.Conversions.{promoted, common}
use Rattle.nesc_types.specs.Literals.{number, character}

-- the place of an expression's first token
abbrev pub pos_of : Expr → Pos
pos_of (p.name n at) = at
pos_of (p.number n at) = at
pos_of (p.char n at) = at
pos_of (p.null at) = at
pos_of (p.unique n at) = at
pos_of (p.unique_count n at) = at
pos_of (p.unary o e at) = at
pos_of (p.postfix o e at) = at
pos_of (p.binary o a b at) = at
pos_of (p.assign o a b at) = at
pos_of (p.choice a b c at) = at
pos_of (p.comma a b at) = at
pos_of (p.cast t e at) = at
pos_of (p.size_of_expr e at) = at
pos_of (p.size_of_type t at) = at
pos_of (p.index a i at) = at
pos_of (p.member e n at) = at
pos_of (p.arrow e n at) = at
pos_of (p.call_fn f arguments at) = at
pos_of (p.call_item signal element item param arguments at) = at
pos_of (p.port_read port at) = at
pos_of (p.port_write port e at) = at
pos_of (p.post n at) = at

-- ---- operators

-- what is not evaluated has a type alone, and its number is never looked at
abbrev pub undefined : (whole : Pos) (evaluated : Bool) → IntType → Rule Constant
undefined whole true t = refuse (NotConstant whole)
undefined whole false t = Ok (t, pos 0)

abbrev pub unless_undefined : (whole : Pos) (evaluated : Bool) → IntType → Option ℤ → Rule Constant
unless_undefined whole evaluated t (Some z) = Ok (t, z)
unless_undefined whole evaluated t None = undefined whole evaluated t

-- two numbers converted to a type
abbrev pub at_type : BinOp → IntType → ℤ → ℤ → Option ℤ
at_type o t x y = binary o t (wrapped t x) (wrapped t y)

-- at the common type, which is the result's
abbrev pub arithmetic : Pos → Bool → BinOp → Constant → Constant → Rule Constant
arithmetic whole evaluated o x y = unless_undefined whole evaluated (common x.0 y.0) (at_type o (common x.0 y.0) x.1 y.1)

-- a promotion changes no number
abbrev pub shifted : Pos → Bool → BinOp → Constant → Constant → Rule Constant
shifted whole evaluated o x y = unless_undefined whole evaluated (promoted x.0) (binary o (promoted x.0) x.1 y.1)

abbrev pub compared : Pos → Bool → BinOp → Constant → Constant → Rule Constant
compared whole evaluated o x y = unless_undefined whole evaluated I16 (at_type o (common x.0 y.0) x.1 y.1)

abbrev pub is_true : Constant → Bool
is_true x = not (is_zero x.1)

abbrev pub conjunction : Constant → Constant → Constant
conjunction x y = (I16, truth (is_true x && is_true y))

abbrev pub disjunction : Constant → Constant → Constant
disjunction x y = (I16, truth (not (is_zero x.1 && is_zero y.1)))

abbrev pub computed : (whole : Pos) (evaluated : Bool) → InOp → Constant → Constant → Rule Constant
computed whole evaluated op.Mul x y = arithmetic whole evaluated bin_op.Mul x y
computed whole evaluated op.Div x y = arithmetic whole evaluated bin_op.Div x y
computed whole evaluated op.Rem x y = arithmetic whole evaluated bin_op.Rem x y
computed whole evaluated op.Add x y = arithmetic whole evaluated bin_op.Add x y
computed whole evaluated op.Sub x y = arithmetic whole evaluated bin_op.Sub x y
computed whole evaluated op.Shl x y = shifted whole evaluated bin_op.Shl x y
computed whole evaluated op.Shr x y = shifted whole evaluated bin_op.Shr x y
computed whole evaluated op.Lt x y = compared whole evaluated bin_op.Lt x y
computed whole evaluated op.Gt x y = compared whole evaluated bin_op.Lt y x
computed whole evaluated op.Le x y = compared whole evaluated bin_op.Le x y
computed whole evaluated op.Ge x y = compared whole evaluated bin_op.Le y x
computed whole evaluated op.Eq x y = compared whole evaluated bin_op.Eq x y
computed whole evaluated op.Ne x y = compared whole evaluated bin_op.Ne x y
computed whole evaluated op.And x y = arithmetic whole evaluated bin_op.And x y
computed whole evaluated op.Xor x y = arithmetic whole evaluated bin_op.Xor x y
computed whole evaluated op.Or x y = arithmetic whole evaluated bin_op.Or x y
computed whole evaluated op.AndAnd x y = Ok (conjunction x y)
computed whole evaluated op.OrOr x y = Ok (disjunction x y)

-- whether the right operand is evaluated, behind this left one
abbrev pub goes_on : InOp → Constant → Bool
goes_on op.AndAnd x = is_true x
goes_on op.OrOr x = is_zero x.1
goes_on _ x = true

-- what an operator gives on a promoted number
abbrev pub at_promoted : UnOp → Constant → Constant
at_promoted o x = (promoted x.0, unary o (promoted x.0) x.1)

abbrev pub kept : Constant → Constant
kept x = (promoted x.0, x.1)

abbrev pub negated : Constant → Constant
negated x = (I16, truth (is_zero x.1))

abbrev pub prefixed : (whole : Pos) → PreOp → Rule Constant → Rule Constant
prefixed whole pre.Plus r = do
  x ← r
  Ok (kept x)
prefixed whole pre.Neg r = do
  x ← r
  Ok (at_promoted un_op.Neg x)
prefixed whole pre.Not r = do
  x ← r
  Ok (at_promoted un_op.Not x)
prefixed whole pre.IsZero r = do
  x ← r
  Ok (negated x)
prefixed whole pre.Inc r = refuse (NotConstant whole)
prefixed whole pre.Dec r = refuse (NotConstant whole)
prefixed whole pre.Addr r = refuse (NotConstant whole)
prefixed whole pre.Deref r = refuse (NotConstant whole)

abbrev pub one_of : Bool → ℤ → ℤ → ℤ
one_of first y z = if first then y else z

-- the second or the third operand, at the type that both have
abbrev pub chosen : Constant → Constant → Constant → Constant
chosen x y z = (common y.0 z.0, wrapped (common y.0 z.0) (one_of (is_true x) y.1 z.1))

-- ---- casts

-- an enum is an int; the other types are none that a constant is converted to
abbrev pub base_type : (at : Pos) → Base → Rule (Option IntType)
base_type at p.void = Ok None
base_type at (p.int t) = Ok (Some t)
base_type at (p.named n) = refuse (UnknownName at)
base_type at (p.struct tag) = Ok None
base_type at (p.struct_of tag fields) = Ok None
base_type at (p.enum tag) = Ok (Some I16)
base_type at (p.enum_of tag items) = Ok (Some I16)

-- no pointer, and no array
abbrev pub is_plain : (stars : ℕ) → Exprs → Bool
is_plain stars no_exprs = nat_eq stars 0
is_plain stars (more_exprs e es) = false

abbrev pub if_plain : Bool → Option IntType → Option IntType
if_plain plain t = if plain then t else None

abbrev pub plain_type : (at : Pos) → Base → (stars : ℕ) → Exprs → Rule (Option IntType)
plain_type at base stars dims = do
  t ← base_type at base
  Ok (if_plain (is_plain stars dims) t)

-- the integer type of a cast
abbrev pub cast_type : (at : Pos) → TypeSpec → Rule (Option IntType)
cast_type at (type_spec base stars dims is_const) = plain_type at base stars dims

abbrev pub converted : (at : Pos) → Option IntType → Constant → Rule Constant
converted at None x = refuse (BadType at)
converted at (Some t) x = Ok (t, wrapped t x.1)

-- ---- expressions: callers put numbers in the place of `unique`, `uniqueCount` and `sizeof` before

module _ (values : Values) (whole : Pos) where
  abbrev pub value : Expr → (evaluated : Bool) → Rule Constant
  value (p.name n at) evaluated = or_refuse (UnknownName at) (value_of values n)
  value (p.number text at) evaluated = or_refuse (BadType at) (number text)
  value (p.char text at) evaluated = or_refuse (NotConstant whole) (character text)
  value (p.unary o e at) evaluated = prefixed whole o (value e evaluated)
  value (p.binary o a b at) evaluated = do
    x ← value a evaluated
    y ← value b (evaluated && goes_on o x)
    computed whole evaluated o x y
  value (p.choice a b c at) evaluated = do
    x ← value a evaluated
    y ← value b (evaluated && is_true x)
    z ← value c (evaluated && is_zero x.1)
    Ok (chosen x y z)
  value (p.cast t e at) evaluated = do
    to ← cast_type at t
    x ← value e evaluated
    converted (pos_of e) to x
  value (p.comma a b at) true = refuse (NotConstant whole)
  value (p.comma a b at) false = do
    x ← value a false
    value b false
  value (p.null at) evaluated = refuse (NotConstant whole)
  value (p.unique n at) evaluated = refuse (NotConstant whole)
  value (p.unique_count n at) evaluated = refuse (NotConstant whole)
  value (p.postfix o e at) evaluated = refuse (NotConstant whole)
  value (p.assign o a b at) evaluated = refuse (NotConstant whole)
  value (p.size_of_expr e at) evaluated = refuse (NotConstant whole)
  value (p.size_of_type t at) evaluated = refuse (NotConstant whole)
  value (p.index a i at) evaluated = refuse (NotConstant whole)
  value (p.member e n at) evaluated = refuse (NotConstant whole)
  value (p.arrow e n at) evaluated = refuse (NotConstant whole)
  value (p.call_fn f arguments at) evaluated = refuse (NotConstant whole)
  value (p.call_item signal element item param arguments at) evaluated = refuse (NotConstant whole)
  value (p.port_read port at) evaluated = refuse (NotConstant whole)
  value (p.port_write port e at) evaluated = refuse (NotConstant whole)
  value (p.post n at) evaluated = refuse (NotConstant whole)

-- the value of a whole constant
abbrev pub constant : Values → Expr → Rule Constant
constant values e = value values (pos_of e) e true
