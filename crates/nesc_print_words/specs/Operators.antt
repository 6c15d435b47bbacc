-- Operators as they are spelled, and how strongly they bind (C99 6.5).
use Rattle.std.specs.Prelude.{ℕ, Bool, true, false, List, Option, Some, None, codes}
use Rattle.nm_base.specs.declared.int_type.IntType.{IntType}
use Rattle.nm_base.specs.declared.int_type.IntType.TheVariants as int
use Rattle.nesc_tree.specs.declared.tree.InOp.{InOp}
use Rattle.nesc_tree.specs.declared.tree.InOp.TheVariants as op
use Rattle.nesc_tree.specs.declared.tree.PreOp.{PreOp}
use Rattle.nesc_tree.specs.declared.tree.PreOp.TheVariants as pre
use Rattle.nesc_tree.specs.declared.tree.PostOp.{PostOp}
use Rattle.nesc_tree.specs.declared.tree.PostOp.TheVariants as post
use Rattle.nesc_tree.specs.Level as level

abbrev pub infix_text : InOp → List ℕ
infix_text op.Mul = codes "*"
infix_text op.Div = codes "/"
infix_text op.Rem = codes "%"
infix_text op.Add = codes "+"
infix_text op.Sub = codes "-"
infix_text op.Shl = codes "<<"
infix_text op.Shr = codes ">>"
infix_text op.Lt = codes "<"
infix_text op.Gt = codes ">"
infix_text op.Le = codes "<="
infix_text op.Ge = codes ">="
infix_text op.Eq = codes "=="
infix_text op.Ne = codes "!="
infix_text op.And = codes "&"
infix_text op.Xor = codes "^"
infix_text op.Or = codes "|"
infix_text op.AndAnd = codes "&&"
infix_text op.OrOr = codes "||"

abbrev pub infix_level : InOp → ℕ
infix_level op.Mul = level.multiplicative
infix_level op.Div = level.multiplicative
infix_level op.Rem = level.multiplicative
infix_level op.Add = level.additive
infix_level op.Sub = level.additive
infix_level op.Shl = level.shift
infix_level op.Shr = level.shift
infix_level op.Lt = level.relational
infix_level op.Gt = level.relational
infix_level op.Le = level.relational
infix_level op.Ge = level.relational
infix_level op.Eq = level.equality
infix_level op.Ne = level.equality
infix_level op.And = level.bit_and
infix_level op.Xor = level.bit_xor
infix_level op.Or = level.bit_or
infix_level op.AndAnd = level.logical_and
infix_level op.OrOr = level.logical_or

-- `op=` for one of ten operators
abbrev pub compound_text : InOp → List ℕ
compound_text op.Mul = codes "*="
compound_text op.Div = codes "/="
compound_text op.Rem = codes "%="
compound_text op.Add = codes "+="
compound_text op.Sub = codes "-="
compound_text op.Shl = codes "<<="
compound_text op.Shr = codes ">>="
compound_text op.And = codes "&="
compound_text op.Xor = codes "^="
compound_text _ = codes "|="

abbrev pub assignment_text : Option InOp → List ℕ
assignment_text None = codes "="
assignment_text (Some o) = compound_text o

abbrev pub prefix_text : PreOp → List ℕ
prefix_text pre.Inc = codes "++"
prefix_text pre.Dec = codes "--"
prefix_text pre.Addr = codes "&"
prefix_text pre.Deref = codes "*"
prefix_text pre.Plus = codes "+"
prefix_text pre.Neg = codes "-"
prefix_text pre.Not = codes "~"
prefix_text pre.IsZero = codes "!"

-- the level of the operand: no cast stands behind `++`
abbrev pub prefix_needs : PreOp → ℕ
prefix_needs pre.Inc = level.unary
prefix_needs pre.Dec = level.unary
prefix_needs _ = level.cast

abbrev pub suffix_text : PostOp → List ℕ
suffix_text post.Inc = codes "++"
suffix_text post.Dec = codes "--"

-- ---- integer types (C99 6.7.2)

abbrev pub is_unsigned_type : IntType → Bool
is_unsigned_type int.I8 = false
is_unsigned_type int.I16 = false
is_unsigned_type int.I32 = false
is_unsigned_type int.U8 = true
is_unsigned_type int.U16 = true
is_unsigned_type int.U32 = true

abbrev pub integer_text : IntType → List ℕ
integer_text int.I8 = codes "char"
integer_text int.U8 = codes "char"
integer_text int.I16 = codes "int"
integer_text int.U16 = codes "int"
integer_text int.I32 = codes "long"
integer_text int.U32 = codes "long"
