-- No routine takes more than 600 instructions, and none more than 60 bytes of stack.
use Rattle.std.proofs.Common.{Some, None, Option, ◌+◌, ◌%◌, ◌/◌, ◌≤◌, arith}
use Rattle.nm_base.specs.declared.int_type.IntType.{IntType}
use Rattle.nm_base.specs.declared.int_type.IntType.TheVariants.{I8, U8, I16, U16, I32, U32}
use Rattle.mid_code.specs.declared.help.HelpOp.{HelpOp}
use Rattle.mid_code.specs.declared.help.HelpOp.TheVariants.{Mul, Div, Rem, Shl, Shr}
use Rattle.mid_code.specs.Help.{operation_at, type_at}
use Rattle.msp_runtime.specs.Code.{depth, weight}
use Rattle.msp_runtime.specs.Routines.{code_for, code_of}
use Rattle.msp_runtime.specs.Laws.{RoutinesAreShort}

byte_signed : (o : HelpOp) → (weight (code_for I8 o) + 1 ≤ 600) × (depth (code_for I8 o) + 2 ≤ 60)
byte_signed Mul = (omega arith, omega arith)
byte_signed Div = (omega arith, omega arith)
byte_signed Rem = (omega arith, omega arith)
byte_signed Shl = (omega arith, omega arith)
byte_signed Shr = (omega arith, omega arith)

byte_unsigned : (o : HelpOp) → (weight (code_for U8 o) + 1 ≤ 600) × (depth (code_for U8 o) + 2 ≤ 60)
byte_unsigned Mul = (omega arith, omega arith)
byte_unsigned Div = (omega arith, omega arith)
byte_unsigned Rem = (omega arith, omega arith)
byte_unsigned Shl = (omega arith, omega arith)
byte_unsigned Shr = (omega arith, omega arith)

word_signed : (o : HelpOp) → (weight (code_for I16 o) + 1 ≤ 600) × (depth (code_for I16 o) + 2 ≤ 60)
word_signed Mul = (omega arith, omega arith)
word_signed Div = (omega arith, omega arith)
word_signed Rem = (omega arith, omega arith)
word_signed Shl = (omega arith, omega arith)
word_signed Shr = (omega arith, omega arith)

word_unsigned : (o : HelpOp) → (weight (code_for U16 o) + 1 ≤ 600) × (depth (code_for U16 o) + 2 ≤ 60)
word_unsigned Mul = (omega arith, omega arith)
word_unsigned Div = (omega arith, omega arith)
word_unsigned Rem = (omega arith, omega arith)
word_unsigned Shl = (omega arith, omega arith)
word_unsigned Shr = (omega arith, omega arith)

wide_signed : (o : HelpOp) → (weight (code_for I32 o) + 1 ≤ 600) × (depth (code_for I32 o) + 2 ≤ 60)
wide_signed Mul = (omega arith, omega arith)
wide_signed Div = (omega arith, omega arith)
wide_signed Rem = (omega arith, omega arith)
wide_signed Shl = (omega arith, omega arith)
wide_signed Shr = (omega arith, omega arith)

wide_unsigned : (o : HelpOp) → (weight (code_for U32 o) + 1 ≤ 600) × (depth (code_for U32 o) + 2 ≤ 60)
wide_unsigned Mul = (omega arith, omega arith)
wide_unsigned Div = (omega arith, omega arith)
wide_unsigned Rem = (omega arith, omega arith)
wide_unsigned Shl = (omega arith, omega arith)
wide_unsigned Shr = (omega arith, omega arith)

each : (t : IntType) (o : HelpOp) → (weight (code_for t o) + 1 ≤ 600) × (depth (code_for t o) + 2 ≤ 60)
each I8 o = byte_signed o
each U8 o = byte_unsigned o
each I16 o = word_signed o
each U16 o = word_unsigned o
each I32 o = wide_signed o
each U32 o = wide_unsigned o

any : (t : Option IntType) (o : Option HelpOp) → (weight (code_of t o) + 1 ≤ 600) × (depth (code_of t o) + 2 ≤ 60)
any (Some t) (Some o) = each t o
any None o = (omega arith, omega arith)
any (Some t) None = (omega arith, omega arith)

pub routines_are_short : RoutinesAreShort
routines_are_short h = any (type_at (h / 8)) (operation_at (h % 8))
