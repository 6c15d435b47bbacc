-- Numbers that a program writes to a port: what rows of integer promotion, conversion, shifts and division come to (C99, 6.3.1 and 6.5).
use Rattle.std.specs.Prelude.{◌≡◌, ℕ, pos, ◌*◌, ◌+◌, ◌^◌, ◌<◌, ◌≤◌, ◌++◌, ◌==◌, if◌then◌else◌, true, false, [], ◌∷◌}
use Rattle.nm_base.specs.declared.int_type.IntType.TheVariants.{U8, I16, U16, I32}
use Rattle.nesc_core.specs.declared.tree.BinOp.TheVariants.{Add, Div, Lt, Rem, Shl, Shr}
use Rattle.nesc_core.specs.declared.tree.UnOp.TheVariants.{Neg}
use Rattle.nesc_core.specs.Plain.{Expr, Body, Program, atomic, bin, const, convert, eval, int, port_out, un, void}
use Rattle.nesc_core.specs.Typing.{Has}
use Rattle.nesc_core.specs.Weights.{expr_levels, frame_weight}
use Rattle.nesc_core.specs.WellFormed.{greatest_frame}
use Rattle.mid_code.specs.declared.instr.Mid.TheVariants.{Out, Ret}
use Rattle.mid_code.specs.declared.code.MidFn.{MidFn}
use Rattle.lower_expr.specs.Code as code
use Rattle.lower_expr.specs.Code.{expr_code}
use Rattle.lowered_rows.specs.Form.{has_form}

-- atomic port_write(0x0130, e);
abbrev pub writer : Expr → Body
writer e = record {
  name = [];
  params = 0;
  locals = [];
  result = void;
  code = atomic (eval (port_out 0x0130 e));
  is_async = false;
  is_item = false;
}

abbrev pub writing : Expr → Program
writing e = record { structs = []; objects = []; bodies = writer e ∷ []; tasks = []; handlers = []; boot = 0; warnings = [] }

-- the middle code that writes the value
abbrev pub lowered : Expr → MidFn
lowered e = record {
  values = 2 * expr_levels e + 6;
  params = [];
  frame = 0;
  code = expr_code (writing e) [] [] [] e 0 0 ++ (Out 0x0130 0 ∷ Ret [] ∷ []);
}

-- an expression that such a program may write
pub record IsWritable (e : Expr) : Type 0 where
  pub typed : Has (writing e) [] e (int U16)
  pub form : has_form (lowered e) ≡ true
  pub frame : frame_weight (writing e) (writer e) ≤ greatest_frame
  pub labels : code.labels e < 2 ^ 32
  pub levels : expr_levels e < 1000

abbrev pub number : ℕ → Expr
number n = const I16 (pos n)

abbrev pub minus : ℕ → Expr
minus n = un Neg I16 (number n)

-- a number of 8 bits, promoted
abbrev pub byte : ℕ → Expr
byte n = convert I16 (convert U8 (number n))

-- uint8_t a = 200, b = 100; a + b
abbrev pub sum : Expr
sum = bin Add I16 (byte 200) (byte 100)

-- n << by
abbrev pub shifted : (n by : ℕ) → Expr
shifted n by = bin Shl I16 (number n) (number by)

-- -1 < 1u
abbrev pub less : Expr
less = bin Lt U16 (convert U16 (minus 1)) (const U16 (pos 1))

-- 40000 + 30000
abbrev pub long_sum : Expr
long_sum = bin Add I32 (const I32 (pos 40000)) (convert I32 (number 30000))

-- a + b, (uint8_t)(a + b), 1 << 15, 1 << 16, -1 >> 20, -1 < 1u, 40000 + 30000, -7 / 2, -7 % 2
abbrev pub value_of_row : ℕ → Expr
value_of_row row =
    if row == 0 then sum else
    if row == 1 then convert U8 sum else
    if row == 2 then shifted 1 15 else
    if row == 3 then shifted 1 16 else
    if row == 4 then bin Shr I16 (minus 1) (number 20) else
    if row == 5 then less else
    if row == 6 then long_sum else
    if row == 7 then bin Div I16 (minus 7) (number 2) else
    bin Rem I16 (minus 7) (number 2)

abbrev pub row : ℕ → Expr
row k = convert U16 (value_of_row k)
