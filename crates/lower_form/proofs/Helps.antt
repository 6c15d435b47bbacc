-- A Help of lowered code has as many values as its operation takes and gives, and names a check that is there.
use Rattle.std.proofs.Common.{◌≡◌, ℕ, ◌+◌, ◌<◌, Bool, true, false, nat_lt, [], ◌∷◌, ◌++◌, length, refl, sym, subst, arith}
use Rattle.std.specs.Prelude.{if◌then◌else◌}
use Rattle.nm_base.specs.declared.int_type.IntType.{IntType}
use Rattle.nm_base.specs.declared.int_type.IntType.TheVariants.{I8, U8, I16, U16, I32, U32}
use Rattle.mid_code.specs.declared.help.HelpOp.{HelpOp}
use Rattle.mid_code.specs.declared.help.HelpOp.TheVariants.{Mul, Div, Rem, Shl, Shr}
use Rattle.mid_code.specs.Form.{HelpFits, KindFits, passed_to}
use Rattle.mid_code.specs.Help.{first_check, number_of_help, places}
use Rattle.lower_expr.specs.Pieces.{values_at}
use Rattle.lower_expr.proofs.Numbers.{not_below}

pub operation_fits : (checks : ℕ) (t : IntType) (o : HelpOp) (ins outs : ℕ) → ins ≡ passed_to o t → outs ≡ places t → HelpFits checks (number_of_help t o) ins outs
operation_fits checks I8 Mul ins outs a b = (a, b)
operation_fits checks I8 Div ins outs a b = (a, b)
operation_fits checks I8 Rem ins outs a b = (a, b)
operation_fits checks I8 Shl ins outs a b = (a, b)
operation_fits checks I8 Shr ins outs a b = (a, b)
operation_fits checks U8 Mul ins outs a b = (a, b)
operation_fits checks U8 Div ins outs a b = (a, b)
operation_fits checks U8 Rem ins outs a b = (a, b)
operation_fits checks U8 Shl ins outs a b = (a, b)
operation_fits checks U8 Shr ins outs a b = (a, b)
operation_fits checks I16 Mul ins outs a b = (a, b)
operation_fits checks I16 Div ins outs a b = (a, b)
operation_fits checks I16 Rem ins outs a b = (a, b)
operation_fits checks I16 Shl ins outs a b = (a, b)
operation_fits checks I16 Shr ins outs a b = (a, b)
operation_fits checks U16 Mul ins outs a b = (a, b)
operation_fits checks U16 Div ins outs a b = (a, b)
operation_fits checks U16 Rem ins outs a b = (a, b)
operation_fits checks U16 Shl ins outs a b = (a, b)
operation_fits checks U16 Shr ins outs a b = (a, b)
operation_fits checks I32 Mul ins outs a b = (a, b)
operation_fits checks I32 Div ins outs a b = (a, b)
operation_fits checks I32 Rem ins outs a b = (a, b)
operation_fits checks I32 Shl ins outs a b = (a, b)
operation_fits checks I32 Shr ins outs a b = (a, b)
operation_fits checks U32 Mul ins outs a b = (a, b)
operation_fits checks U32 Div ins outs a b = (a, b)
operation_fits checks U32 Rem ins outs a b = (a, b)
operation_fits checks U32 Shl ins outs a b = (a, b)
operation_fits checks U32 Shr ins outs a b = (a, b)

pub check_fits : (checks k : ℕ) → k < checks → HelpFits checks (first_check + k) 1 0
check_fits checks k lt = subst (λ b. KindFits b checks (64 + k) 1 0) (sym is) (omega (arith, lt), refl, refl)
  where
    is : nat_lt (64 + k) 64 ≡ false
    is = not_below (64 + k) 64 (omega arith)

-- ---- values of numbers

pub values_length : (wide : Bool) (r : ℕ) → length (values_at wide r) ≡ (if wide then 2 else 1)
values_length true r = refl
values_length false r = refl

pub both_length : (wide : Bool) (r s : ℕ) → length (values_at wide r ++ values_at wide s) ≡ (if wide then 2 else 1) + (if wide then 2 else 1)
both_length true r s = refl
both_length false r s = refl

pub one_more_length : (wide : Bool) (r s : ℕ) → length (values_at wide r ++ s ∷ []) ≡ (if wide then 2 else 1) + 1
one_more_length true r s = refl
one_more_length false r s = refl
