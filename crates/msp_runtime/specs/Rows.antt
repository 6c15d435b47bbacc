-- Rows of what routines do, at values where they differ (own).
use Rattle.std.specs.Prelude.{◌≡◌, ℕ, [], ◌∷◌, slice_index}
use Rattle.nm_base.specs.declared.int_type.IntType.{IntType}
use Rattle.nm_base.specs.declared.int_type.IntType.TheVariants.{I8, I16, U16, I32, U32}
use Rattle.mid_code.specs.declared.help.HelpOp.{HelpOp}
use Rattle.mid_code.specs.declared.help.HelpOp.TheVariants.{Mul, Div, Rem, Shl, Shr}
use Rattle.msp_runtime.specs.Code.{Registers, meaning}
use Rattle.msp_runtime.specs.Routines.{code_for}

-- R12 to R15 as a call has them
abbrev pub called : (a b c d : ℕ) → Registers
called a b c d = record { regs = λ q. slice_index (0 ∷ 0 ∷ 0 ∷ 0 ∷ 4 ∷ 5 ∷ 6 ∷ 7 ∷ 8 ∷ 9 ∷ 10 ∷ 11 ∷ a ∷ b ∷ c ∷ d ∷ []) q; sr = 8; sp = 0x3000 }

abbrev pub given : IntType → HelpOp → (a b c d : ℕ) → ℕ
given t o a b c d = (meaning (code_for t o) (called a b c d)).regs 12

abbrev pub given_high : IntType → HelpOp → (a b c d : ℕ) → ℕ
given_high t o a b c d = (meaning (code_for t o) (called a b c d)).regs 13

pub record WorkedRows : Type 0 where
  pub product : given U16 Mul 1234 567 77 78 ≡ 44318
  pub left : given U16 Shl 5 3 77 78 ≡ 40
  pub left_out : given U16 Shl 5 16 77 78 ≡ 0
  pub right : given U16 Shr 0xF000 4 77 78 ≡ 0x0F00
  pub right_sign : given I16 Shr 0xF000 4 77 78 ≡ 0xFF00
  pub right_out : given I16 Shr 0xF000 300 77 78 ≡ 0xFFFF
  pub quotient : given U16 Div 50000 40000 77 78 ≡ 1
  pub remainder : given U16 Rem 50000 7 77 78 ≡ 6
  -- -7 / 2 and -7 % 2, 7 % -2, the least number by -1
  pub towards_zero : given I16 Div 0xFFF9 2 77 78 ≡ 0xFFFD
  pub sign_of_dividend : given I16 Rem 0xFFF9 2 77 78 ≡ 0xFFFF
  pub not_of_divisor : given I16 Rem 7 0xFFFE 77 78 ≡ 1
  pub least : given I16 Div 0x8000 0xFFFF 77 78 ≡ 0x8000
  pub byte_least : given I8 Div 0x80 0xFF 77 78 ≡ 0x80
  pub byte_right : given I8 Shr 0x90 2 77 78 ≡ 0xE4
  pub byte_product : given I8 Mul 100 3 77 78 ≡ 44
  -- 0x12345678 * 0x1000A
  pub wide_product : given U32 Mul 0x5678 0x1234 0x000A 1 ≡ 0x60B0
  pub wide_product_high : given_high U32 Mul 0x5678 0x1234 0x000A 1 ≡ 0x0C83
  pub wide_right : given_high I32 Shr 0x5678 0x9234 4 0 ≡ 0xF923
  -- 1,000,000 / 70,000, and -1,000,000 % 70,000 = -20,000
  pub wide_quotient : given U32 Div 0x4240 0x000F 0x1170 1 ≡ 14
  pub wide_remainder : given I32 Rem 0xBDC0 0xFFF0 0x1170 1 ≡ 0xB1E0
  pub wide_remainder_high : given_high I32 Rem 0xBDC0 0xFFF0 0x1170 1 ≡ 0xFFFF
  pub wide_least : given_high I32 Div 0 0x8000 0xFFFF 0xFFFF ≡ 0x8000
