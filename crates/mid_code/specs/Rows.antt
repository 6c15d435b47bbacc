-- Worked examples: operations, tests and helpers by C99 6.5 with an int of 16 bits, and a program gone through by hand.
use Rattle.std.specs.Prelude.{◌≡◌, ℕ, true, false, List, [], ◌∷◌, Some, None}
use Rattle.nm_base.specs.declared.action.Action.TheVariants as action
use Rattle.nm_base.specs.declared.int_type.IntType.TheVariants.{I8, U8, I16, U16, I32, U32}
use Rattle.nm_base.specs.Behaviour.{Performed, performed}
use Rattle.mid_code.specs.declared.help.HelpOp.TheVariants.{Mul, Div, Rem, Shl, Shr}
use Rattle.mid_code.specs.declared.instr.Op.TheVariants.{Add, Sub}
use Rattle.mid_code.specs.declared.instr.Test.TheVariants.{Eq, Ne, Lt, Le, LtU, LeU}
use Rattle.mid_code.specs.declared.instr.Mid.TheVariants.{Set, Bin, Load, Peek, Poke, Out, Label, Branch, Call, Help, Ret, Tick, Fault}
use Rattle.mid_code.specs.declared.code.MidCode.{MidCode}
use Rattle.mid_code.specs.Words.{operate, carry, holds}
use Rattle.mid_code.specs.Help.{operation, helped}
use Rattle.mid_code.specs.Machine.{started, steps}

-- uint16_t twice(uint16_t x), which gives x and x + x; the second is put in the frame, and a word beyond the frame reads 0
abbrev pub calling : MidCode
calling = record {
  fns =
      record {
        values = 4;
        params = [];
        frame = 2;
        code =
            Set 0 5 ∷ Tick ∷ Call 1 (0 ∷ []) (1 ∷ 2 ∷ []) ∷ Out 0x0130 1 ∷ Out 0x0130 2 ∷
            Set 3 0 ∷ Poke true 2 3 ∷ Peek false 0 3 ∷ Out 0x0130 0 ∷ Set 3 2 ∷ Poke true 2 3 ∷ Peek true 0 3 ∷ Out 0x0130 0 ∷
            Load false 1 2 ∷ Set 2 300 ∷ Branch LtU 1 2 0 ∷ Fault 9 ∷ Label 0 ∷ Help 64 (1 ∷ []) [] ∷ Ret [] ∷ [];
      } ∷
      record { values = 4; params = 3 ∷ []; frame = 0; code = Bin Add 0 3 3 ∷ Ret (3 ∷ 0 ∷ []) ∷ [] } ∷ [];
  checks = record { size = 2; runs = (0x1100, 3) ∷ [] } ∷ [];
}

abbrev pub runs : (m : ℕ) → (answers : List ℕ) → Performed
runs m answers = performed (steps calling m (started calling 0)) answers

pub record WorkedRows : Type 0 where
  pub sum_wraps : operate Add 65535 2 ≡ 1
  pub difference_wraps : operate Sub 1 2 ≡ 65535
  pub carried : carry Add 65535 1 ≡ 1
  pub not_carried : carry Add 65535 0 ≡ 0
  pub borrowed : carry Sub 0 1 ≡ 1
  pub not_borrowed : carry Sub 5 5 ≡ 0
  pub minus_one_below : holds Lt 65535 0 ≡ true
  pub greatest_not_below : holds LtU 65535 0 ≡ false
  pub at_most_itself : holds Le 32768 32768 ≡ true
  pub unsigned_at_most : holds LeU 32768 32767 ≡ false
  pub same : holds Eq 7 7 ≡ true
  pub other : holds Ne 7 7 ≡ false
  pub product : operation Mul I16 300 300 ≡ 24464
  pub wide_product : operation Mul I32 4294967295 4294967295 ≡ 1
  pub product_lost : operation Mul U32 65536 65536 ≡ 0
  pub byte_product : operation Mul U8 16 17 ≡ 16
  -- -7 / 2 and -7 % 2
  pub quotient : operation Div I16 65529 2 ≡ 65533
  pub remainder : operation Rem I16 65529 2 ≡ 65535
  pub unsigned_quotient : operation Div U16 65529 2 ≡ 32764
  pub byte_quotient : operation Div I8 249 2 ≡ 253
  pub unsigned_byte_quotient : operation Div U8 249 2 ≡ 124
  pub wide_quotient : operation Div I32 4294967289 2 ≡ 4294967293
  pub wide_unsigned_quotient : operation Div U32 4294967289 2 ≡ 2147483644
  -- the least number by -1
  pub least_quotient : operation Div I16 32768 65535 ≡ 32768
  pub least_remainder : operation Rem I16 32768 65535 ≡ 0
  pub wide_least_quotient : operation Div I32 2147483648 4294967295 ≡ 2147483648
  pub left : operation Shl I16 1 15 ≡ 32768
  pub left_by_width : operation Shl I16 1 16 ≡ 0
  pub wide_left : operation Shl U32 1 31 ≡ 2147483648
  pub right : operation Shr I16 65528 1 ≡ 65532
  pub right_by_more : operation Shr I16 65535 20 ≡ 65535
  pub unsigned_right_by_more : operation Shr U16 65535 20 ≡ 0
  pub wide_right : operation Shr I32 2147483648 31 ≡ 4294967295
  -- 32 bits are two values: 65,536 * 3
  pub helped_wide : helped calling 32 (0 ∷ 1 ∷ 3 ∷ 0 ∷ []) ≡ Some (0 ∷ 3 ∷ [])
  pub is_a_part : helped calling 64 (0x1104 ∷ []) ≡ Some []
  pub behind_the_parts : helped calling 64 (0x1106 ∷ []) ≡ None
  pub between_parts : helped calling 64 (0x1103 ∷ []) ≡ None
  pub calls : runs 40 (0x10FF ∷ []) ≡ record {
    actions =
        action.Tick ∷ action.Out 0x0130 5 ∷ action.Out 0x0130 10 ∷ action.Out 0x0130 10 ∷ action.Out 0x0130 0 ∷ action.Load 10 false ∷ action.Fault 2 ∷ [];
    ended = false;
  }
  pub waits : runs 40 [] ≡ record {
    actions =
        action.Tick ∷ action.Out 0x0130 5 ∷ action.Out 0x0130 10 ∷ action.Out 0x0130 10 ∷ action.Out 0x0130 0 ∷ action.Load 10 false ∷ [];
    ended = false;
  }
