-- Worked rows of selection: a function of three values, the last a parameter, with three bytes of frame.
use Rattle.std.specs.Prelude.{◌≡◌, false, [], ◌∷◌}
use Rattle.msp_isa.specs.declared.code.Item.TheVariants as item
use Rattle.msp_isa.specs.declared.instr.Cond.TheVariants.{Jge}
use Rattle.msp_isa.specs.declared.instr.Instr.TheVariants.{Two, One}
use Rattle.msp_isa.specs.declared.instr.Op1.TheVariants.{Push}
use Rattle.msp_isa.specs.declared.instr.Op2.TheVariants.{Mov, Add, Cmp}
use Rattle.msp_isa.specs.declared.instr.Operand.TheVariants.{Reg, Indexed, Increment, Immediate, Constant}
use Rattle.mid_code.specs.declared.code.MidFn.{MidFn}
use Rattle.mid_code.specs.declared.code.MidCode.{MidCode}
use Rattle.mid_code.specs.declared.instr.Op.TheVariants as op
use Rattle.mid_code.specs.declared.instr.Test.TheVariants as test
use Rattle.mid_code.specs.declared.instr.Mid.TheVariants.{Set, Bin, Branch, Call, Ret}
use Rattle.msp_select.specs.Frames.{own_bytes, frame_place, frame_home}
use Rattle.msp_select.specs.Select.{parts_of, entry_of, items_of}

abbrev pub fn : MidFn
fn = record { values = 3; params = 2 ∷ []; frame = 3; code = [] }

abbrev pub code : MidCode
code = record { fns = fn ∷ []; checks = [] }

pub record WorkedRows : Type 0 where
  -- four bytes of frame and two values; then the return address; then the parameter
  pub own : own_bytes fn ≡ 8
  pub first : frame_place fn 0 ≡ 4
  pub second : frame_place fn 1 ≡ 6
  pub parameter : frame_place fn 2 ≡ 10
  pub entry : items_of (entry_of 4) ≡ item.Is (One Push false (Constant 0)) ∷ item.Is (One Push false (Constant 0)) ∷ []
  -- MOV #300, 4(SP), and MOV #1, 4(SP) without a word for the number
  pub set : items_of (parts_of code (frame_home fn) 8 (Set 0 300)) ≡ item.Is (Two Mov false (Immediate 300) (Indexed 1 4)) ∷ []
  pub one : items_of (parts_of code (frame_home fn) 8 (Set 0 1)) ≡ item.Is (Two Mov false (Constant 1) (Indexed 1 4)) ∷ []
  pub added : items_of (parts_of code (frame_home fn) 8 (Bin op.Add 0 0 1)) ≡ item.Is (Two Add false (Indexed 1 6) (Indexed 1 4)) ∷ []
  -- at most: the second is compared with the first
  pub branch : items_of (parts_of code (frame_home fn) 8 (Branch test.Le 0 1 7)) ≡ item.Is (Two Cmp false (Indexed 1 4) (Indexed 1 6)) ∷ item.Jump Jge 7 ∷ []
  pub call : items_of (parts_of code (frame_home fn) 8 (Call 0 (1 ∷ []) (0 ∷ []))) ≡
      item.Is (One Push false (Indexed 1 6)) ∷ item.CallFn 0 ∷ item.Is (Two Add false (Constant 2) (Reg 1)) ∷ item.Is (Two Mov false (Reg 12) (Indexed 1 4)) ∷ []
  pub return : items_of (parts_of code (frame_home fn) 8 (Ret (2 ∷ []))) ≡
      item.Is (Two Mov false (Indexed 1 10) (Reg 12)) ∷ item.Is (Two Add false (Constant 8) (Reg 1)) ∷ item.Is (Two Mov false (Increment 1) (Reg 0)) ∷ []
