-- Worked rows: how far a jump of one word leads, its words, and the longer forms.
use Rattle.std.specs.Prelude.{◌≡◌, ℕ, true, false, [], ◌∷◌}
use Rattle.msp_isa.specs.declared.code.Item.{Item}
use Rattle.msp_isa.specs.declared.code.Item.TheVariants as item
use Rattle.msp_isa.specs.declared.instr.Op2.TheVariants.{Mov}
use Rattle.msp_isa.specs.declared.instr.Operand.TheVariants.{Increment, Reg}
use Rattle.msp_isa.specs.declared.instr.Instr.TheVariants.{Two}
use Rattle.msp_isa.specs.declared.instr.Cond.TheVariants.{Jeq, Jn, Jmp, Jge}
use Rattle.msp_isa.specs.Stands.{instructions}
use Rattle.msp_layout.specs.Sizes.{Reaches}
use Rattle.msp_layout.specs.Words.{words_of}

-- functions stand at 0x4400
abbrev pub at_4400 : ℕ → ℕ
at_4400 f = 0x4400

-- MOV @SP+, PC
abbrev pub ret : Item
ret = item.Is (Two Mov false (Increment 1) (Reg 0))

pub record WorkedRows : Type 0 where
  -- from 0x1000 on: 511 words behind the next instruction, and 512; 512 words before it, and 513
  pub forth_511 : Reaches 0x1000 0x1400
  pub forth_512 : Reaches 0x1000 0x1402 → ⊥
  pub back_512 : Reaches 0x1000 0x0C02
  pub back_513 : Reaches 0x1000 0x0C00 → ⊥
  -- JMP of 511 and of -512 words; JEQ to itself
  pub word_511 : words_of (instructions at_4400 false 0x4000 0x4400 (item.Jump Jmp 1)) ≡ 0x3DFF ∷ []
  pub word_back_512 : words_of (instructions at_4400 false 0x4400 0x4002 (item.Jump Jmp 1)) ≡ 0x3E00 ∷ []
  pub word_itself : words_of (instructions at_4400 false 0x4400 0x4400 (item.Jump Jeq 1)) ≡ 0x27FF ∷ []
  -- MOV #0x8000, PC; JNE over it; JL over it; JN over a JMP over it
  pub long_jmp : words_of (instructions at_4400 true 0x4000 0x8000 (item.Jump Jmp 1)) ≡ 0x4030 ∷ 0x8000 ∷ []
  pub long_jeq : words_of (instructions at_4400 true 0x4000 0x8000 (item.Jump Jeq 1)) ≡ 0x2002 ∷ 0x4030 ∷ 0x8000 ∷ []
  pub long_jge : words_of (instructions at_4400 true 0x4000 0x8000 (item.Jump Jge 1)) ≡ 0x3802 ∷ 0x4030 ∷ 0x8000 ∷ []
  pub long_jn : words_of (instructions at_4400 true 0x4000 0x8000 (item.Jump Jn 1)) ≡ 0x3001 ∷ 0x3C02 ∷ 0x4030 ∷ 0x8000 ∷ []
  -- CALL #0x4400, and MOV #0x4400, R5
  pub call : words_of (instructions at_4400 false 0x4000 0 (item.CallFn 3)) ≡ 0x12B0 ∷ 0x4400 ∷ []
  pub address : words_of (instructions at_4400 false 0x4000 0 (item.AddrOf 3 5)) ≡ 0x4035 ∷ 0x4400 ∷ []
