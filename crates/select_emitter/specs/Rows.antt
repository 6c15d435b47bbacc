-- Worked rows: a program with each instruction of the middle code, and its items as gone through by hand.
use Rattle.std.specs.Prelude.{◌≡◌, true, false, List, [], ◌∷◌, ◌++◌}
use Rattle.msp_isa.specs.declared.code.Item.{Item}
use Rattle.msp_isa.specs.declared.code.Item.TheVariants as item
use Rattle.msp_isa.specs.declared.instr.Cond.TheVariants.{Jc, Jl, Jmp}
use Rattle.msp_isa.specs.declared.instr.Instr.TheVariants.{Two, One}
use Rattle.msp_isa.specs.declared.instr.Op1.TheVariants.{Push}
use Rattle.msp_isa.specs.declared.instr.Op2.{Op2}
use Rattle.msp_isa.specs.declared.instr.Op2.TheVariants as op2
use Rattle.msp_isa.specs.declared.instr.Operand.{Operand}
use Rattle.msp_isa.specs.declared.instr.Operand.TheVariants.{Reg, Indexed, Absolute, Indirect, Increment, Immediate, Constant}
use Rattle.mid_code.specs.declared.code.MidFn.{MidFn}
use Rattle.mid_code.specs.declared.code.MidCode.{MidCode}
use Rattle.mid_code.specs.declared.instr.Mid.{Mid}
use Rattle.mid_code.specs.declared.instr.Mid.TheVariants as mid
use Rattle.mid_code.specs.declared.instr.Op.TheVariants as op
use Rattle.mid_code.specs.declared.instr.Test.TheVariants as test
use Rattle.select_emitter.specs.Code.{all_code}

abbrev pub numbers : List Mid
numbers =
    mid.Set 0 300 ∷ mid.Set 1 1 ∷ mid.Move 2 0 ∷ mid.Bin op.Add 0 0 1 ∷ mid.Bin op.Sub 2 0 1 ∷ mid.Carry op.Add 2 0 1 ∷ mid.Carry op.Sub 2 0 1 ∷ []

abbrev pub accesses : List Mid
accesses =
    mid.Load true 2 0 ∷ mid.Load false 2 0 ∷ mid.Store true 2 0 ∷ mid.Store false 2 0 ∷ mid.Peek false 2 0 ∷ mid.Poke true 2 0 ∷ mid.In 1 0x0120 ∷ []

abbrev pub atomic : List Mid
atomic = mid.Tick ∷ mid.Begin 0 ∷ mid.Out 0x0122 1 ∷ mid.End 0 ∷ []

abbrev pub jumps : List Mid
jumps = mid.Label 7 ∷ mid.Branch test.LeU 0 1 7 ∷ mid.Branch test.Lt 0 1 7 ∷ mid.Jump 7 ∷ []

-- a shift of 32 bits, by a value; and the first check
abbrev pub calls : List Mid
calls =
    mid.Call 1 (0 ∷ 1 ∷ []) (2 ∷ []) ∷ mid.Help 35 (0 ∷ 1 ∷ 2 ∷ []) (0 ∷ 1 ∷ []) ∷ mid.Help 64 (0 ∷ []) [] ∷ mid.Fault 3 ∷ mid.Ret [] ∷ []

abbrev pub main : MidFn
main = record { values = 3; params = []; frame = 1; code = numbers ++ (accesses ++ (atomic ++ (jumps ++ calls))) }

abbrev pub callee : MidFn
callee = record { values = 2; params = 0 ∷ 1 ∷ []; frame = 0; code = mid.Ret (0 ∷ []) ∷ [] }

abbrev pub program : MidCode
program = record { fns = main ∷ callee ∷ []; checks = record { size = 2; runs = [] } ∷ [] }

abbrev two : Op2 → Operand → Operand → Item
two op s d = item.Is (Two op false s d)

abbrev mov : Operand → Operand → Item
mov s d = two op2.Mov s d

abbrev mov_b : Operand → Operand → Item
mov_b s d = item.Is (Two op2.Mov true s d)

abbrev push : Operand → Item
push s = item.Is (One Push false s)

-- homes of the first function: two bytes of frame, and the values behind them
abbrev v0 : Operand
v0 = Indexed 1 2

abbrev v1 : Operand
v1 = Indexed 1 4

abbrev v2 : Operand
v2 = Indexed 1 6

abbrev r12 : Operand
r12 = Reg 12

abbrev pub main_items : List Item
main_items =
    -- the entry: eight bytes
    push (Constant 0) ∷ push (Constant 0) ∷ push (Constant 0) ∷ push (Constant 0)
    ∷ mov (Immediate 300) v0
    ∷ mov (Constant 1) v1
    ∷ mov v0 v2
    ∷ two op2.Add v1 v0
    ∷ mov v0 r12 ∷ two op2.Sub v1 r12 ∷ mov r12 v2
    ∷ mov v0 r12 ∷ two op2.Add v1 r12 ∷ mov (Constant 0) r12 ∷ two op2.Addc (Constant 0) r12 ∷ mov r12 v2
    ∷ two op2.Cmp v1 v0 ∷ mov (Constant 0) r12 ∷ two op2.Addc (Constant 0) r12 ∷ two op2.Xor (Constant 1) r12 ∷ mov r12 v2
    -- loads and stores, and the same of the frame
    ∷ mov v0 r12 ∷ mov (Indirect 12) v2
    ∷ mov v0 r12 ∷ mov_b (Indirect 12) r12 ∷ mov r12 v2
    ∷ mov v0 r12 ∷ mov v2 (Indexed 12 0)
    ∷ mov v0 r12 ∷ mov_b v2 (Indexed 12 0)
    ∷ mov v0 r12 ∷ two op2.Add (Reg 1) r12 ∷ mov_b (Indirect 12) r12 ∷ mov r12 v2
    ∷ mov v0 r12 ∷ two op2.Add (Reg 1) r12 ∷ mov v2 (Indexed 12 0)
    ∷ mov (Absolute 0x0120) v1
    -- a tick, and an atomic statement
    ∷ mov (Constant 0) (Reg 3)
    ∷ mov (Reg 2) (Indexed 1 0) ∷ two op2.Bic (Constant 8) (Reg 2) ∷ mov (Constant 0) (Reg 3)
    ∷ mov v1 (Absolute 0x0122)
    ∷ mov (Indexed 1 0) (Reg 2)
    -- at most, unsigned: the second is compared with the first
    ∷ item.Label 7
    ∷ two op2.Cmp v0 v1 ∷ item.Jump Jc 7
    ∷ two op2.Cmp v1 v0 ∷ item.Jump Jl 7
    ∷ item.Jump Jmp 7
    -- the second value passed lies two bytes deeper behind the first PUSH
    ∷ push v0 ∷ push (Indexed 1 6) ∷ item.CallFn 1 ∷ two op2.Add (Constant 4) (Reg 1) ∷ mov r12 v2
    ∷ mov v0 r12 ∷ mov v1 (Reg 13) ∷ mov v2 (Reg 14) ∷ item.CallFn 37 ∷ mov r12 v0 ∷ mov (Reg 13) v1
    ∷ mov v0 r12 ∷ item.CallFn 50
    ∷ mov (Immediate 3) (Absolute 0x0104)
    ∷ two op2.Add (Constant 8) (Reg 1) ∷ mov (Increment 1) (Reg 0) ∷ []

-- the first parameter lies behind the second one and the return address
abbrev pub callee_items : List Item
callee_items = mov (Indexed 1 4) r12 ∷ mov (Increment 1) (Reg 0) ∷ []

abbrev pub WorkedRows : Type 0
WorkedRows =
    all_code program
    ≡ record { frame = 8; items = main_items; calls = 1 ∷ 37 ∷ 50 ∷ [] } ∷ record { frame = 4; items = callee_items; calls = [] } ∷ []
