-- The code round compiled bodies (own): of a line's handler, of an atomic statement, of sleep, and from reset on.
use Rattle.std.specs.Prelude.{ℕ, false, negsuc, List, [], ◌∷◌, ◌++◌, map, Option, Some, None}
use Rattle.nm_base.specs.declared.memory_map.TheConstants.{RAM_END}
use Rattle.msp_isa.specs.declared.code.CodeFn.{CodeFn}
use Rattle.msp_isa.specs.declared.code.Item.{Item}
use Rattle.msp_isa.specs.declared.code.Item.TheVariants.{Is, CallFn}
use Rattle.msp_isa.specs.declared.instr.Cond.TheVariants.{Jmp}
use Rattle.msp_isa.specs.declared.instr.Instr.{Instr}
use Rattle.msp_isa.specs.declared.instr.Instr.TheVariants.{Two, One, Jump, Reti}
use Rattle.msp_isa.specs.declared.instr.Op1.TheVariants.{Push}
use Rattle.msp_isa.specs.declared.instr.Op2.TheVariants.{Mov, Bic, Bis}
use Rattle.msp_isa.specs.declared.instr.Operand.TheVariants.{Reg, Indexed, Increment, Immediate, Constant}
use Rattle.code_pieces.specs.declared.pieces.PieceKind.{PieceKind}
use Rattle.code_pieces.specs.declared.pieces.PieceKind.TheVariants.{Entry, Exit, Begin, End, Sleep}

abbrev pub push : ℕ → Instr
push r = One Push false (Reg r)

abbrev pub pop : ℕ → Instr
pop r = Two Mov false (Increment 1) (Reg r)

-- all registers but PC, SP, SR and CG2, the last one first
abbrev pub saved : List ℕ
saved = 15 ∷ 14 ∷ 13 ∷ 12 ∷ 11 ∷ 10 ∷ 9 ∷ 8 ∷ 7 ∷ 6 ∷ 5 ∷ 4 ∷ []

abbrev pub restored : List ℕ
restored = 4 ∷ 5 ∷ 6 ∷ 7 ∷ 8 ∷ 9 ∷ 10 ∷ 11 ∷ 12 ∷ 13 ∷ 14 ∷ 15 ∷ []

-- the handler's code keeps the registers of what it interrupts ..
abbrev pub entry : List Instr
entry = map push saved

-- CPUOFF is cleared in the saved SR, so that what slept goes on
abbrev pub awake : Instr
awake = Two Bic false (Immediate 16) (Indexed 1 0)

-- .. and gives them back
abbrev pub exit : List Instr
exit = map pop restored ++ (awake ∷ Reti ∷ [])

abbrev pub nop : Instr
nop = Two Mov false (Constant 0) (Reg 3)

abbrev pub open_gate : Instr
open_gate = Two Bis false (Constant 8) (Reg 2)

-- An atomic statement keeps SR in its frame and clears GIE; the gate is shut behind the instruction that follows
abbrev pub begin : ℕ → List Instr
begin place = Two Mov false (Reg 2) (Indexed 1 place) ∷ Two Bic false (Constant 8) (Reg 2) ∷ nop ∷ []

-- and gives SR back, so that an inner one opens nothing
abbrev pub end : ℕ → List Instr
end place = Two Mov false (Indexed 1 place) (Reg 2) ∷ []

-- GIE and CPUOFF are set at once, so that no line comes between
abbrev pub sleep : List Instr
sleep = Two Bis false (Immediate 0x18) (Reg 2) ∷ []

-- a function of such items, with the bytes that it holds on the stack
abbrev pub whole : ℕ → List ℕ → List Item → CodeFn
whole frame calls items = record { frame = frame; items = items; calls = calls }

abbrev pub piece_of : PieceKind → CodeFn
piece_of (Entry line) = whole 24 [] (map Is entry)
piece_of Exit = whole 0 [] (map Is exit)
piece_of (Begin place) = whole 0 [] (map Is (begin place))
piece_of (End place) = whole 0 [] (map Is (end place))
piece_of Sleep = whole 0 [] (map Is sleep)

abbrev pub functions : Option ℕ → List ℕ
functions None = []
functions (Some f) = f ∷ []

-- the acceptance's four bytes and those of entry; a line without a handler counts as one that calls a function without a frame
abbrev pub line_frame : Option ℕ → ℕ
line_frame None = 30
line_frame (Some f) = 28

-- The code at a line's vector: entry, a call of the handler's function where there is one, exit
abbrev pub handler_of : Option ℕ → CodeFn
handler_of body = whole (line_frame body) (functions body) (map Is entry ++ (map CallFn (functions body) ++ map Is exit))

-- The code at reset: SP is set to the top of RAM, GIE is set, the boot function is called; behind it the mote sleeps, and again each
-- time it is woken
abbrev pub reset_of : ℕ → CodeFn
reset_of boot = whole 0 (boot ∷ []) (
    Is (Two Mov false (Immediate RAM_END) (Reg 1))
    ∷ Is open_gate
    ∷ CallFn boot
    ∷ (map Is sleep ++ Is (Jump Jmp (negsuc 2)) ∷ [])
    )
