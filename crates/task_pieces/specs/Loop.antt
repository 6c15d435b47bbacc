-- The code from reset on of a program with tasks (own).
use Rattle.std.specs.Prelude.{ℕ, pos, negsuc, false, List, [], ◌∷◌, ◌++◌}
use Rattle.nm_base.specs.declared.memory_map.TheConstants.{RAM_END}
use Rattle.msp_isa.specs.declared.code.CodeFn.{CodeFn}
use Rattle.msp_isa.specs.declared.code.Item.{Item}
use Rattle.msp_isa.specs.declared.code.Item.TheVariants as item
use Rattle.msp_isa.specs.declared.instr.Cond.TheVariants.{Jmp, Jne}
use Rattle.msp_isa.specs.declared.instr.Instr.TheVariants.{Two, Jump}
use Rattle.msp_isa.specs.declared.instr.Op2.TheVariants.{Mov}
use Rattle.msp_isa.specs.declared.instr.Operand.TheVariants.{Reg, Immediate}
use Rattle.code_pieces.specs.Pieces.{nop, open_gate}
use Rattle.preempt_tasks.specs.Bodies.{close_gate, compare, fall_asleep}
use Rattle.preempt_tasks.specs.Laid.{loop_items}

-- up to the choice of a task
abbrev pub turn_items : (boot pop none : ℕ) → List Item
turn_items boot pop none =
    item.Is (Two Mov false (Immediate RAM_END) (Reg 1)) ∷ item.Is open_gate ∷ item.CallFn boot
    ∷ item.Label 0 ∷ item.Is close_gate ∷ item.Is nop ∷ item.CallFn pop
    ∷ item.Is (compare 255) ∷ item.Is (Jump Jne (pos 3)) ∷ item.Is fall_asleep ∷ item.Is (Jump Jmp (negsuc 9))
    ∷ item.AddrOf none 13 ∷ []

-- nothing lies on the stack but return addresses; it calls the boot function, `pop`, the lone RET and the tasks' functions
abbrev pub loop_of : (boot pop none : ℕ) → List ℕ → CodeFn
loop_of boot pop none tasks = record { frame = 0; items = loop_items boot pop none tasks; calls = boot ∷ pop ∷ none ∷ tasks }
