use Rattle.std.proofs.Common.{false, ◌∷◌, ◌++◌}
use Rattle.msp_isa.specs.declared.code.Item.TheVariants as item
use Rattle.msp_isa.specs.declared.instr.Instr.TheVariants.{One}
use Rattle.msp_isa.specs.declared.instr.Op1.TheVariants.{Push}
use Rattle.msp_isa.specs.declared.instr.Operand.TheVariants.{Reg}
use Rattle.msp_runtime.specs.Code.{items_from}
use Rattle.msp_runtime.specs.Pieces.{restores}
use Rattle.msp_runtime.specs.Routines.{fill, right_turns_wide}
use Rattle.msp_runtime.proofs.Joined.{joined_three}
use Rattle.msp_runtime.proofs.wide.put_shift_right_signed_wide.Goals as goal

pub returns : goal.returns
returns c =
    joined_three c.args.items.now.items (item.Is (One Push false (Reg 10)) ∷ item.Is (One Push false (Reg 11)) ∷ items_from (fill 13 10) 0) (items_from right_turns_wide 1) (restores 11 ++ restores 10)
    c.in_ok-put.ensures c.in_ok-put_right_turns_wide.ensures c.in_ok-put-2.ensures
