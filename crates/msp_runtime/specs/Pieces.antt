-- Items whose labels count from another number on, and what signed divisions begin and end with (own).
use Rattle.std.specs.Prelude.{ℕ, ◌+◌, ◌%◌, true, false, List, [], ◌∷◌, ◌++◌, map}
use Rattle.msp_isa.specs.declared.code.Item.{Item}
use Rattle.msp_isa.specs.declared.code.Item.TheVariants as item
use Rattle.msp_isa.specs.declared.instr.Instr.TheVariants.{Two, One}
use Rattle.msp_isa.specs.declared.instr.Op1.TheVariants.{Push}
use Rattle.msp_isa.specs.declared.instr.Op2.TheVariants.{Mov, Add}
use Rattle.msp_isa.specs.declared.instr.Operand.TheVariants.{Reg, Indexed, Constant}
use Rattle.msp_runtime.specs.Code.{items_from}
use Rattle.msp_runtime.specs.Routines.{all, magnitude_wide, set, signed_back}

abbrev pub shifted : ℕ → Item → Item
shifted first (item.Jump c l) = item.Jump c ((first + l) % 4294967296)
shifted first (item.Label l) = item.Label ((first + l) % 4294967296)
shifted first i = i

-- R11 is pushed last
abbrev pub pushes_of_four : List Item
pushes_of_four = map (λ r. item.Is (One Push false (Reg r))) (8 ∷ 9 ∷ 10 ∷ 11 ∷ [])

abbrev pub restores : ℕ → List Item
restores r = item.Is (Two Mov false (Indexed 1 0) (Reg r)) ∷ item.Is (Two Add false (Constant 2) (Reg 1)) ∷ []

abbrev pub restores_of_four : List Item
restores_of_four = restores 11 ++ (restores 10 ++ (restores 9 ++ restores 8))

-- R8 to R11 are pushed, and x is without its sign, which R8 counts
abbrev pub signed_start : List Item
signed_start = pushes_of_four ++ items_from (all (set 0 8 ∷ magnitude_wide true 12 13 ∷ [])) 0

-- where R8 says so, the result is turned back
abbrev pub signed_end : List Item
signed_end = items_from signed_back 8 ++ restores_of_four
