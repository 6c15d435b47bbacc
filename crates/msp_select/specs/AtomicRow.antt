-- A function whose code meets all that selection relies on: five goes to a port in an atomic statement.
use Rattle.std.specs.Prelude.{ℕ, ◌*◌, ◌+◌, ◌-◌, ◌==◌, List, [], ◌∷◌, slice_index, if◌then◌else◌}
use Rattle.nm_base.specs.declared.action.Action.{Action}
use Rattle.nm_base.specs.declared.action.Action.TheVariants as action
use Rattle.msp_isa.specs.Image.{image_map}
use Rattle.mid_code.specs.declared.code.MidFn.{MidFn}
use Rattle.mid_code.specs.declared.code.MidCode.{MidCode}
use Rattle.mid_code.specs.declared.instr.Mid.TheVariants.{Set, Out, Ret, Begin, End, Tick}
use Rattle.mid_code.specs.Machine.{Activation}
use Rattle.open_law.specs.Body.{IsOpenFunction}
use Rattle.msp_select.specs.Sound.{body_of}

abbrev pub fn : MidFn
fn = record { values = 1; params = []; frame = 2; code = Set 0 5 ∷ Tick ∷ Begin 0 ∷ Out 0x0120 0 ∷ End 0 ∷ Ret [] ∷ [] }

abbrev pub code : MidCode
code = record { fns = fn ∷ []; checks = [] }

-- PUSH #0 twice; MOV #5, 2(SP); NOP; MOV SR, 0(SP); BIC #8, SR; NOP; MOV 2(SP), &0x0120; MOV 0(SP), SR; ADD #4, SP; RET
abbrev pub words : List ℕ
words =
    0x1203 ∷ 0x1203 ∷ 0x40B1 ∷ 5 ∷ 2 ∷ 0x4303 ∷ 0x4281 ∷ 0 ∷ 0xC232 ∷ 0x4303 ∷ 0x4192 ∷ 2 ∷ 0x0120 ∷ 0x4112 ∷ 0 ∷ 0x5221 ∷ 0x4130 ∷ []

abbrev pub image : ℕ → ℕ
image = image_map words []

-- the silent actions in front of the instructions
abbrev pub marks : ℕ → List Action
marks pc =
    if pc == 0x400A then action.Tick ∷ [] else
    if pc == 0x4012 then action.Begin ∷ [] else
    if pc == 0x401A then action.End ∷ [] else []

abbrev pub places : ℕ → ℕ → ℕ
places f k = slice_index (0x4004 ∷ 0x400A ∷ 0x400C ∷ 0x4014 ∷ 0x401A ∷ 0x401E ∷ 0x4022 ∷ []) k

-- how many instructions are left
abbrev pub left : List Activation → ℕ
left [] = 0
left (a ∷ rest) = 6 - a.at

abbrev pub AtomicRowIsOpen : Type 0
AtomicRowIsOpen = IsOpenFunction image 0x1100 marks 0 (body_of code 0) 0x4000 4 (8 * (2 * 6 + 3))

-- how many instructions are ahead: Set has one, and Ret has four, with three of its caller
abbrev pub weight : List Activation → ℕ
weight [] = 0
weight (a ∷ rest) = if a.at == 0 then 8 else 7

-- seven instructions of the entry, and eight of the longest piece
abbrev pub AtomicRowIsPaced : Type 0
AtomicRowIsPaced = IsOpenFunction image 0x1100 marks 0 (body_of code 0) 0x4000 4 (8 + 7 + 8 + 2)
