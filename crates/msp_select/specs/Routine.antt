-- What is so of a routine that the code of a Help calls: it takes values in registers from R12 on, gives others there, and does
-- nothing else that lasts (own).
use Rattle.std.specs.Prelude.{◌≡◌, ℕ, zero, suc, ◌+◌, ◌/◌, ◌%◌, ◌<◌, ◌≤◌, false, List, [], ◌∷◌, length, Option, Some, None}
use Rattle.nm_base.specs.declared.memory_map.TheConstants.{RAM_END, RAM_START}
use Rattle.nm_base.specs.declared.action.Action.{Action}
use Rattle.nm_base.specs.declared.action.Action.TheVariants as action
use Rattle.msp_isa.specs.declared.instr.Instr.TheVariants.{Two}
use Rattle.msp_isa.specs.declared.instr.Op2.TheVariants.{Mov}
use Rattle.msp_isa.specs.declared.instr.Operand.TheVariants.{Reg, Increment}
use Rattle.msp_isa.specs.Stands.{word_in}
use Rattle.open_law.specs.Stands.{IsMarked}
use Rattle.msp430_cpu.specs.Cpu.{Cpu, even, gie, cpuoff, reg}
use Rattle.mid_code.specs.declared.code.MidCode.{MidCode}
use Rattle.mid_code.specs.Form.{HelpFits}
use Rattle.mid_code.specs.Help.{helped, operation_at, type_at}
use Rattle.mid_code.specs.Reached.{DividesByOther}
use Rattle.open_law.specs.Body.{code_below}
use Rattle.open_law.specs.Open.{Code, Done, HoldsWords, IsFair, IsMoment, Moment, Open, instruction, open_start, went}

-- registers from R r on hold these words
abbrev pub Hold : (r : ℕ) → List ℕ → (ℕ → ℕ) → Type 0
Hold r [] regs = Unit {0}
Hold r (x ∷ xs) regs = (regs r ≡ x) × (x < 0x10000) × Hold (suc r) xs regs

-- the bytes of stack that a routine takes, its own return address included
abbrev pub routine_stack : ℕ
routine_stack = 60

module _ (code : Code) where
  -- an instruction of open code that does this alone
  pub record Does (now : Moment) (o : Open) (did : List Done) : Type 0 where
    pub fair : IsFair code now o
    pub noted : (instruction code now o).after.bus.ports ≡ did

  -- So many instructions that do nothing, whatever happens at each: Good holds before each of them, and End behind the last
  abbrev pub Turns : (Good End : Open → Type 0) → ℕ → Open → Type 0
  Turns Good End zero o = End o
  Turns Good End (suc n) o = Good o × ((now : Moment) → IsMoment now → Does now o [] × Turns Good End n (went code now o))

  -- where it was called with this processor and memory
  module _ (start : Cpu) (ram : ℕ → ℕ) where
    -- its stack is small, and GIE and the gate are as they were
    pub record IsInside (o : Open) : Type 0 where
      pub low : start.sp + 2 ≤ o.cpu.sp + routine_stack
      pub high : o.cpu.sp ≤ start.sp
      pub words : HoldsWords o.cpu
      pub bytes : (a : ℕ) → o.ram a < 0x100
      pub awake : cpuoff o.cpu ≡ false
      pub gate : o.cpu.gate ≡ gie start
      pub gie : gie o.cpu ≡ gie start

    -- no silent actions stand in front of its instructions
    abbrev pub IsGoing : Open → Type 0
    IsGoing o = IsInside o × (code.marks o.cpu.pc ≡ [])

    -- It is back: behind its return address, with this result, and R4 to R11 and the stack are as they were
    pub record IsBack (given : List ℕ) (o : Open) : Type 0 where
      pub sp : o.cpu.sp ≡ start.sp + 2
      pub pc : o.cpu.pc ≡ even (word_in ram start.sp)
      pub words : HoldsWords o.cpu
      pub bytes : (a : ℕ) → o.ram a < 0x100
      pub awake : cpuoff o.cpu ≡ false
      pub gate : o.cpu.gate ≡ gie start
      pub gie : gie o.cpu ≡ gie start
      pub kept : (r : ℕ) → 4 ≤ r → r < 12 → reg o.cpu r ≡ reg start r
      pub above : (a : ℕ) → start.sp + 2 ≤ a → a < code.top → o.ram a ≡ ram a
      pub result : Hold 12 given (reg o.cpu)

    -- or its next instruction raises fault 2
    abbrev pub Faults : Open → Type 0
    Faults o = IsGoing o × ((now : Moment) → IsMoment now → Does now o (record { action = action.Fault 2; answers = [] } ∷ []) × IsInside (went code now o))

    abbrev pub Ends : Option (List ℕ) → Open → Type 0
    Ends (Some given) o = IsBack given o
    Ends None o = Faults o

-- The code at this entry is a routine: for values that it takes, called with SP at its return address, it gives what is said, or
-- raises fault 2 where that is none, in fewer than so many instructions
pub record IsRoutineOf (Takes : List ℕ → Type 0) (gives : List ℕ → Option (List ℕ)) (image : ℕ → ℕ) (data_end : ℕ) (marks : ℕ → List Action) (entry most : ℕ) : Type 0 where
  pub even_entry : even entry ≡ entry
  pub small_entry : entry < 0x10000
  pub runs : (values : List ℕ) (top : ℕ) (start : Cpu) (ram : ℕ → ℕ) → Takes values → start.pc ≡ entry → HoldsWords start → cpuoff start ≡ false → start.gate ≡ gie start → Hold 12 values (reg start) → ((a : ℕ) → ram a < 0x100) →
      data_end + routine_stack ≤ start.sp + 2 → start.sp + 2 ≤ top → top ≤ RAM_END →
      (n : ℕ) × (n < most) × Turns (code_below image data_end marks top) (IsGoing (code_below image data_end marks top) start ram) (Ends (code_below image data_end marks top) start ram (gives values)) n (open_start start ram)

-- values as the rules of form have them
abbrev pub IsPassed : MidCode → (h : ℕ) → List ℕ → Type 0
IsPassed c h values = (outs : ℕ) × HelpFits (length c.checks) h (length values) outs × DividesByOther (type_at (h / 8)) (operation_at (h % 8)) values

-- the routine of a helper gives what the helper gives
abbrev pub IsRoutine : MidCode → (image : ℕ → ℕ) → (data_end : ℕ) → (marks : ℕ → List Action) → (h entry most : ℕ) → Type 0
IsRoutine c image data_end marks h entry most = IsRoutineOf (IsPassed c h) (helped c h) image data_end marks entry most

-- a lone RET is a routine that gives the values that it is passed
abbrev pub LoneReturnGivesBack : Type 0
LoneReturnGivesBack =
    (image : ℕ → ℕ) (data_end : ℕ) (marks : ℕ → List Action) (entry : ℕ) → RAM_START ≤ data_end → IsMarked image marks entry [] (Two Mov false (Increment 1) (Reg 0)) →
    IsRoutineOf (λ values. length values ≤ 4) (λ values. Some values) image data_end marks entry 2
