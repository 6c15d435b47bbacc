-- Code over registers in a few forms: what it does, the instructions that it takes at most, the stack that it uses, and its items
-- (own; operations and flags by SLAU049, 3.4).
use Rattle.std.specs.Prelude.{ℕ, zero, suc, ◌+◌, ◌-◌, ◌*◌, ◌≤◌, ◌==◌, ◌&&◌, ◌||◌, max, nat_le, nat_lt, not, Bool, true, false, List, [], ◌∷◌, ◌++◌, if◌then◌else◌}
use Rattle.msp_isa.specs.declared.code.Item.{Item}
use Rattle.msp_isa.specs.declared.code.Item.TheVariants as item
use Rattle.msp_isa.specs.declared.instr.Cond.{Cond}
use Rattle.msp_isa.specs.declared.instr.Cond.TheVariants.{Jne, Jeq, Jmp, Jn}
use Rattle.msp_isa.specs.declared.instr.Instr.TheVariants.{Two, One}
use Rattle.msp_isa.specs.declared.instr.Op1.TheVariants as op1
use Rattle.msp_isa.specs.declared.instr.Op2.{Op2}
use Rattle.msp_isa.specs.declared.instr.Op2.TheVariants.{Mov, Add, Sub, Cmp}
use Rattle.msp_isa.specs.declared.instr.Operand.TheVariants.{Reg, Indexed, Increment, Constant}
use Rattle.msp430_cpu.specs.Cpu.{changed_at}
use Rattle.msp430_cpu.specs.Operate.{is_taken, operate}
use Rattle.open_law.specs.Homes.{Source, Of, Number, Made, InRegister, InFrame, StackPointer, operand_of}

pub data Code : Type 0 where
  Nothing : Code
  -- an operation of a register or a number on a register
  Do : Op2 → Source → ℕ → Code
  Then : Code → Code → Code
  -- code that is passed over where a condition holds
  Skip : Cond → Code → Code
  -- code that is done as often as a register says, which is 0 then; at most so often
  Times : (most r : ℕ) → Code → Code
  -- code behind which a register has what it had
  Keeping : (r : ℕ) → Code → Code

-- what code over registers tells apart
pub record Registers : Type 0 where
  pub regs : ℕ → ℕ
  pub sr : ℕ
  pub sp : ℕ

abbrev pub value_of : Source → (ℕ → ℕ) → ℕ
value_of (Of (InRegister q)) regs = regs q
value_of (Of (InFrame x)) regs = 0
value_of (Number n) regs = n
value_of (Made n) regs = n
value_of StackPointer regs = 0

abbrev pub done : Op2 → Source → ℕ → Registers → Registers
done op s r st =
    let o = operate op false st.sr (value_of s st.regs) (st.regs r) in
    record { regs = if o.is_written then changed_at st.regs r o.result else st.regs; sr = o.sr; sp = st.sp }

-- so often, a register counting down
abbrev pub repeated : (Registers → Registers) → (r : ℕ) → ℕ → Registers → Registers
repeated f r zero st = st
repeated f r (suc k) st = repeated f r k (done Sub (Made 1) r (f st))

-- PUSH, and MOV 0(SP), R; ADD #2, SP
abbrev pub pushed : Registers → Registers
pushed st = record { regs = st.regs; sr = st.sr; sp = st.sp - 2 }

abbrev pub popped : (r word sp : ℕ) → Registers → Registers
popped r word sp st = record { regs = changed_at st.regs r word; sr = (operate Add false st.sr 2 st.sp).sr; sp = sp }

abbrev pub meaning : Code → Registers → Registers
meaning Nothing st = st
meaning (Do op s r) st = done op s r st
meaning (Then a b) st = meaning b (meaning a st)
meaning (Skip c a) st = if is_taken c st.sr then st else meaning a st
meaning (Times most r a) st = repeated (meaning a) r (st.regs r) (done Cmp (Made 0) r st)
meaning (Keeping r a) st = popped r (st.regs r) st.sp (meaning a (pushed st))

-- ---- instructions at most, where a jump that is taken may take two, and bytes of stack

abbrev pub weight : Code → ℕ
weight Nothing = 0
weight (Do op s r) = 1
weight (Then a b) = weight a + weight b
weight (Skip c a) = max 2 (1 + weight a)
weight (Times most r a) = 3 + most * (weight a + 3)
weight (Keeping r a) = 3 + weight a

abbrev pub depth : Code → ℕ
depth Nothing = 0
depth (Do op s r) = 0
depth (Then a b) = max (depth a) (depth b)
depth (Skip c a) = depth a
depth (Times most r a) = depth a
depth (Keeping r a) = 2 + depth a

-- ---- items, where labels from l on are free

abbrev pub labels : Code → ℕ
labels Nothing = 0
labels (Do op s r) = 0
labels (Then a b) = labels a + labels b
labels (Skip c a) = suc (labels a)
labels (Times most r a) = suc (suc (labels a))
labels (Keeping r a) = labels a

abbrev pub operation_item : Op2 → Source → ℕ → Item
operation_item op s r = item.Is (Two op false (operand_of s) (Reg r))

abbrev pub items_from : Code → (l : ℕ) → List Item
items_from Nothing l = []
items_from (Do op s r) l = operation_item op s r ∷ []
items_from (Then a b) l = items_from a l ++ items_from b (l + labels a)
items_from (Skip c a) l = item.Jump c l ∷ (items_from a (suc l) ++ item.Label l ∷ [])
items_from (Times most r a) l =
    operation_item Cmp (Made 0) r ∷ item.Jump Jeq l ∷ item.Label (suc l) ∷ (items_from a (suc (suc l)) ++ operation_item Sub (Made 1) r ∷ item.Jump Jne (suc l) ∷ item.Label l ∷ [])
items_from (Keeping r a) l = item.Is (One op1.Push false (Reg r)) ∷ (items_from a l ++ item.Is (Two Mov false (Indexed 1 0) (Reg r)) ∷ item.Is (Two Add false (Constant 2) (Reg 1)) ∷ [])

abbrev pub return : Item
return = item.Is (Two Mov false (Increment 1) (Reg 0))

-- a routine: code, and RET
abbrev pub routine_items : Code → List Item
routine_items c = items_from c 0 ++ return ∷ []

-- ---- code as it may be written

abbrev pub is_general : ℕ → Bool
is_general r = nat_le 4 r && nat_lt r 16

abbrev pub is_operand : Source → Bool
is_operand (Of (InRegister q)) = is_general q
is_operand (Number n) = nat_lt n 0x10000
is_operand (Made n) = nat_lt n 0x10000
is_operand _ = false

abbrev pub leaves : ℕ → Code → Bool
leaves r Nothing = true
leaves r (Do op s q) = not (r == q)
leaves r (Then a b) = leaves r a && leaves r b
leaves r (Skip c a) = leaves r a
leaves r (Times most q a) = not (r == q) && leaves r a
leaves r (Keeping q a) = (r == q) || leaves r a

abbrev pub is_short : Cond → Bool
is_short Jmp = false
is_short Jn = false
is_short _ = true

abbrev pub is_straight : Code → Bool
is_straight Nothing = true
is_straight (Do op s r) = true
is_straight (Then a b) = is_straight a && is_straight b
is_straight (Skip c a) = is_straight a
is_straight (Times most r a) = false
is_straight (Keeping r a) = is_straight a

-- registers from R4 on; a loop does not write what counts it, and has no loop inside
abbrev pub is_formed : Code → Bool
is_formed Nothing = true
is_formed (Do op s r) = is_general r && is_operand s
is_formed (Then a b) = is_formed a && is_formed b
is_formed (Skip c a) = is_short c && is_formed a
is_formed (Times most r a) = is_general r && (leaves r a && (is_straight a && is_formed a))
is_formed (Keeping r a) = is_general r && is_formed a

-- each loop is done at most as often as it says
abbrev pub IsBounded : Code → Registers → Type 0
IsBounded (Then a b) st = IsBounded a st × IsBounded b (meaning a st)
IsBounded (Skip c a) st = IsBounded a st
IsBounded (Times most r a) st = st.regs r ≤ most
IsBounded (Keeping r a) st = IsBounded a (pushed st)
IsBounded _ st = Unit {0}

-- R4 to R11 are as they were
abbrev pub leaves_others : Code → Bool
leaves_others c = leaves 4 c && (leaves 5 c && (leaves 6 c && (leaves 7 c && (leaves 8 c && (leaves 9 c && (leaves 10 c && leaves 11 c))))))
