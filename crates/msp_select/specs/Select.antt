-- The code of each instruction of the middle code (own; as a processor with two operands has it).
use Rattle.std.specs.Prelude.{ℕ, zero, suc, ◌+◌, ◌-◌, ◌*◌, ◌/◌, ◌==◌, nat_lt, Bool, true, false, List, [], ◌∷◌, ◌++◌, length, map, negsuc, if◌then◌else◌}
use Rattle.nm_base.specs.declared.memory_map.TheConstants.{FAULT}
use Rattle.nm_base.specs.declared.action.Action.{Action}
use Rattle.nm_base.specs.declared.action.Action.TheVariants as action
use Rattle.msp_isa.specs.declared.code.Item.{Item}
use Rattle.msp_isa.specs.declared.code.Item.TheVariants as item
use Rattle.msp_isa.specs.declared.instr.Cond.{Cond}
use Rattle.msp_isa.specs.declared.instr.Cond.TheVariants.{Jne, Jeq, Jnc, Jc, Jge, Jl, Jmp}
use Rattle.msp_isa.specs.declared.instr.Instr.{Instr}
use Rattle.msp_isa.specs.declared.instr.Instr.TheVariants as instr
use Rattle.msp_isa.specs.declared.instr.Op1.TheVariants as op1
use Rattle.msp_isa.specs.declared.instr.Op2.{Op2}
use Rattle.msp_isa.specs.declared.instr.Op2.TheVariants as op2
use Rattle.msp_isa.specs.declared.instr.Operand.{Operand}
use Rattle.msp_isa.specs.declared.instr.Operand.TheVariants.{Reg, Indexed, Absolute, Indirect, Increment, Immediate, Constant}
use Rattle.mid_code.specs.declared.code.MidFn.{MidFn}
use Rattle.mid_code.specs.declared.code.MidCode.{MidCode}
use Rattle.mid_code.specs.declared.instr.Op.{Op}
use Rattle.mid_code.specs.declared.instr.Op.TheVariants as op
use Rattle.mid_code.specs.declared.instr.Test.{Test}
use Rattle.mid_code.specs.declared.instr.Test.TheVariants as test
use Rattle.mid_code.specs.declared.instr.Mid.{Mid}
use Rattle.mid_code.specs.declared.instr.Mid.TheVariants.{Set, Move, Bin, Carry, Load, Store, Peek, Poke, In, Out, Label, Jump, Branch, Call, Help, Ret, Begin, End, Post, Tick, Fault}
use Rattle.mid_code.specs.Help.{first_check}
use Rattle.mid_code.specs.Machine.{fn_of}
use Rattle.open_law.specs.Homes.{Home, InRegister, InFrame, Source, Of, StackPointer, at_home, operand_of, literal}
use Rattle.msp_select.specs.Frames.{count_pushed, pushed}

-- an item, and the silent actions that stand in front of its instruction
pub record Part : Type 0 where
  pub silent : List Action
  pub item : Item

abbrev pub plain : Instr → Part
plain i = record { silent = []; item = item.Is i }

abbrev pub two : Op2 → Source → Home → Part
two op s h = plain (instr.Two op false (operand_of s) (at_home h))

abbrev pub moving : Source → Home → Part
moving s h = two op2.Mov s h

-- MOV or MOV.B between what an operand names
abbrev pub moved : (byte : Bool) → Operand → Operand → Part
moved byte s d = plain (instr.Two op2.Mov byte s d)

abbrev pub nop : List Action → Part
nop silent = record { silent = silent; item = item.Is (instr.Two op2.Mov false (Constant 0) (Reg 3)) }

abbrev pub return : Part
return = moved false (Increment 1) (Reg 0)

-- R12 and R13 are free between two instructions of the middle code
abbrev pub scratch : Home
scratch = InRegister 12

abbrev pub operator : Op → Op2
operator op.Add = op2.Add
operator op.Sub = op2.Sub
operator op.And = op2.And
operator op.Or = op2.Bis
operator op.Xor = op2.Xor

-- whether a test compares the second value with the first, and the jump that is taken then, behind CMP
abbrev pub is_turned : Test → Bool
is_turned test.Le = true
is_turned test.LeU = true
is_turned _ = false

abbrev pub taken_by : Test → Cond
taken_by test.Eq = Jeq
taken_by test.Ne = Jne
taken_by test.Lt = Jl
taken_by test.Le = Jge
taken_by test.LtU = Jnc
taken_by test.LeU = Jc

-- a home where so many words more lie on the stack
abbrev pub deeper : ℕ → Home → Home
deeper k (InRegister r) = InRegister r
deeper k (InFrame x) = InFrame (x + 2 * k)

-- the place of a helper's routine behind so many functions: 48 operations, then the checks
abbrev pub routine_of : (fns h : ℕ) → ℕ
routine_of fns h = if nat_lt h first_check then fns + h else fns + 48 + (h - first_check)

-- SP is raised by so many bytes
abbrev pub raised : ℕ → List Part
raised n = if n == 0 then [] else plain (instr.Two op2.Add false (operand_of (literal n)) (Reg 1)) ∷ []

-- so many zeros are pushed, one after another; or in a loop: MOV #n, R12; PUSH #0; SUB #1, R12; JNE to the PUSH
abbrev pub push_zero : Part
push_zero = plain (instr.One op1.Push false (Constant 0))

abbrev pub zeros : ℕ → List Part
zeros zero = []
zeros (suc n) = push_zero ∷ zeros n

abbrev pub zero_loop : ℕ → List Part
zero_loop n = moving (literal n) scratch ∷ push_zero ∷ plain (instr.Two op2.Sub false (Constant 1) (Reg 12)) ∷ plain (instr.Jump Jne (negsuc 2)) ∷ []

-- the code before the first instruction: all of the frame and all values but the parameters are 0
abbrev pub entry_of : (own : ℕ) → List Part
entry_of own = if nat_lt (own / 2) 6 then zeros (own / 2) else zero_loop (own / 2)

module _ (c : MidCode) (home : ℕ → Home) (own : ℕ) where
  abbrev pub value : ℕ → Source
  value v = Of (home v)

  -- PUSH of values, where k words more lie on the stack
  abbrev pub pushes : (k : ℕ) → List ℕ → List Part
  pushes k [] = []
  pushes k (x ∷ xs) = plain (instr.One op1.Push false (operand_of (Of (deeper k (home x))))) ∷ pushes (suc k) xs

  -- values to registers from R12 on, and from R12 and R13 to values
  abbrev pub gives : (r : ℕ) → List ℕ → List Part
  gives r [] = []
  gives r (x ∷ xs) = moving (value x) (InRegister r) ∷ gives (suc r) xs

  abbrev pub takes : (r : ℕ) → List ℕ → List Part
  takes r [] = []
  takes r (x ∷ xs) = moving (Of (InRegister r)) (home x) ∷ takes (suc r) xs

  -- an address in the frame
  abbrev pub frame_address : ℕ → List Part
  frame_address x = moving (value x) scratch ∷ two op2.Add StackPointer scratch ∷ []

  -- a word, or a byte, that R12 leads to
  abbrev pub fetched : (is_word : Bool) → ℕ → List Part
  fetched true v = moved false (Indirect 12) (at_home (home v)) ∷ []
  fetched false v = moved true (Indirect 12) (Reg 12) ∷ moving (Of scratch) (home v) ∷ []

  abbrev pub stored : (is_word : Bool) → ℕ → List Part
  stored true v = moved false (operand_of (value v)) (Indexed 12 0) ∷ []
  stored false v = moved true (operand_of (value v)) (Indexed 12 0) ∷ []

  abbrev pub carried : Op → (v x y : ℕ) → List Part
  carried op.Add v x y = moving (value x) scratch ∷ two op2.Add (value y) scratch ∷ moving (literal 0) scratch ∷ two op2.Addc (literal 0) scratch ∷ moving (Of scratch) (home v) ∷ []
  -- C is set where nothing was borrowed
  carried op.Sub v x y = two op2.Cmp (value y) (home x) ∷ moving (literal 0) scratch ∷ two op2.Addc (literal 0) scratch ∷ two op2.Xor (literal 1) scratch ∷ moving (Of scratch) (home v) ∷ []
  carried _ v x y = moving (literal 0) (home v) ∷ []

  abbrev pub compared : Test → (x y : ℕ) → Part
  compared t x y = if is_turned t then two op2.Cmp (value x) (home y) else two op2.Cmp (value y) (home x)

  abbrev pub parts_of : Mid → List Part
  parts_of (Set v n) = moving (literal n) (home v) ∷ []
  parts_of (Move v x) = moving (value x) (home v) ∷ []
  parts_of (Bin op v x y) =
      if v == x
      then two (operator op) (value y) (home v) ∷ []
      else moving (value x) scratch ∷ two (operator op) (value y) scratch ∷ moving (Of scratch) (home v) ∷ []
  parts_of (Carry op v x y) = carried op v x y
  parts_of (Load is_word v x) = moving (value x) scratch ∷ fetched is_word v
  parts_of (Store is_word v x) = moving (value x) scratch ∷ stored is_word v
  parts_of (Peek is_word v x) = frame_address x ++ fetched is_word v
  parts_of (Poke is_word v x) = frame_address x ++ stored is_word v
  parts_of (In v port) = moved false (Absolute port) (at_home (home v)) ∷ []
  parts_of (Out port v) = moved false (operand_of (value v)) (Absolute port) ∷ []
  parts_of (Label l) = record { silent = []; item = item.Label l } ∷ []
  parts_of (Jump l) = record { silent = []; item = item.Jump Jmp l } ∷ []
  parts_of (Branch t x y l) = compared t x y ∷ record { silent = []; item = item.Jump (taken_by t) l } ∷ []
  parts_of (Call g ins outs) =
      pushes 0 (pushed (fn_of c g).params ins) ++ (record { silent = []; item = item.CallFn g } ∷ (raised (2 * count_pushed (fn_of c g).params) ++ takes 12 outs))
  parts_of (Help h ins outs) = gives 12 ins ++ (record { silent = []; item = item.CallFn (routine_of (length c.fns) h) } ∷ takes 12 outs)
  parts_of (Ret vs) = gives 12 vs ++ (raised own ++ return ∷ [])
  parts_of (Begin o) = moved false (Reg 2) (Indexed 1 o) ∷ plain (instr.Two op2.Bic false (Constant 8) (Reg 2)) ∷ nop (action.Begin ∷ []) ∷ []
  parts_of (End o) = record { silent = action.End ∷ []; item = item.Is (instr.Two op2.Mov false (Indexed 1 o) (Reg 2)) } ∷ []
  -- a Post is the call of a function before selection
  parts_of (Post k v) = []
  parts_of Tick = nop (action.Tick ∷ []) ∷ []
  parts_of (Fault code) = moved false (Immediate code) (Absolute FAULT) ∷ []

  abbrev pub parts_of_all : List Mid → List Part
  parts_of_all [] = []
  parts_of_all (i ∷ is) = parts_of i ++ parts_of_all is

-- a function's code
abbrev pub parts_of_fn : MidCode → (home : ℕ → Home) → (own : ℕ) → MidFn → List Part
parts_of_fn c home own fn = entry_of own ++ parts_of_all c home own fn.code

abbrev pub items_of : List Part → List Item
items_of ps = map (λ (p : Part). p.item) ps
