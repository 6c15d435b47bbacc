-- Where the code of functions stands in an image: the instructions of each item at its address, jumps and calls leading to
-- the addresses of labels and functions (SLAU049, sections 3.3 and 3.4; jumps that reach farther are own).
use Rattle.std.specs.Prelude.{◌≡◌, ℕ, ℤ, pos, negsuc, ◌+◌, ◌-◌, ◌*◌, ◌/◌, ◌%◌, ◌<◌, ◌≤◌, nat_le, Bool, true, false, if◌then◌else◌, List, [], ◌∷◌, ◌++◌, length, slice_index_or}
use Rattle.nm_base.specs.declared.memory_map.TheConstants.{CODE_START}
use Rattle.msp_isa.specs.declared.code.CodeFn.{CodeFn}
use Rattle.msp_isa.specs.declared.code.Item.{Item}
use Rattle.msp_isa.specs.declared.code.Item.TheVariants as item
use Rattle.msp_isa.specs.declared.instr.Cond.{Cond}
use Rattle.msp_isa.specs.declared.instr.Cond.TheVariants.{Jne, Jeq, Jnc, Jc, Jn, Jge, Jl, Jmp}
use Rattle.msp_isa.specs.declared.instr.Op1.TheVariants.{Call}
use Rattle.msp_isa.specs.declared.instr.Op2.TheVariants.{Mov}
use Rattle.msp_isa.specs.declared.instr.Operand.TheVariants.{Reg, Immediate}
use Rattle.msp_isa.specs.declared.instr.Instr.{Instr}
use Rattle.msp_isa.specs.declared.instr.Instr.TheVariants.{Two, One, Jump, Reti}
use Rattle.msp_isa.specs.Encode.{encoded, IsWritten}

-- the word that memory holds at an address
abbrev pub word_in : (ℕ → ℕ) → ℕ → ℕ
word_in image a = image a + 256 * image (a + 1)

-- the words of an instruction stand at an even address of the code
pub record IsAt (image : ℕ → ℕ) (pc : ℕ) (i : Instr) : Type 0 where
  pub even : pc % 2 ≡ 0
  pub low : CODE_START ≤ pc
  pub high : pc + 6 < 0x10000
  pub written : IsWritten i
  pub rest : List ℕ
  pub words : word_in image pc ∷ word_in image (pc + 2) ∷ word_in image (pc + 4) ∷ [] ≡ encoded i ++ rest

-- instructions stand one behind the other, from one address to another
abbrev pub AreAt : (ℕ → ℕ) → ℕ → List Instr → ℕ → Type 0
AreAt image pc [] end = pc ≡ end
AreAt image pc (i ∷ is) end = IsAt image pc i × AreAt image (pc + 2 * length (encoded i)) is end

-- the words from behind a jump's word to an address
abbrev pub words_to : ℕ → ℕ → ℤ
words_to next target = if nat_le next target then pos ((target - next) / 2) else negsuc ((next - target - 1) / 2)

-- the condition that holds where this one does not; JN and JMP have none
abbrev pub reversed : Cond → Cond
reversed Jne = Jeq
reversed Jeq = Jne
reversed Jnc = Jc
reversed Jc = Jnc
reversed Jn = Jn
reversed Jge = Jl
reversed Jl = Jge
reversed Jmp = Jmp

abbrev pub goto : ℕ → Instr
goto target = Two Mov false (Immediate target) (Reg 0)

-- a jump of any reach: MOV #target, PC, behind the reversed condition; JN goes over a JMP that passes the MOV
abbrev pub long_jump : Cond → (target : ℕ) → List Instr
long_jump Jmp target = goto target ∷ []
long_jump Jn target = Jump Jn (pos 1) ∷ Jump Jmp (pos 2) ∷ goto target ∷ []
long_jump c target = Jump (reversed c) (pos 2) ∷ goto target ∷ []

-- the instructions of an item at an address, in the short or in the longer form, where functions have these entries
abbrev pub instructions : (entries : ℕ → ℕ) → (long : Bool) → (pc target : ℕ) → Item → List Instr
instructions entries long pc target (item.Is i) = i ∷ []
instructions entries long pc target (item.Label l) = []
instructions entries false pc target (item.Jump c l) = Jump c (words_to (pc + 2) target) ∷ []
instructions entries true pc target (item.Jump c l) = long_jump c target
instructions entries long pc target (item.CallFn f) = One Call false (Immediate (entries f)) ∷ []
instructions entries long pc target (item.AddrOf f r) = Two Mov false (Immediate (entries f)) (Reg r) ∷ []

-- the item at a place of a function; behind its items, one that names no label
abbrev pub item_at : List Item → ℕ → Item
item_at items k = slice_index_or items k (item.Is Reti)

-- an item leads to the places of its label
abbrev pub LeadsTo : List Item → Item → ℕ → Type 0
LeadsTo items (item.Jump c l) t = item_at items t ≡ item.Label l
LeadsTo items _ t = Unit {0}

abbrev pub no_code : CodeFn
no_code = record { frame = 0; items = []; calls = [] }

-- the items of a function
abbrev pub items_of : List CodeFn → ℕ → List Item
items_of code f = (slice_index_or code f no_code).items

-- Functions stand in an image: each item at its address, and behind it the next one
pub record IsLaid (image : ℕ → ℕ) (code : List CodeFn) (entries : ℕ → ℕ) : Type 0 where
  pub places : ℕ → ℕ → ℕ
  pub long : ℕ → ℕ → Bool
  pub entry : (f : ℕ) → f < length code → places f 0 ≡ entries f
  pub stands : (f k t : ℕ) → f < length code → k < length (items_of code f) → LeadsTo (items_of code f) (item_at (items_of code f) k) t →
      AreAt image (places f k) (instructions entries (long f k) (places f k) (places f t) (item_at (items_of code f) k)) (places f (k + 1))
