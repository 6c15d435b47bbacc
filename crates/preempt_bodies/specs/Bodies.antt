-- An image of bodies that meet the open law, with the code of reset, sleep and handlers round them (own).
use Rattle.std.specs.Prelude.{[], ◌∷◌, ◌++◌, ◌≡◌, ℕ, ◌+◌, ◌-◌, ◌*◌, ◌<◌, ◌≤◌, false, negsuc, if◌then◌else◌, List, Option, Some, None}
use Rattle.nm_base.specs.declared.memory_map.TheConstants.{RAM_END, RAM_START, VECTORS}
use Rattle.nm_base.specs.Lists.{bit}
use Rattle.nm_base.specs.declared.action.Action.{Action}
use Rattle.nm_base.specs.Behaviour.{Performed}
use Rattle.core_meaning.specs.Source.{Source, act_of}
use Rattle.msp_isa.specs.declared.instr.Cond.TheVariants.{Jmp}
use Rattle.msp_isa.specs.declared.instr.Instr.{Instr}
use Rattle.msp_isa.specs.declared.instr.Instr.TheVariants.{Two, One, Jump}
use Rattle.msp_isa.specs.declared.instr.Op1.TheVariants.{Call}
use Rattle.msp_isa.specs.declared.instr.Op2.TheVariants.{Mov}
use Rattle.msp_isa.specs.declared.instr.Operand.TheVariants.{Reg, Immediate}
use Rattle.msp_isa.specs.Stands.{word_in, AreAt}
use Rattle.msp430_cpu.specs.Cpu.{Cpu, even}
use Rattle.open_law.specs.Open.{Open, AreAll, HoldsWords, IsOpenCode, IsGated, IsShut}
use Rattle.open_law.specs.Body.{code_below, IsBodyLaw, StartsOpen, StartsShut}
use Rattle.code_pieces.specs.Pieces.{entry, exit, open_gate, sleep}

-- SR without CPUOFF
abbrev pub awake_sr : ℕ → ℕ
awake_sr sr = if bit sr 4 then sr - 16 else sr

-- The processor that a handler's code goes back to. The acceptance left SR and the address on the stack
abbrev pub resumed_by : Cpu → (ℕ → ℕ) → Cpu
resumed_by c ram = record {
  pc = even (word_in ram (c.sp + 2));
  sp = c.sp + 4;
  sr = awake_sr (word_in ram c.sp);
  others = c.others;
  gate = bit (awake_sr (word_in ram c.sp)) 3;
}

-- a handler's code is back: all registers are as they were, and SR but for CPUOFF
pub record HasResumed (act : List ℕ → ℕ → Performed) (c : Cpu) (ram : ℕ → ℕ) (o : Open) : Type 0 where
  pub cpu : o.cpu ≡ resumed_by c ram
  pub all : AreAll act o.done

abbrev pub call : ℕ → Instr
call body = One Call false (Immediate body)

-- the code at a line's vector: entry, a call of the body at an address where the line has one, exit
abbrev pub line_code : Option ℕ → List Instr
line_code None = entry ++ exit
line_code (Some body) = entry ++ (call body ∷ exit)

-- it stands there, with no silent actions
pub record IsLine (image : ℕ → ℕ) (marks : ℕ → List Action) (start : ℕ) (body : Option ℕ) : Type 0 where
  pub end : ℕ
  pub code : AreAt image start (line_code body) end
  pub no_marks : (a : ℕ) → start ≤ a → a < end → marks a ≡ []

-- reset: SP, GIE, the boot body; then sleep, in a loop
abbrev pub reset_code : (boot : ℕ) → List Instr
reset_code boot = Two Mov false (Immediate RAM_END) (Reg 1) ∷ open_gate ∷ call boot ∷ (sleep ++ Jump Jmp (negsuc 2) ∷ [])

module _ (image : ℕ → ℕ) (data_end : ℕ) (marks : ℕ → List Action) (act : List ℕ → ℕ → Performed) where
  -- The law of the code at a line's vector, from the acceptance to RETI: it leaves what it interrupts as it was
  abbrev pub IsHandlerLaw : (start depth bound : ℕ) → Type 0
  IsHandlerLaw start depth bound =
      (c : Cpu) (ram : ℕ → ℕ) → c.pc ≡ start → c.sr ≡ 0 → c.gate ≡ false → HoldsWords c → data_end + depth ≤ c.sp → c.sp + 4 ≤ RAM_END → ((a : ℕ) → ram a < 0x100) →
      IsOpenCode act (code_below image data_end marks (c.sp + 4)) (c.sp - depth) bound IsShut (HasResumed act c ram) c ram

  -- what it calls meets the law with the gate closed, or it calls nothing and there is nothing to do
  abbrev pub Serves : (depth bound : ℕ) → Option ℕ → Type 0
  Serves depth bound None = AreAll act []
  Serves depth bound (Some body) = (body < 0x10000) × (even body ≡ body) × IsBodyLaw image data_end marks (λ code o. IsShut o) act body depth bound StartsShut

-- the numbers of an image: the end of the data, the boot body's address, the deepest stacks of the boot body and of a handler's code, and
-- the instructions between two actions
pub record Sizes : Type 0 where
  pub data_end : ℕ
  pub boot : ℕ
  pub boot_depth : ℕ
  pub handler_depth : ℕ
  pub bound : ℕ

-- the bytes of the stack: the boot body's return address and frames, an acceptance, and a handler's code
abbrev pub stack_of : Sizes → ℕ
stack_of z = 2 + z.boot_depth + 4 + z.handler_depth

-- a line's vector, and the code there
pub record IsVector (P : Source) (image : ℕ → ℕ) (marks : ℕ → List Action) (z : Sizes) (v : ℕ) : Type 0 where
  pub entry : ℕ
  pub stands : word_in image (VECTORS + 2 * v) ≡ entry
  pub word : entry < 0x10000
  pub law : IsHandlerLaw image z.data_end marks (act_of P (P.handler v)) (even entry) z.handler_depth z.bound

-- the image of a program without tasks
pub record IsBuilt (P : Source) (image : ℕ → ℕ) (marks : ℕ → List Action) (z : Sizes) : Type 0 where
  pub low_end : RAM_START ≤ z.data_end
  pub even_end : even z.data_end ≡ z.data_end
  pub room : z.data_end + stack_of z ≤ RAM_END
  pub some : 1 ≤ z.bound
  pub reset_at : ℕ
  pub reset_end : ℕ
  pub vector : word_in image 0xFFFE ≡ reset_at
  pub reset : AreAt image reset_at (reset_code z.boot) reset_end
  pub even_boot : even z.boot ≡ z.boot
  pub low_boot : z.boot < 0x10000
  pub body : IsBodyLaw image z.data_end marks IsGated (P.act P.boot) z.boot z.boot_depth z.bound StartsOpen
  pub handlers : (v : ℕ) → v < 8 → IsVector P image marks z v
