-- The open law of a body's code: what is so of it whenever it is called (own).
use Rattle.std.specs.Prelude.{◌≡◌, ℕ, zero, suc, ◌+◌, ◌-◌, ◌*◌, ◌<◌, ◌≤◌, true, false, List, None}
use Rattle.nm_base.specs.declared.memory_map.TheConstants.{RAM_END}
use Rattle.nm_base.specs.declared.action.Action.{Action}
use Rattle.msp430_cpu.specs.Cpu.{Cpu, even, gie, cpuoff, reg}
use Rattle.nm_base.specs.Behaviour.{Performed, Trace, Returned, is_returned}
use Rattle.open_law.specs.Open.{Open, Code, AreAll, HoldsWords, IsOpenCode, IsGated, IsShut, actions_of, answers_of, is_within, fault_of}
use Rattle.msp_isa.specs.Stands.{word_in}

-- a called body is back: the return address is popped, the gate is as it was, no atomic statement is open, and it has done all
pub record HasReturned (act : List ℕ → ℕ → Performed) (c : Cpu) (ram : ℕ → ℕ) (o : Open) : Type 0 where
  pub sp : o.cpu.sp ≡ c.sp + 2
  pub pc : o.cpu.pc ≡ even (word_in ram c.sp)
  pub awake : cpuoff o.cpu ≡ false
  pub gate : o.cpu.gate ≡ c.gate
  pub gie : gie o.cpu ≡ gie c
  pub outside : is_within o.done ≡ false
  pub no_fault : fault_of o.done ≡ None
  pub all : AreAll act o.done

-- what a function does, as the actions of a body
abbrev pub acts : (List ℕ → ℕ → Trace) → List ℕ → ℕ → Performed
acts act answers n = let t = act answers n in record { actions = t.actions; ended = is_returned t.why }

-- the number that registers give: no value is 0, R12 holds one value, R12 and R13 the halves of a number of two
abbrev pub given_in : (gives : ℕ) → (ℕ → ℕ) → ℕ
given_in zero regs = 0
given_in (suc zero) regs = regs 12
given_in (suc (suc more)) regs = regs 12 + 65536 * regs 13

-- a called function is back, and registers hold what it gives
pub record HasGiven (gives : ℕ) (act : List ℕ → ℕ → Trace) (c : Cpu) (ram : ℕ → ℕ) (o : Open) : Type 0 where
  pub returned : HasReturned (acts act) c ram o
  pub value : ℕ
  pub turns : ℕ
  pub ended : act (answers_of o.done) turns ≡ record { actions = actions_of o.done; why = Returned value }
  pub result : given_in gives (reg o.cpu) ≡ value

-- a body's start with the gate open, and with the gate closed
abbrev pub StartsOpen : Cpu → Type 0
StartsOpen c = (c.gate ≡ true) × (gie c ≡ true)

abbrev pub StartsShut : Cpu → Type 0
StartsShut c = (c.gate ≡ false) × (gie c ≡ false)

module _ (image : ℕ → ℕ) (data_end : ℕ) (marks : ℕ → List Action) where
  abbrev pub code_below : ℕ → Code
  code_below top = record { image = image; data_end = data_end; marks = marks; top = top }

  -- The law of a body that is called with the gate open or closed throughout: `Gate` says which
  abbrev pub IsBodyLaw : (Gate : Code → Open → Type 0) → (act : List ℕ → ℕ → Performed) → (entry depth bound : ℕ) → (Starts : Cpu → Type 0) → Type 0
  IsBodyLaw Gate act entry depth bound Starts =
      (c : Cpu) (ram : ℕ → ℕ) → c.pc ≡ entry → Starts c → cpuoff c ≡ false → HoldsWords c → data_end + depth ≤ c.sp → c.sp + 2 ≤ RAM_END → ((a : ℕ) → ram a < 0x100) →
      IsOpenCode act (code_below (c.sp + 2)) (c.sp - depth) bound (Gate (code_below (c.sp + 2))) (HasReturned act c ram) c ram

  -- The same of a function that gives so many values, at most two
  abbrev pub IsFunctionLaw : (Gate : Code → Open → Type 0) → (gives : ℕ) → (act : List ℕ → ℕ → Trace) → (entry depth bound : ℕ) → (Starts : Cpu → Type 0) → Type 0
  IsFunctionLaw Gate gives act entry depth bound Starts =
      (c : Cpu) (ram : ℕ → ℕ) → c.pc ≡ entry → Starts c → cpuoff c ≡ false → HoldsWords c → data_end + depth ≤ c.sp → c.sp + 2 ≤ RAM_END → ((a : ℕ) → ram a < 0x100) →
      IsOpenCode (acts act) (code_below (c.sp + 2)) (c.sp - depth) bound (Gate (code_below (c.sp + 2))) (HasGiven gives act c ram) c ram

  -- called with the gate open, and called with it closed
  abbrev pub IsOpenBody : (act : List ℕ → ℕ → Performed) → (entry depth bound : ℕ) → Type 0
  IsOpenBody act entry depth bound = IsBodyLaw IsGated act entry depth bound StartsOpen × IsBodyLaw (λ code o. IsShut o) act entry depth bound StartsShut

  abbrev pub IsOpenFunction : (gives : ℕ) → (act : List ℕ → ℕ → Trace) → (entry depth bound : ℕ) → Type 0
  IsOpenFunction gives act entry depth bound = IsFunctionLaw IsGated gives act entry depth bound StartsOpen × IsFunctionLaw (λ code o. IsShut o) gives act entry depth bound StartsShut
