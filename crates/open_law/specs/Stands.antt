-- Where an instruction and the silent actions in front of it stand in an image (own).
use Rattle.std.specs.Prelude.{◌≡◌, ℕ, ℤ, ◌+◌, List, []}
use Rattle.nm_base.specs.declared.action.Action.{Action}
use Rattle.msp_isa.specs.declared.instr.Cond.{Cond}
use Rattle.msp_isa.specs.declared.instr.Instr.{Instr}
use Rattle.msp_isa.specs.declared.instr.Instr.TheVariants.{Jump}
use Rattle.msp_isa.specs.Stands.{IsAt}
use Rattle.msp430_cpu.specs.Exec.{jumped}

-- an instruction stands at an address, and the table has just these silent actions for it
pub record IsMarked (image : ℕ → ℕ) (marks : ℕ → List Action) (pc : ℕ) (silent : List Action) (i : Instr) : Type 0 where
  pub at : IsAt image pc i
  pub table : marks pc ≡ silent

-- a jump stands at an address without silent actions, and leads from there to another address
pub record JumpsTo (image : ℕ → ℕ) (marks : ℕ → List Action) (pc target : ℕ) (c : Cond) : Type 0 where
  pub offset : ℤ
  pub at : IsMarked image marks pc [] (Jump c offset)
  pub leads : jumped (pc + 2) offset ≡ target
