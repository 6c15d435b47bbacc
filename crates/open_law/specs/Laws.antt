-- What is so of all code that meets the open law (own).
use Rattle.std.specs.Prelude.{ℕ, ◌≤◌, false, List, []}
use Rattle.nm_base.specs.declared.memory_map.TheConstants.{RAM_START}
use Rattle.nm_base.specs.declared.action.Action.{Action}
use Rattle.nm_base.specs.Behaviour.{Performed, Trace, Returned}
use Rattle.msp_isa.specs.declared.instr.Op2.TheVariants.{Mov}
use Rattle.msp_isa.specs.declared.instr.Operand.TheVariants.{Reg, Increment}
use Rattle.msp_isa.specs.declared.instr.Instr.TheVariants.{Two}
use Rattle.open_law.specs.Body.{acts, IsOpenBody, IsOpenFunction}
use Rattle.open_law.specs.Stands.{IsMarked}

-- a larger bound is met too, and more room on the stack is used no worse
abbrev pub WiderIsMet : Type 0
WiderIsMet =
    (image : ℕ → ℕ) (data_end : ℕ) (marks : ℕ → List Action) (act : List ℕ → ℕ → Performed) (entry depth deeper bound wider : ℕ) → depth ≤ deeper → bound ≤ wider →
    IsOpenBody image data_end marks act entry depth bound → IsOpenBody image data_end marks act entry deeper wider

-- a function is a body
abbrev pub FunctionsAreBodies : Type 0
FunctionsAreBodies =
    (image : ℕ → ℕ) (data_end : ℕ) (marks : ℕ → List Action) (gives : ℕ) (act : List ℕ → ℕ → Trace) (entry depth bound : ℕ) →
    IsOpenFunction image data_end marks gives act entry depth bound → IsOpenBody image data_end marks (acts act) entry depth bound

-- what does nothing and gives no value
abbrev pub nothing : List ℕ → ℕ → Trace
nothing answers n = record { actions = []; why = Returned 0 }

-- a lone RET, without marks, is the code of a function that does nothing, called with the gate open and with it closed
abbrev pub LoneReturnIsOpen : Type 0
LoneReturnIsOpen =
    (image : ℕ → ℕ) (data_end : ℕ) (marks : ℕ → List Action) (entry : ℕ) → RAM_START ≤ data_end → IsMarked image marks entry [] (Two Mov false (Increment 1) (Reg 0)) →
    IsOpenFunction image data_end marks 0 nothing entry 0 2
