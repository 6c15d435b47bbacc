-- A function that meets its law with a bound meets it with every larger one, and with more room on the stack.
use Rattle.std.proofs.Common.{ℕ, ◌+◌, ◌-◌, ◌≤◌, List, arith}
use Rattle.nm_base.specs.declared.action.Action.{Action}
use Rattle.nm_base.specs.Behaviour.{Trace}
use Rattle.msp430_cpu.specs.Cpu.{Cpu}
use Rattle.open_law.specs.Body.{HasGiven, IsFunctionLaw, acts, code_below}
use Rattle.open_law.specs.Open.{Code, Open}
use Rattle.open_law.proofs.Wider.{wider}

pub function_wider : (image : ℕ → ℕ) (data_end : ℕ) (marks : ℕ → List Action) (Gate : Code → Open → Type 0) (gives : ℕ) (act : List ℕ → ℕ → Trace) (entry depth deeper bound bound' : ℕ) (Starts : Cpu → Type 0) → depth ≤ deeper → bound ≤ bound' →
    IsFunctionLaw image data_end marks Gate gives act entry depth bound Starts → IsFunctionLaw image data_end marks Gate gives act entry deeper bound' Starts
function_wider image data_end marks Gate gives act entry depth deeper bound bound' Starts le more law c ram pc starts awake words room high bytes =
    let code = code_below image data_end marks (c.sp + 2) in
    let b = wider (acts act) code (c.sp - depth) bound bound' (Gate code) (HasGiven gives act c ram) c ram more (law c ram pc starts awake words (omega (arith, le, room)) high bytes) in
    record {
      between = λ moments ok.
          let k = b.between moments ok in
          let low = k.low in
          record { next = k.next; low = omega (arith, low, le); high = k.high; words = k.words; bytes = k.bytes; marks = k.marks; gate = k.gate; awake = k.awake; back = k.back };
      fair = b.fair;
      soon = b.soon;
    }
