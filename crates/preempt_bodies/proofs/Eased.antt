-- The law of a handler's code holds with more stack and with a larger bound.
use Rattle.std.proofs.Common.{ℕ, ◌+◌, ◌-◌, ◌≤◌, List, arith}
use Rattle.nm_base.specs.declared.action.Action.{Action}
use Rattle.nm_base.specs.Behaviour.{Performed}
use Rattle.open_law.specs.Open.{IsShut}
use Rattle.open_law.specs.Body.{code_below}
use Rattle.open_law.proofs.Wider.{wider}
use Rattle.preempt_bodies.specs.Bodies.{HasResumed, IsHandlerLaw}

pub eased : (image : ℕ → ℕ) (data_end : ℕ) (marks : ℕ → List Action) (act : List ℕ → ℕ → Performed) (start depth deeper bound more : ℕ) → depth ≤ deeper → bound ≤ more →
    IsHandlerLaw image data_end marks act start depth bound → IsHandlerLaw image data_end marks act start deeper more
eased image data_end marks act start depth deeper bound more le few law c ram pc sr gate words room high bytes =
    let k = wider act (code_below image data_end marks (c.sp + 4)) (c.sp - depth) bound more IsShut (HasResumed act c ram) c ram few (law c ram pc sr gate words (omega (arith, le, room)) high bytes) in
    record {
      between = λ moments ok.
          let b = k.between moments ok in
          let l = b.low in
          record { next = b.next; low = omega (arith, l, le); high = b.high; words = b.words; bytes = b.bytes; marks = b.marks; gate = b.gate; awake = b.awake; back = b.back };
      fair = k.fair;
      soon = k.soon;
    }
