use Rattle.std.proofs.Common.{◌≡◌, length, map}
use Rattle.body_meaning.specs.View.{attr_of}
use Rattle.program_meaning.specs.Heads.{is_interrupt}
use Rattle.elab_heads.proofs.handlers.is_interrupt.Given as goal

abbrev pub invariant-loop-a : goal.invariant-loop-a
invariant-loop-a l = is_interrupt (map attr_of l.rest) ≡ is_interrupt (map attr_of l.attrs)

abbrev pub decreases-loop-a : goal.decreases-loop-a
decreases-loop-a l = length l.rest
