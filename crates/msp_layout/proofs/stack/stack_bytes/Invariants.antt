-- The deepest of the lines so far.
use Rattle.msp_layout.proofs.Handlers.{SoFar}
use Rattle.msp_layout.proofs.stack.stack_bytes.Given as goal

abbrev pub invariant-loop-line : goal.invariant-loop-line
invariant-loop-line l = SoFar l.code l.lines l.line-index l.handlers
