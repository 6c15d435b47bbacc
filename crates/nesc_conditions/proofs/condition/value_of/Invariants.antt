use Rattle.std.proofs.Common.{ℤ, [], Option}
use Rattle.nesc_conditions.specs.Conditions.{From}
use Rattle.nesc_conditions.specs.Frames.{EndsIn, StateEndsIn, work}
use Rattle.nesc_conditions.proofs.condition.value_of.Given as goal

abbrev pub invariant-loop-state : goal.invariant-loop-state
invariant-loop-state l = (v : Option ℤ) → StateEndsIn l.frames l.state v → EndsIn [] (From 0) l.tokens v

abbrev pub decreases-loop-state : goal.decreases-loop-state
decreases-loop-state l = work l.frames l.state
