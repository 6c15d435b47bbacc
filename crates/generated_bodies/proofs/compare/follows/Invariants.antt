use Rattle.mid_code.specs.State.{IsStateOf}
use Rattle.generated_bodies.proofs.compare.follows.Given as goal

abbrev pub invariant-loop : goal.invariant-loop
invariant-loop l = IsStateOf l.code l.state
