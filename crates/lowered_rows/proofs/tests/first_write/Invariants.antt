use Rattle.mid_code.specs.State.{IsStateOf}
use Rattle.lowered_rows.proofs.tests.first_write.Given as goal

abbrev pub invariant-loop : goal.invariant-loop
invariant-loop l = IsStateOf l.c l.state
