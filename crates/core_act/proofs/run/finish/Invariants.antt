use Rattle.std.proofs.Common.{◌≡◌}
use Rattle.core_act.specs.Moves.{IsSafe, all_of}
use Rattle.core_act.specs.Steps.{steps_left}
use Rattle.core_act.proofs.run.finish.Given as goal

abbrev pub invariant-loop-m : goal.invariant-loop-m
invariant-loop-m l = record {
  same : all_of l.m ≡ all_of l.fn.m;
  safe : IsSafe l.m;
}

abbrev pub decreases-loop-m : goal.decreases-loop-m
decreases-loop-m l = steps_left l.m.scope l.m.tasks
