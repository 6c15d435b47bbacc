use Rattle.std.proofs.Common.{◌≤◌, ◌-◌}
use Rattle.wire_paths.specs.Answers.{Answer, Each}
use Rattle.wire_paths.specs.Ground.{app_of}
use Rattle.wire_paths.specs.Paths.{OfInstance}
use Rattle.wire_paths.proofs.application.of_instances.Given as goal

-- what the rest gives is what the whole gives
abbrev pub invariant-loop-instance : goal.invariant-loop-instance
invariant-loop-instance l = record {
  within : l.instance ≤ l.count;
  whole : (answer : Answer) → Each (OfInstance (app_of l.ground) l.ground.pairs.now) l.instance (l.count - l.instance) answer
      → Each (OfInstance (app_of l.ground) l.ground.pairs.now) 0 l.count answer;
}

abbrev pub decreases-loop-instance : goal.decreases-loop-instance
decreases-loop-instance l = l.count - l.instance
