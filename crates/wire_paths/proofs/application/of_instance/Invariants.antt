use Rattle.std.proofs.Common.{◌≤◌, ◌-◌}
use Rattle.wire_paths.specs.Answers.{Answer, Each}
use Rattle.wire_paths.specs.Ground.{app_of}
use Rattle.wire_paths.specs.Paths.{OfElement}
use Rattle.wire_paths.proofs.application.of_instance.Given as goal

-- what the rest gives is what the whole gives
abbrev pub invariant-loop-element : goal.invariant-loop-element
invariant-loop-element l = record {
  within : l.element ≤ l.count;
  whole : (answer : Answer) → Each (OfElement (app_of l.ground) l.ground.pairs.now l.instance) l.element (l.count - l.element) answer
      → Each (OfElement (app_of l.ground) l.ground.pairs.now l.instance) 0 l.count answer;
}

abbrev pub decreases-loop-element : goal.decreases-loop-element
decreases-loop-element l = l.count - l.element
