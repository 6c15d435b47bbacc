use Rattle.std.proofs.Common.{◌≡◌, length, map}
use Rattle.elab_targets.specs.View.{wired_of}
use Rattle.unwired_items.specs.Modules.{ends_with}
use Rattle.unwired_items.proofs.ends.ends_with.Given as goal

abbrev pub invariant-loop-wired : goal.invariant-loop-wired
invariant-loop-wired l = ends_with (map wired_of l.named) l.others l.value ≡ ends_with (map wired_of l.rest) l.others l.value

abbrev pub decreases-loop-wired : goal.decreases-loop-wired
decreases-loop-wired l = length l.rest
