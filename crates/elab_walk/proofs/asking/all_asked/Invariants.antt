use Rattle.std.proofs.Common.{◌≡◌, map, drop}
use Rattle.elab_making.specs.View.{whole_of}
use Rattle.elab_meaning.specs.View.{asked_of}
use Rattle.elab_rules.specs.Tells.{Tells}
use Rattle.elab_walk.proofs.asking.all_asked.Given as goal
use Rattle.program_meaning.specs.Walk as spec

abbrev pub invariant-loop-a : goal.invariant-loop-a
invariant-loop-a l =
    (t : spec.Told) → Tells l.m t
    → spec.all_asked t (map asked_of l.asked) (whole_of l.fn.whole) ≡ spec.all_asked t (map asked_of (drop l.a-index l.asked)) (whole_of l.whole)
