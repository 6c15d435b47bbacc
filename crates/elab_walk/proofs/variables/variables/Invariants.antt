use Rattle.std.proofs.Common.{◌≡◌, map, drop}
use Rattle.body_meaning.specs.View.{variable_of}
use Rattle.elab_making.specs.View.{whole_of}
use Rattle.elab_meaning.specs.View.{based_of}
use Rattle.elab_rules.specs.Tells.{Tells}
use Rattle.elab_walk.proofs.variables.variables.Given as goal
use Rattle.program_meaning.specs.Walk as spec

abbrev pub invariant-loop-v : goal.invariant-loop-v
invariant-loop-v l =
    (t : spec.Told) → Tells l.m t
    → spec.variables t (based_of l.b) l.said l.norace (map variable_of l.vars) (whole_of l.fn.whole)
    ≡ spec.variables t (based_of l.b) l.said l.norace (map variable_of (drop l.v-index l.vars)) (whole_of l.whole)
