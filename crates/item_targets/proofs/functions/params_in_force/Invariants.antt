-- What the rest brings in force, from here, is what all do.
use Rattle.std.proofs.Common.{◌≡◌, drop, map}
use Rattle.body_meaning.specs.View.{param_of}
use Rattle.nesc_unwired.specs.Calls as spec
use Rattle.elab_attempts.specs.View.{now}
use Rattle.item_targets.specs.Walk.{env_in, module_of}
use Rattle.item_targets.proofs.functions.params_in_force.Given as goal

abbrev pub invariant-loop-p : goal.invariant-loop-p
invariant-loop-p g l =
    spec.params_in_force (env_in g.R.Reaches.reach l.walk) (module_of g.R.Reaches.reach l.walk) l.at (map param_of (drop l.p-index l.p-items)) (now l.scopes)
    ≡ spec.params_in_force (env_in g.R.Reaches.reach l.fn.walk) (module_of g.R.Reaches.reach l.fn.walk) l.fn.at (map param_of l.fn.params) (now l.fn.scopes)
