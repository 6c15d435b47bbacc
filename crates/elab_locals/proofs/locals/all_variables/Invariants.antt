use Rattle.std.proofs.Common.{◌≡◌, map, drop}
use Rattle.nesc_core.specs.View.{stmt_of}
use Rattle.elab_meaning.specs.Elab.{after}
use Rattle.elab_meaning.specs.View.{based_of, env_of, state_of}
use Rattle.body_meaning.specs.Stmts as spec
use Rattle.body_meaning.specs.View.{variable_of}
use Rattle.elab_locals.proofs.Turns.{behind}
use Rattle.elab_locals.proofs.locals.all_variables.Given as goal

abbrev pub invariant-loop-v : goal.invariant-loop-v
invariant-loop-v l =
    spec.all_variables (env_of l.fn.told.env) l.fn.told.values (based_of l.fn.b) l.fn.said (map variable_of l.fn.vars) (state_of l.fn.work)
    ≡ after (spec.all_variables (env_of l.told.env) l.told.values (based_of l.b) l.said (map variable_of (drop l.v-index l.v-items)) (state_of l.work)) (behind (map stmt_of l.code.items))
