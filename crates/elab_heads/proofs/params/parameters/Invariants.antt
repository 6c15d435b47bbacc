use Rattle.std.proofs.Common.{◌≡◌, map, drop}
use Rattle.nesc_core.specs.View.{type_of}
use Rattle.elab_meaning.specs.Elab.{after}
use Rattle.elab_meaning.specs.View.{env_of, state_of}
use Rattle.elab_locals.proofs.Turns.{behind}
use Rattle.body_meaning.specs.View.{param_of}
use Rattle.program_meaning.specs.Heads as spec
use Rattle.elab_heads.proofs.params.parameters.Given as goal

abbrev pub invariant-loop-p : goal.invariant-loop-p
invariant-loop-p l =
    spec.parameters (env_of l.fn.told.env) l.fn.told.values l.fn.at (map param_of l.fn.params) (state_of l.fn.work)
    ≡ after (spec.parameters (env_of l.told.env) l.told.values l.at (map param_of (drop l.p-index l.p-items)) (state_of l.work)) (behind (map type_of l.types.items))
