use Rattle.std.proofs.Common.{◌≡◌, map, drop}
use Rattle.nesc_tree.specs.View.{spec_of}
use Rattle.elab_meaning.specs.Elab.{after}
use Rattle.elab_meaning.specs.View.{entry_of, env_of, state_of}
use Rattle.elab_locals.proofs.Turns.{behind}
use Rattle.elab_items.specs.Parts as parts
use Rattle.elab_items.proofs.parameters.arguments.Given as goal

abbrev pub invariant-loop-t : goal.invariant-loop-t
invariant-loop-t l =
    parts.arguments (env_of l.fn.told.env) l.fn.told.values l.fn.at l.fn.params (map spec_of l.fn.args) (state_of l.fn.work)
    ≡ after (parts.arguments (env_of l.told.env) l.told.values l.at l.params (map spec_of (drop l.t-index l.args)) (state_of l.work)) (behind (map entry_of l.entries.items))
