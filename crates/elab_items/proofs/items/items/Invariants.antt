use Rattle.std.proofs.Common.{◌≡◌, map, drop}
use Rattle.elab_facts.specs.View.{fact_of}
use Rattle.elab_meaning.specs.Elab.{after}
use Rattle.elab_meaning.specs.View.{env_of, state_of}
use Rattle.elab_locals.proofs.Turns.{behind}
use Rattle.elab_targets.specs.Starts.{AreTables}
use Rattle.elab_targets.specs.View.{application_of, element_of, sig_of}
use Rattle.elab_items.specs.Parts as parts
use Rattle.elab_items.proofs.items.items.Given as goal

abbrev pub invariant-loop-item : goal.invariant-loop-item
invariant-loop-item l =
    AreTables (application_of l.fn.ground.app.now) l.fn.ground.tables.now →
    parts.items_of (application_of l.fn.ground.app.now) (env_of l.fn.told.env) l.fn.told.values l.fn.ground.instance (element_of l.fn.x) (map sig_of l.fn.sigs) (state_of l.fn.work)
    ≡ after (parts.items_of (application_of l.ground.app.now) (env_of l.told.env) l.told.values l.ground.instance (element_of l.x) (map sig_of (drop l.item-index l.sigs)) (state_of l.work)) (behind (map fact_of l.facts.items))
