use Rattle.std.proofs.Common.{◌≡◌, map, drop}
use Rattle.elab_facts.specs.View.{fact_of}
use Rattle.elab_meaning.specs.Elab.{after}
use Rattle.elab_meaning.specs.View.{env_of, state_of}
use Rattle.elab_locals.proofs.Turns.{behind}
use Rattle.elab_targets.specs.Starts.{AreTables}
use Rattle.elab_targets.specs.View.{application_of, element_of}
use Rattle.wire_scopes.specs.View.{base_view}
use Rattle.elab_items.specs.Parts as parts
use Rattle.elab_items.proofs.elements.all_elements.Given as goal

abbrev pub invariant-loop-x : goal.invariant-loop-x
invariant-loop-x l =
    AreTables (application_of l.fn.ground.app.now) l.fn.ground.tables.now →
    parts.facts_of (application_of l.fn.ground.app.now) (env_of l.fn.told.env) l.fn.told.values (base_view l.fn.base) l.fn.ground.instance (map element_of l.fn.elems) (state_of l.fn.work)
    ≡ after (parts.facts_of (application_of l.ground.app.now) (env_of l.told.env) l.told.values (base_view l.base) l.ground.instance (map element_of (drop l.x-index l.elems)) (state_of l.work)) (behind (map fact_of l.facts.items))
