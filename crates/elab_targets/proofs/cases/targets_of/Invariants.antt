use Rattle.std.proofs.Common.{◌≡◌, ◌++◌, map, drop}
use Rattle.program_meaning.specs.Items.{targets_of}
use Rattle.elab_facts.specs.View.{target_of}
use Rattle.elab_targets.specs.Starts.{AreTables}
use Rattle.elab_targets.specs.View.{application_of}
use Rattle.elab_targets.proofs.cases.targets_of.Given as goal

abbrev pub invariant-loop-end : goal.invariant-loop-end
invariant-loop-end l = AreTables (application_of l.app) l.tables
    → map target_of l.targets.items ++ targets_of (application_of l.app) l.item (drop l.end-index l.ends) ≡ targets_of (application_of l.app) l.item l.ends
